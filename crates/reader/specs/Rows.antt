-- Frames in a row of numbers, ten for each: its identifier, how many bytes it has, and eight places for these.
-- Assumes nothing: these are definitions.
--
--   count_at r i       how many bytes the frame at the place i of the row r says that it has
--   has_frame r i      whether the row r is long enough for a frame at the place i, and that one says no more than eight bytes
--   bytes_at r i       the bytes of the frame at the place i, as a part of the row; none if there is no such frame
use Rattle.std.specs.Prelude.{ℕ, ◌+◌, ◌*◌, Bool, cond, ◌&&◌, List, [], length, take, drop, nat_le, slice_index}

abbrev pub count_at : List ℕ → ℕ → ℕ
count_at r i = slice_index r (10 * i + 1)

abbrev pub has_frame : List ℕ → ℕ → Bool
has_frame r i = nat_le (10 * i + 10) (length r) && nat_le (count_at r i) 8

abbrev pub bytes_at : List ℕ → ℕ → List ℕ
bytes_at r i = cond (has_frame r i) (take (count_at r i) (drop (10 * i + 2) r)) []
