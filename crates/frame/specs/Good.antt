-- Which frames may be sent: those with an identifier of 11 bits and at most eight bytes.
-- Assumes nothing: these are definitions.
--
--   good id xs         whether a frame with the identifier id and the bytes xs is good
--   all_bytes xs       whether each of the numbers xs is a byte, so below 256
--   good_frame id xs   whether such a frame is good and its bytes are bytes, which is so of every frame that there is
use Rattle.std.specs.Prelude.{ℕ, Bool, true, ◌&&◌, List, [], ◌∷◌, length, nat_le, nat_lt}

abbrev pub good : ℕ → List ℕ → Bool
good id xs = nat_lt id 2048 && nat_le (length xs) 8

abbrev pub all_bytes : List ℕ → Bool
all_bytes [] = true
all_bytes (x ∷ xs) = nat_lt x 256 && all_bytes xs

abbrev pub good_frame : ℕ → List ℕ → Bool
good_frame id xs = good id xs && all_bytes xs
