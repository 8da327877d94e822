-- What is read of bits, from their beginning: if the line of a good frame stands there, the frame, and where its line ends; else
-- nothing. The frame is found by taking the stuff bits out and the fields apart, and it is the one only if its own line is what
-- stands there: so nothing is read but lines. Rests on frames and their lines. Assumes nothing: these are definitions.
--
--   Stands id xs bs    the line of the good frame with the identifier id and the bytes xs stands at the beginning of bs
--   row_in bs          what stands behind the first of the bits bs, with stuff bits taken out
--   length_in d        how many bytes a frame has whose fields begin with the bits d
--   bytes_in n d       the bytes that the bits d write, eight bits each, n of them
--   id_in bs           the identifier of the frame that bs would be the line of
--   data_in bs         the bytes of that frame
--   begins us bs       whether the bits bs begin with the bits us
--   found bs           the identifier and the bytes of the good frame whose line stands at the beginning of bs, and where the line
--                      ends, if there is such a frame
use Rattle.std.specs.Prelude.{◌≡◌, ℕ, zero, suc, Bool, true, false, cond, not, ◌&&◌, List, [], ◌∷◌, ◌++◌, length, take, drop, Some, None, Option}
use Rattle.bits.specs.Bits.{differ}
use Rattle.bits.specs.Number.{number}
use Rattle.frame.specs.Good.{good_frame}
use Rattle.frame.specs.Line.{line, start}
use Rattle.frame.specs.Stuffing.{unstuff}

pub record Stands (id : ℕ) (xs : List ℕ) (bs : List Bool) : Type 0 where
  pub is_good : good_frame id xs ≡ true
  pub behind : List Bool
  pub these : bs ≡ line id xs ++ behind

abbrev pub row_in : List Bool → List Bool
row_in bs = unstuff start 1 (drop 1 bs)

abbrev pub length_in : List Bool → ℕ
length_in d = number (take 4 (drop 11 d))

unfoldable pub bytes_in : ℕ → List Bool → List ℕ
bytes_in zero d = []
bytes_in (suc n) d = number (take 8 d) ∷ bytes_in n (drop 8 d)

abbrev pub id_in : List Bool → ℕ
id_in bs = number (take 11 (row_in bs))

abbrev pub data_in : List Bool → List ℕ
data_in bs = bytes_in (length_in (row_in bs)) (drop 15 (row_in bs))

unfoldable pub begins : List Bool → List Bool → Bool
begins [] bs = true
begins (u ∷ us) [] = false
begins (u ∷ us) (b ∷ bs) = not (differ u b) && begins us bs

unfoldable pub found : List Bool → Option (ℕ × List ℕ × ℕ)
found bs =
    cond (good_frame (id_in bs) (data_in bs) && begins (line (id_in bs) (data_in bs)) bs)
    (Some (id_in bs, data_in bs, length (line (id_in bs) (data_in bs)))) None
