-- What holds of fields, lines and answers. Each is a statement, a type; src/laws.rt has a function for each, whose contract is that
-- statement, so that the crate is accepted only with its proof. Assumes nothing.
--
--   FiveThenOther      wherever five like bits stand in a line before its end, the start counted, a bit of the other kind
--                      comes next, and it too stands before the end
--   NoSix              six like bits stand nowhere in a line before its end: behind any six there are fewer than seven bits
--   Bounds id xs       how long the line of that frame is, at least and at most
--   LengthOfLine       a line has at least 38 bits and eight for each byte, and at most 45 and ten for each byte
--   LongestLine        the line of a good frame has at most 125 bits
--   Unstuffed          the stuff bits taken out again give the row that they were put into
--   FieldsInLine       what stands in a line between its start and its end, with stuff bits taken out, is the frame's fields
--   Parts id xs        the fields of that frame: what stands at which place
--   FieldsApart        of a frame's fields the first 11 bits are its identifier, the next 4 its length, each eight behind them a byte,
--                      in order, and the last 15 the check of all before them
--   OutcomesApart      answers with the same number and values are the same
--   LineOf0            the line of the frame 0 without bytes
--   LineOf5_1          the line of the frame 5 with the byte 1
--   LineOf1007         a line of 123 bits
use Rattle.std.specs.Prelude.{◌≡◌, ℕ, ◌+◌, ◌-◌, ◌*◌, ◌<◌, ◌≤◌, Bool, true, false, not, List, [], ◌∷◌, ◌++◌, length, take, drop, replicate, codes, slice_index}
use Rattle.bits.specs.Bits.{bits_of}
use Rattle.bits.specs.Crc.{crc}
use Rattle.frame.specs.Digits.{digits}
use Rattle.frame.specs.Entries.{outcome}
use Rattle.frame.specs.Fields.{fields}
use Rattle.frame.specs.Good.{good}
use Rattle.frame.specs.Line.{line, start}
use Rattle.frame.specs.Stuffing.{due, stuff, unstuff}
use Rattle.frame.specs.declared.done.Done.{Done}

abbrev pub FiveThenOther : Type 0
FiveThenOther =
    (id : ℕ) (xs : List ℕ) (b : Bool) (u v : List Bool) → line id xs ≡ u ++ (replicate 5 b ++ v) → 7 ≤ length v →
    (w : List Bool) × (v ≡ not b ∷ w) × (7 ≤ length w)

abbrev pub NoSix : Type 0
NoSix = (id : ℕ) (xs : List ℕ) (b : Bool) (u v : List Bool) → line id xs ≡ u ++ (replicate 6 b ++ v) → length v < 7

pub record Bounds (id : ℕ) (xs : List ℕ) : Type 0 where
  pub least : 38 + 8 * length xs ≤ length (line id xs)
  pub most : length (line id xs) ≤ 45 + 10 * length xs

abbrev pub LengthOfLine : Type 0
LengthOfLine = (id : ℕ) (xs : List ℕ) → Bounds id xs

abbrev pub LongestLine : Type 0
LongestLine = (id : ℕ) (xs : List ℕ) → good id xs ≡ true → length (line id xs) ≤ 125

abbrev pub Unstuffed : Type 0
Unstuffed = (b : Bool) (n : ℕ) (cs : List Bool) → due n ≡ false → unstuff b n (stuff b n cs) ≡ cs

abbrev pub FieldsInLine : Type 0
FieldsInLine = (id : ℕ) (xs : List ℕ) → unstuff start 1 (take (length (line id xs) - 8) (drop 1 (line id xs))) ≡ fields id xs

pub record Parts (id : ℕ) (xs : List ℕ) : Type 0 where
  pub identifier : take 11 (fields id xs) ≡ bits_of 11 id
  pub count : take 4 (drop 11 (fields id xs)) ≡ bits_of 4 (length xs)
  pub byte : (i : ℕ) → i < length xs → take 8 (drop (15 + 8 * i) (fields id xs)) ≡ bits_of 8 (slice_index xs i)
  pub check : drop (15 + 8 * length xs) (fields id xs) ≡ bits_of 15 (crc (take (15 + 8 * length xs) (fields id xs)))

abbrev pub FieldsApart : Type 0
FieldsApart = (id : ℕ) (xs : List ℕ) → Parts id xs

abbrev pub OutcomesApart : Type 0
OutcomesApart = (d e : Done) → outcome d ≡ outcome e → d ≡ e

abbrev pub LineOf0 : Type 0
LineOf0 = digits (line 0 []) ≡ codes "00000100000100000100000100000100000101111111"

abbrev pub LineOf5_1 : Type 0
LineOf5_1 = digits (line 5 (1 ∷ [])) ≡ codes "000001000010100010000010010101011110111011111111"

abbrev pub LineOf1007 : Type 0
LineOf1007 =
    digits (line 1007 (120 ∷ 120 ∷ 120 ∷ 120 ∷ 120 ∷ 3 ∷ 195 ∷ 194 ∷ []))
    ≡ codes "001111100111110000011111000001111100000111110000011111000001111100000100000111110000011111000001100000100000111110011111111"
