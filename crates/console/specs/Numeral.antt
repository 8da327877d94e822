-- Numbers in decimal digits: one digit or more, of any length, leading noughts allowed. Text is a list of bytes.
-- Assumes nothing: these are definitions.
--
--   numeral w          whether w is digits, one at least, and nothing else
--   value w            the number that the digits w write
--   number_in w        the number that w writes, or nothing where w is no numeral
--   capped n           n, or the largest number of 64 bits where n is larger: what the code keeps of a number, whose
--                      places are all far below that
use Rattle.std.specs.Prelude.{ℕ, ◌+◌, ◌-◌, ◌*◌, ◌^◌, min, Bool, false, cond, List, [], ◌∷◌, Some, None, Option}
use Rattle.std.specs.List.{fold}
use Rattle.std.specs.Str.{all_ascii_digits}

abbrev pub numeral : List ℕ → Bool
numeral [] = false
numeral (c ∷ cs) = all_ascii_digits (c ∷ cs)

abbrev pub value : List ℕ → ℕ
value w = fold (λ v c. v * 10 + (c - 48)) 0 w

unfoldable pub number_in : List ℕ → Option ℕ
number_in w = cond (numeral w) (Some (value w)) None

unfoldable pub capped : ℕ → ℕ
capped n = min n (2 ^ 64 - 1)
