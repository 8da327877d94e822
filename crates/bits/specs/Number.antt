-- The number back from its bits, the highest first: bit by bit, what was read so far is doubled and the next bit added.
-- Assumes nothing: these are definitions.
--
--   number_from v bs   the number after the bits bs, where v is what was read before them
--   number bs          the number that the bits bs write
--   in_u64 x           x, if it is below 2 ^ 64, else nothing: what a machine word can say of x
use Rattle.std.specs.Prelude.{ℕ, ◌+◌, ◌*◌, ◌^◌, Bool, cond, List, [], ◌∷◌, Some, None, Option, nat_lt}
use Rattle.bits.specs.Bits.{bit}

unfoldable pub number_from : ℕ → List Bool → ℕ
number_from v [] = v
number_from v (b ∷ bs) = number_from (2 * v + bit b) bs

abbrev pub number : List Bool → ℕ
number bs = number_from 0 bs

abbrev pub in_u64 : ℕ → Option ℕ
in_u64 x = cond (nat_lt x (2 ^ 64)) (Some x) None
