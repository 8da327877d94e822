-- Bits as they are written down: a digit for each, 0 for a low bit and 1 for a high one.
-- Assumes nothing: these are definitions.
--
--   digit b            the character code of the digit of a bit
--   digits bs          the text that bits are written as
use Rattle.std.specs.Prelude.{ℕ, Bool, true, false, List, map}

abbrev pub digit : Bool → ℕ
digit true = 49
digit false = 48

abbrev pub digits : List Bool → List ℕ
digits bs = map digit bs
