-- Where a number stands that is too large. Places count from 0. Assumes nothing: these are definitions.
--
--   first_above m xs   the place of the first of the numbers xs that is above m, if there is one
use Rattle.std.specs.Prelude.{ℕ, List, Option, nat_lt, position}

abbrev pub first_above : ℕ → List ℕ → Option ℕ
first_above m xs = position (nat_lt m) xs
