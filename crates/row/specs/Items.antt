-- The values of a row: those in front of its places, as many as it has. What stands behind them means nothing.
-- Assumes nothing: these are definitions.
--
--   items r            the values of the row r
use Rattle.std.specs.Prelude.{ℕ, List, take}
use Rattle.row.specs.declared.row.Row.{Row}

abbrev pub items : {T : Type 0} {n : ℕ} → Row T n → List T
items r = take r.len r.places
