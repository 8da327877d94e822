-- The line of a frame, which is what goes over the bus: a low bit, its start; the fields with stuff bits; and seven high bits, its
-- end, which are not counted with the bits before them. Assumes nothing: these are definitions.
--
--   start              the bit that a line begins with
--   end                the bits that a line ends with
--   line id xs         the line of the frame with the identifier id and the bytes xs
use Rattle.std.specs.Prelude.{ℕ, Bool, true, false, List, ◌∷◌, ◌++◌, replicate}
use Rattle.frame.specs.Fields.{fields}
use Rattle.frame.specs.Stuffing.{stuff}

abbrev pub start : Bool
start = false

abbrev pub end : List Bool
end = replicate 7 true

unfoldable pub line : ℕ → List ℕ → List Bool
line id xs = start ∷ (stuff start 1 (fields id xs) ++ end)
