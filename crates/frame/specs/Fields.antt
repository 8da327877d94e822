-- The fields of a frame, as bits: its identifier in 11, how many bytes it has in 4, each byte in 8, and the check of all these
-- in 15; the highest bit of each first. Rests on bits and the check. Assumes nothing: these are definitions.
--
--   fields id xs       the fields of the frame with the identifier id and the bytes xs
use Rattle.std.specs.Prelude.{ℕ, Bool, List, ◌++◌}
use Rattle.bits.specs.Bits.{bits_of}
use Rattle.bits.specs.Crc.{crc, covered}

unfoldable pub fields : ℕ → List ℕ → List Bool
fields id xs = covered id xs ++ bits_of 15 (crc (covered id xs))
