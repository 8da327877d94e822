-- Computed.
use Rattle.std.proofs.Common.{refl}
use Rattle.bits.specs.Bits.{bit, bit_at, bits_of, bytes_bits, differ}
use Rattle.bits.specs.Crc.{covered, crc_from, crc_step, doubled}
use Rattle.bits.specs.Number.{number_from}
use Rattle.frame.specs.Fields.{fields}
use Rattle.frame.specs.Line.{line}
use Rattle.frame.specs.Stuffing.{run, stuff, unstuff}
use Rattle.reader.specs.Reading.{begins, bytes_in, found}
use Rattle.reader.proofs.laws.seven_within.Goals as goal

pub returns : goal.returns
unfolding bit bit_at bits_of bytes_bits differ covered crc_from crc_step doubled number_from fields line run stuff unstuff begins bytes_in found
returns c = record { sevens = refl; there = refl; whole = refl }
