-- Computed.
use Rattle.std.proofs.Common.{refl}
use Rattle.bits.specs.Bits.{bit_at, bits_of, bytes_bits, differ}
use Rattle.bits.specs.Crc.{covered, crc_from, crc_step, doubled}
use Rattle.frame.specs.Fields.{fields}
use Rattle.frame.specs.Line.{line}
use Rattle.frame.specs.Stuffing.{run, stuff}
use Rattle.reader.proofs.laws.wide_byte.Goals as goal

pub returns : goal.returns
unfolding bit_at bits_of bytes_bits differ covered crc_from crc_step doubled fields line run stuff
returns c = record { narrow = refl; wide = refl; same = refl }
