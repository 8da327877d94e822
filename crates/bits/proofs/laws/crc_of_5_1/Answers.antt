-- The check of one frame, with one byte: antt computes it.
use Rattle.std.proofs.Common.{refl}
use Rattle.bits.specs.Bits.{bit_at, bits_of, bytes_bits, differ}
use Rattle.bits.specs.Crc.{doubled, crc_step, crc_from, covered}
use Rattle.bits.proofs.laws.crc_of_5_1.Goals as goal

pub returns : goal.returns
unfolding covered bytes_bits bits_of crc_from crc_step doubled differ bit_at
returns c = refl
