-- The check is linear, here from 0 on.
use Rattle.bits.proofs.CrcLaws.{crc_from-xor}
use Rattle.bits.proofs.laws.crc_linear.Goals as goal

pub returns : goal.returns
returns c = crc_from-xor 0 0
