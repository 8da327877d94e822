-- The check 0 stays 0 after a low bit.
use Rattle.bits.proofs.CrcLaws.{crc_low_front}
use Rattle.bits.proofs.laws.crc_of_low_front.Goals as goal

pub returns : goal.returns
returns c = crc_low_front
