-- A row and its own check have the check 0.
use Rattle.bits.proofs.CrcLaws.{crc_own_check}
use Rattle.bits.proofs.laws.crc_of_own_check.Goals as goal

pub returns : goal.returns
returns c = crc_own_check
