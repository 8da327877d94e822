-- A byte at a time gives the same check.
use Rattle.bits.proofs.CrcLaws.{crc_bytes_is}
use Rattle.bits.proofs.laws.crc_by_bytes.Goals as goal

pub returns : goal.returns
returns c = crc_bytes_is
