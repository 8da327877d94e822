-- What is left of the bytes brings the check to what all of them bring the first check to.
use Rattle.std.proofs.Common.{◌≡◌, drop}
use Rattle.bits.specs.Bits.{bytes_bits}
use Rattle.bits.specs.Crc.{crc_from}
use Rattle.bits.proofs.crc.Crc.push_bytes.Given as goal

abbrev pub invariant-loop-byte : goal.invariant-loop-byte
invariant-loop-byte l =
    crc_from l.crc.value (bytes_bits (drop l.byte-index l.bytes))
    ≡ crc_from l.initial.crc.value (bytes_bits l.bytes)
