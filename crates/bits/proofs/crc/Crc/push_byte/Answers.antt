-- The step over a table is the step over eight bits (`crc_from_byte`); both numbers that it adds are below 2 ^ 15.
use Rattle.std.proofs.Common.{◌≡◌, ◌*◌, ◌%◌, ◌^◌, ◌<◌, sym, ◌∙◌, ap₂, arith, lit<}
use lib.Bits.{bit_xor, xor_lt}
use Rattle.bits.proofs.CrcLaws.{crc_from_byte, crc_from_lt}
use Rattle.bits.specs.Crc.{byte_step}
use Rattle.bits.proofs.crc.Crc.push_byte.Goals as goal

pub invariant_of-result : goal.invariant_of-result
invariant_of-result c =
    let narrow : c.crc_of_byte.result < 2 ^ 15 = rw c.crc_of_byte.ensures (crc_from_lt 0 _ (lit< tt)) in
    record { narrow = xor_lt 15 _ _ (omega arith) narrow }

pub returns : goal.returns
unfolding byte_step
returns c =
    let moved : c.args.self.value % 128 * 256 ≡ c.args.self.value * 2 ^ 8 % 2 ^ 15 = omega arith in
    ap₂ bit_xor moved c.crc_of_byte.ensures ∙ sym (crc_from_byte c.args.self.value c.args.byte c.args.self.narrow)
