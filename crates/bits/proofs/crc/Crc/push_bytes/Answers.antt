-- A byte more is eight bits more; past the last byte nothing is left.
use Rattle.std.proofs.Common.{◌+◌, drop, sym, ap, ◌∙◌}
use Rattle.std.proofs.lemmas.List.{at_drop_all}
use Rattle.bits.proofs.CrcLaws.{crc_from_bytes_more}
use Rattle.bits.specs.Bits.{bytes_bits}
use Rattle.bits.specs.Crc.{crc_from}
use Rattle.bits.proofs.crc.Crc.push_bytes.Goals as goal

pub loop-byte-preserved : goal.loop-byte-preserved
loop-byte-preserved c =
    ap (λ x. crc_from x (bytes_bits (drop (c.loop-byte.byte-index + 1) c.args.bytes.now))) c.push_byte-crc.ensures
    ∙ sym (crc_from_bytes_more c.loop-byte.crc.value c.args.bytes.now c.loop-byte.byte-index c.loop-byte-test.true)
    ∙ c.loop-byte.invariant

pub returns : goal.returns
unfolding bytes_bits crc_from
returns c =
    sym (at_drop_all (λ xs. crc_from c.loop-byte.crc.value (bytes_bits xs)) _ _ c.loop-byte-test.false) ∙ c.loop-byte.invariant
