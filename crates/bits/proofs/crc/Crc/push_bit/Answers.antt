-- The two ways of the `if` are the two cases of a step; on each, the value is below 2 ^ 15.
use Rattle.std.proofs.Common.{sym, ap, ◌∙◌, lit<}
use lib.Bits.{xor_lt}
use Rattle.std.proofs.lemmas.Bool.{cond-true, cond-false}
use Rattle.bits.proofs.BitLaws.{differ_is}
use Rattle.bits.proofs.CrcLaws.{doubled_lt}
use Rattle.bits.specs.Bits.{differ}
use Rattle.bits.specs.Crc.{doubled, crc_step}
use Rattle.bits.proofs.crc.Crc.push_bit.Goals as goal
use Rattle.bits.proofs.crc.Crc.push_bit.Goals.{then-bit-highest, else-bit-highest}

pub invariant_of-result : goal.invariant_of-result
unfolding doubled
invariant_of-result c =
    let v = c.args.self.value in
    record {
      narrow = elim c.if-bit-highest.branch [
        | then-bit-highest w ↦ rw w.value-is (xor_lt 15 (doubled v) _ (doubled_lt v) (lit< tt))
        | else-bit-highest w ↦ rw w.value-is (doubled_lt v)
      ];
    }

pub returns : goal.returns
unfolding crc_step doubled
returns c =
    let compared = ap (differ c.args.bit) (sym c.highest-highest.ensures) ∙ differ_is c.args.bit c.highest-highest.result in
    elim c.if-bit-highest.branch [
      | then-bit-highest w ↦ w.value-is ∙ sym (cond-true _ _ _ (compared ∙ w.if-bit-highest.true))
      | else-bit-highest w ↦ w.value-is ∙ sym (cond-false _ _ _ (compared ∙ w.if-bit-highest.false))
    ]
