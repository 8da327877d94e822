-- A bit more doubles the number and adds the bit; a number that no longer fits 64 bits only grows.
use Rattle.std.proofs.Common.{◌≡◌, ◌+◌, ◌*◌, ◌^◌, ◌≤◌, false, get_or, drop, Some, None, sym, refl, ap, ◌∙◌, arith}
use Rattle.std.proofs.lemmas.List.{at_drop_all}
use Rattle.std.proofs.lemmas.Bool.{cond_above, cond_below}
use Rattle.bits.proofs.BitLaws.{bool_byte-is}
use Rattle.bits.proofs.NumberLaws.{number_from_more, le_number_from}
use Rattle.bits.specs.Bits.{bit}
use Rattle.bits.specs.Number.{number, number_from}
use Rattle.bits.proofs.numbers.number_of.Goals as goal

pub returns-in_err-checked_mul : goal.returns-in_err-checked_mul
returns-in_err-checked_mul c =
    let v = c.loop-b.number in
    let bs = c.args.bits.now in
    let i = c.loop-b.b-index in
    let past : 2 ^ 64 ≤ number bs =
    omega (
      arith,
      c.in_err-checked_mul.ensures,
      c.loop-b.invariant.0,
      number_from_more v bs i false c.loop-b-test.true,
      le_number_from (2 * v + bit (get_or bs i false)) (drop (i + 1) bs),
    ) in
    c.from_residual.ensures ∙ cond_above (number bs) (2 ^ 64) (Some (number bs)) None None past refl

pub loop-b-preserved : goal.loop-b-preserved
loop-b-preserved c =
    let v = c.loop-b.number in
    let bs = c.args.bits.now in
    let i = c.loop-b.b-index in
    let next : c.in_ok-number.number ≡ 2 * v + bit (get_or bs i false) =
    omega (arith, c.in_ok-number.ensures, c.in_ok-checked_mul.ensures, bool_byte-is (get_or bs i false)) in (
      ap (λ w. number_from w (drop (i + 1) bs)) next ∙ sym (number_from_more v bs i false c.loop-b-test.true) ∙ c.loop-b.invariant.0,
      omega (arith, c.in_ok-number.ensures),
    )

pub returns : goal.returns
unfolding number_from
returns c =
    let whole : c.loop-b.number ≡ number c.args.bits.now =
    sym (at_drop_all (number_from c.loop-b.number) _ _ c.loop-b-test.false) ∙ c.loop-b.invariant.0 in
    ap Some whole ∙ cond_below (number c.args.bits.now) (2 ^ 64) (Some (number c.args.bits.now)) None (omega arith)
