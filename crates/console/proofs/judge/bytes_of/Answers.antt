-- Each number is judged in turn, and what was pushed of them is all of them.
use Rattle.std.proofs.Common.{◌≡◌, ◌≤◌, ◌<◌, get_or, ◌∙◌, arith, rules}
use Rattle.std.proofs.lemmas.List.{take_all}
use Rattle.std.proofs.lemmas.Grind.{common_steps}
use Rattle.std.proofs.lemmas.Result.{err_from_is_err_and}
use Rattle.console.proofs.RefusalLaws.{good_to_none, good_to_more, bad_at, good_all}
use Rattle.console.specs.declared.refusal.Refusal.TheVariants.{Byte}
use Rattle.console.proofs.judge.bytes_of.Goals as goal

pub loop-i-init : goal.loop-i-init
loop-i-init c = (good_to_none _, c.new-bytes.ensures)

pub returns-in_err-byte : goal.returns-in_err-byte
returns-in_err-byte c =
    let p = err_from_is_err_and c.from_residual.result c.from_residual.ensures.1 in
    let large : 255 < get_or c.args.numbers.now c.loop-i.i-counter 0 = search rules in
    let here : c.in_err-byte.field-0.0 ≡ Byte c.loop-i.i-counter = search rules in
    rw (p.1, p.2, here) (bad_at _ _ c.loop-i.invariant.0 (omega arith) large)

pub loop-i-preserved : goal.loop-i-preserved
loop-i-preserved c =
    let small : get_or c.args.numbers.now c.loop-i.i-counter 0 ≤ 255 = search rules in
    let same : c.in_ok-byte.byte ≡ get_or c.args.numbers.now c.loop-i.i-counter 0 = search rules in
    (good_to_more _ _ c.loop-i.invariant.0 (omega arith) small, grind (arith, common_steps))

pub returns : goal.returns
returns c = (good_all _ _ c.loop-i.invariant.0 (omega arith), c.loop-i.invariant.1 ∙ take_all _ _ (omega arith))
