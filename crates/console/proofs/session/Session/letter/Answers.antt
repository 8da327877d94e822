-- A letter is judged with its numbers capped, which changes nothing.
use Rattle.std.proofs.lemmas.Result.{err_from_is_err_and}
use Rattle.console.proofs.SessionLaws.{after_bad, after_good}
use Rattle.console.proofs.session.Session.letter.Goals as goal

pub returns-in_err-try_from : goal.returns-in_err-try_from
returns-in_err-try_from c =
    let p = err_from_is_err_and c.from_residual.result c.from_residual.ensures.1 in
    let judged = c.in_err-try_from.ensures in
    rw (p.1, p.2) (record {
      answer = λ place r says. (after_bad place _ _ r _ says judged).answered;
      kept = λ r says. (after_bad 0 _ _ r _ says judged).kept;
    })

pub returns : goal.returns
returns c =
    let judged = c.in_ok-try_from.ensures in
    record {
      answer = λ place r says. (after_good place _ _ r c.in_ok-try_from.field-0 _ says judged c.keep.ensures).answered;
      kept = λ r says. (after_good 0 _ _ r c.in_ok-try_from.field-0 _ says judged c.keep.ensures).kept;
    }
