-- The name is judged first, then the length, and then the bytes, which are all there.
use Rattle.std.proofs.Common.{◌≡◌, Some, sym, ap, ◌∙◌, arith}
use Rattle.std.proofs.lemmas.List.{take_all}
use Rattle.std.proofs.lemmas.Result.{err_from_is_err_and}
use Rattle.console.proofs.RefusalLaws.{bad_name, bad_length, bad_bytes, frame_made}
use Rattle.console.specs.declared.refusal.Refusal.TheVariants.{Count}
use Rattle.console.proofs.judge.FrameTryFromLetter.try_from.Goals as goal

pub returns-then-letter-gt-LARGEST_ID : goal.returns-then-letter-gt-LARGEST_ID
returns-then-letter-gt-LARGEST_ID c = λ ns holds. bad_name _ ns (omega arith)

pub returns-then-count-gt-MOST_BYTES : goal.returns-then-count-gt-MOST_BYTES
returns-then-count-gt-MOST_BYTES c = λ ns holds. bad_length _ ns (omega arith) (omega arith) ∙ ap (λ n. Some (Count n)) (sym holds.count)

pub returns-in_err-bytes : goal.returns-in_err-bytes
returns-in_err-bytes c = λ ns holds.
    let p = err_from_is_err_and c.from_residual.result c.from_residual.ensures.1 in
    let all : c.as_slice.result.now ≡ ns = c.as_slice.ensures.value ∙ holds.first ∙ take_all 8 ns (omega arith) in
    rw (p.1, p.2) (bad_bytes _ ns (omega arith) (omega arith) ∙ rw all at c.in_err-bytes.ensures)

pub returns : goal.returns
returns c = λ ns holds.
    let all : c.as_slice.result.now ≡ ns = c.as_slice.ensures.value ∙ holds.first ∙ take_all 8 ns (omega arith) in
    let good = rw all at c.in_ok-bytes.ensures in
    let these : c.as_slice-2.result.now ≡ ns = c.as_slice-2.ensures.value ∙ good.1 in (
      bad_bytes _ ns (omega arith) (omega arith) ∙ good.0,
      frame_made _ ns _ _ c.unwrap.ensures (rw these at c.new.ensures),
    )
