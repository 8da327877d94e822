-- Whatever the code holds of the numbers behind a name stands for some numbers (`each_holds`): those that its row keeps, and noughts for all
-- that are only counted. Rests on the laws of lists. Assumes nothing else.
use Rattle.std.proofs.Common.{◌≡◌, ℕ, ◌-◌, ◌<◌, ◌≤◌, ◌⊎◌, List, [], ◌++◌, length, replicate, take, sym, ap, ◌∙◌, inl, inr, arith}
use Rattle.std.proofs.lemmas.Bool.{cases_lt}
use Rattle.std.proofs.lemmas.List.{append-nil, length-append, length-replicate, nil_from_length, take_all, take_at}
use Rattle.console.specs.Laws.{EachHolds}
use Rattle.row.specs.Items.{items}

pub each_holds : EachHolds
each_holds x =
    let more : List ℕ = replicate (x.count - 8) 0 in
    let ns : List ℕ = items x.first ++ more in
    let long : length ns ≡ x.count = length-append (items x.first) more ∙ omega (arith, x.filled, length-replicate {A = ℕ} (x.count - 8) 0) in
    let front : (8 < x.count) ⊎ (x.count ≤ 8) → take 8 ns ≡ items x.first =
    elim [
      | inl many ↦ take_at (items x.first) more 8 (omega (arith, x.filled))
      | inr few ↦
          let none : more ≡ [] = nil_from_length more (omega (arith, length-replicate {A = ℕ} (x.count - 8) 0)) in
          take_all 8 ns (omega (arith, long)) ∙ ap (λ r. items x.first ++ r) none ∙ append-nil (items x.first)
    ] in
    (ns, record { count = sym long; first = sym (front (cases_lt 8 x.count)) })
