-- The first number that is too large is the first. Rests on the library's lemmas on places in lists. Assumes nothing else.
use Rattle.std.proofs.Common.{◌≡◌, ℕ, ◌<◌, ◌≤◌, Bool, true, false, ltb, List, length, get_or, cond, Some, None, Option, refl, sym, arith}
use Rattle.std.proofs.lemmas.Option.{none-some}
use Rattle.std.proofs.lemmas.List.Quantifiers.{position-Some}
use Rattle.std.proofs.lemmas.List.Sums.{fails_before_first}
use Rattle.std.proofs.lemmas.Bool.{ltb-false, ltb-true}
use Rattle.std.specs.List.{position_or_len}
use Rattle.reader.specs.Laws.{FirstAbove}
use Rattle.reader.specs.Places.{first_above}

pub none_above : (m : ℕ) (xs : List ℕ) → first_above m xs ≡ None → (i : ℕ) → i < length xs → get_or xs i 0 ≤ m
none_above m xs e i h =
    ltb-false m _ (fails_before_first (ltb m) xs i 0 (omega (arith, h, go (ltb (position_or_len (ltb m) xs) (length xs)) refl e)))
  where
    go : (t : Bool) → ltb (position_or_len (ltb m) xs) (length xs) ≡ t → cond {A = Option ℕ} t (Some (position_or_len (ltb m) xs)) None ≡ None → length xs ≤ position_or_len (ltb m) xs
    go true is e = absurd (none-some _ (sym e))
    go false is e = ltb-false _ _ is

pub first_is_first : FirstAbove
first_is_first m xs = record {
  none = none_above m xs;
  some = λ i e.
      let (inside, large, before) = position-Some (ltb m) xs i 0 e in
      (inside, ltb-true m _ large, λ j h. ltb-false m _ (before j h));
}
