-- A number read digit by digit. The main results are `reads_more` and `reads_end`: what one digit more, and the end, say.
-- Assumes nothing.
use Rattle.std.proofs.Common.{◌≡◌, ℕ, ◌+◌, ◌-◌, ◌*◌, ◌^◌, ◌<◌, ◌≤◌, min, true, false, cond, List, [], ◌∷◌, length, get_or, drop, Some, None, Option, sym, refl, ap, ◌∙◌, arith}
use Rattle.std.proofs.lemmas.List.{at_drop_more, at_drop_all}
use Rattle.std.specs.Option.{option_map}
use Rattle.std.specs.Char.{is_ascii_digit}
use Rattle.std.specs.List.{fold}
use Rattle.std.specs.Str.{all_ascii_digits}
use Rattle.console.specs.Numeral.{number_in, capped}

-- capping after each digit is capping at the end
pub capped_more : (v d : ℕ) → min (min (capped v * 10) (2 ^ 64 - 1) + d) (2 ^ 64 - 1) ≡ capped (v * 10 + d)
unfolding capped
capped_more v d = omega arith

-- the number that digits write behind those that wrote v, if they are digits
onward : ℕ → List ℕ → Option ℕ
onward v w = cond (all_ascii_digits w) (Some (fold (λ n c. n * 10 + (c - 48)) v w)) None

onward_digit : (v c : ℕ) (cs : List ℕ) → is_ascii_digit c ≡ true → onward v (c ∷ cs) ≡ onward (v * 10 + (c - 48)) cs
unfolding onward
onward_digit v c cs e = rw e refl

onward_other : (v c : ℕ) (cs : List ℕ) → is_ascii_digit c ≡ false → onward v (c ∷ cs) ≡ None
unfolding onward
onward_other v c cs e = rw e refl

number_in_some : (w : List ℕ) → (length w ≡ 0 → ⊥) → number_in w ≡ onward 0 w
unfolding number_in onward
number_in_some [] h = absurd (h refl)
number_in_some (c ∷ cs) h = refl

pub number_in_none : (w : List ℕ) → length w ≡ 0 → number_in w ≡ None
unfolding number_in
number_in_none [] h = refl
number_in_none (c ∷ cs) h = absurd (omega arith)

-- n is what the code keeps of the number that the first i digits of w write
pub ReadsTo : List ℕ → ℕ → ℕ → Type 0
ReadsTo w i n = (v : ℕ) × (n ≡ capped v) × (number_in w ≡ onward v (drop i w))

pub reads_none : (w : List ℕ) → (length w ≡ 0 → ⊥) → ReadsTo w 0 0
unfolding ReadsTo capped
reads_none w some = (0, refl, number_in_some w some)

module _ (w : List ℕ) (i n : ℕ) (so_far : ReadsTo w i n) where
  pub reads_more : (m : ℕ) → i < length w → is_ascii_digit (get_or w i 0) ≡ true → m ≡ min (min (n * 10) (2 ^ 64 - 1) + (get_or w i 0 - 48)) (2 ^ 64 - 1) → ReadsTo w (i + 1) m
  unfolding ReadsTo
  reads_more m h digit e =
      let v = so_far.0 in (
        v * 10 + (get_or w i 0 - 48),
        e ∙ ap (λ k. min (min (k * 10) (2 ^ 64 - 1) + (get_or w i 0 - 48)) (2 ^ 64 - 1)) so_far.1 ∙ capped_more v (get_or w i 0 - 48),
        so_far.2 ∙ at_drop_more (onward v) w i 0 h ∙ onward_digit v (get_or w i 0) (drop (i + 1) w) digit,
      )

  pub reads_other : i < length w → is_ascii_digit (get_or w i 0) ≡ false → None ≡ option_map capped (number_in w)
  unfolding ReadsTo
  reads_other h other =
      sym (ap (option_map capped) (so_far.2 ∙ at_drop_more (onward so_far.0) w i 0 h ∙ onward_other so_far.0 (get_or w i 0) (drop (i + 1) w) other))

  pub reads_end : length w ≤ i → Some n ≡ option_map capped (number_in w)
  unfolding ReadsTo onward
  reads_end h = ap Some so_far.1 ∙ sym (ap (option_map capped) (so_far.2 ∙ at_drop_all (onward so_far.0) w i h))
