-- A letter's bytes in a row of letters: they stand behind its name and its length. Rests on the laws of lists. Assumes nothing else.
use Rattle.std.proofs.Common.{◌≡◌, ℕ, ◌+◌, ◌*◌, ◌≤◌, true, leb, List, ◌∷◌, ◌++◌, length, get_or, take, drop, sym, refl, ap, ◌∙◌, ap₂, inl, inr, arith, ◌⊎◌, ◌<◌, ◌-◌, [], Some, None, Option, MatchOption}
use Rattle.std.specs.Borrow.{Bor}
use Rattle.std.specs.List.{PartBy}
use Rattle.std.proofs.lemmas.List.{drop_at, drop-drop, drop-take, get_or-append-add, get_or-drop, get_or-take, length-append, length-drop, length-take-le, take_at, take-take}
use Rattle.std.proofs.lemmas.Bool.{and_from, and_right, cond-false, cond-true, le-leb, lt-leb}
use Rattle.reader.specs.Laws.{BytesInRow}
use Rattle.reader.specs.Rows.{bytes_at, count_at, has_frame}

pub bytes_in-row : BytesInRow
bytes_in-row before i n xs pad behind at eight =
    let letter : List ℕ = n ∷ length xs ∷ (xs ++ (pad ++ behind)) in
    let row : List ℕ = before ++ letter in
    let count : count_at row i ≡ length xs = ap (λ k. get_or row (k + 1) 0) (sym at) ∙ get_or-append-add before letter 1 0 in
    let many : length xs + length pad ≡ 8 = sym (length-append xs pad) ∙ eight in
    let long : length row ≡ 10 * i + (2 + (length xs + (length pad + length behind))) =
    omega (arith, length-append before letter, at, length-append xs (pad ++ behind), length-append pad behind) in
    let few : length xs ≤ 8 = omega (arith, many) in
    let there : has_frame row i ≡ true = and_from (leb (10 * i + 10) (length row)) (leb (count_at row i) 8) (le-leb (10 * i + 10) (length row) (omega (arith, long, many))) (le-leb (count_at row i) 8 (omega (arith, count, few))) in
    let part : drop (10 * i + 2) row ≡ xs ++ (pad ++ behind) = sym (drop-drop 2 (10 * i) row) ∙ ap (drop 2) (drop_at before letter (10 * i) at) in
    cond-true (has_frame row i) _ _ there ∙ ap₂ (λ k l. take k l) count part ∙ take_at xs (pad ++ behind) (length xs) refl

-- what the ten numbers of a letter say is what the row says there
module _ (row letter : List ℕ) (i : ℕ) (long : 10 * i + 10 ≤ length row) (is : letter ≡ take 10 (drop (10 * i) row)) where
  count_there : get_or letter 1 0 ≡ count_at row i
  count_there = ap (λ l. get_or l 1 0) is ∙ get_or-take 10 (drop (10 * i) row) 1 0 (omega arith) ∙ get_or-drop (10 * i) row 1 0

  ten : length letter ≡ 10
  ten = ap length is ∙ length-take-le 10 (drop (10 * i) row) (omega (arith, length-drop (10 * i) row))

  no_part : length letter < 2 + get_or letter 1 0 → bytes_at row i ≡ []
  no_part many =
      cond-false (has_frame row i) _ _ (and_right (leb (10 * i + 10) (length row)) (leb (count_at row i) 8) (lt-leb (count_at row i) 8 (omega (arith, many, ten, count_there))))

  part_at : 2 + get_or letter 1 0 ≤ length letter → take (2 + get_or letter 1 0 - 2) (drop 2 letter) ≡ bytes_at row i
  part_at few =
      let count : 2 + get_or letter 1 0 - 2 ≡ count_at row i = omega (arith, count_there) in
      let small : count_at row i ≤ 8 = omega (arith, few, ten, count_there) in
      let there : has_frame row i ≡ true = and_from (leb (10 * i + 10) (length row)) (leb (count_at row i) 8) (le-leb (10 * i + 10) (length row) long) (le-leb (count_at row i) 8 small) in
      ap₂ (λ k l. take k (drop 2 l)) count is
      ∙ ap (take (count_at row i)) (drop-take 2 8 (drop (10 * i) row) ∙ ap (take 8) (drop-drop 2 (10 * i) row))
      ∙ take-take (count_at row i) 8 (drop (10 * i + 2) row) small ∙ sym (cond-true (has_frame row i) _ _ there)

  pub part_is :
      (r : Option (Bor (List ℕ))) → PartBy (λ x. x.now) letter 2 (2 + get_or letter 1 0) r →
      MatchOption r (bytes_at row i ≡ []) (λ part. part.now ≡ bytes_at row i)
  part_is r part = go r part.0
    where
      go : (r : Option (Bor (List ℕ))) → MatchOption r ((2 + get_or letter 1 0 < 2) ⊎ (length letter < 2 + get_or letter 1 0)) (λ x. (2 ≤ 2 + get_or letter 1 0) × (2 + get_or letter 1 0 ≤ length letter) × (x.now ≡ take (2 + get_or letter 1 0 - 2) (drop 2 letter)) × (length x.now + 2 ≡ 2 + get_or letter 1 0))
          → MatchOption r (bytes_at row i ≡ []) (λ part. part.now ≡ bytes_at row i)
      go None (inl less) = absurd (omega arith)
      go None (inr many) = no_part many
      go (Some x) (here, few, part, long) = part ∙ part_at few
