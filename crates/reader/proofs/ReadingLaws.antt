-- What is found at the beginning of bits is the good frame whose line stands there: if one stands there it is found (`found_standing`), what is
-- found stands there (`standing_found`), and if none does nothing is found (`found_none`). So a line is read in one way (`one_reading`).
-- Rests on the laws of stuff bits and on FieldsBack. Assumes nothing else.
use Rattle.std.proofs.Common.{◌≡◌, ℕ, ◌+◌, ◌<◌, ◌≤◌, Bool, true, false, cond, not, ◌&&◌, List, [], ◌∷◌, ◌++◌, map, length, get_or, take, drop, Some, None, Option, sym, refl, ap, ◌∙◌, subst, ap₂, arith}
use Rattle.std.proofs.lemmas.List.{append_assoc, append_cancel_left, append-nil, length-append, length-map, length-take-le, map-append, map_more, take_all, take-append-drop, take_at}
use Rattle.std.proofs.lemmas.Option.{cond_some, none-some, same_Some}
use Rattle.std.proofs.lemmas.Bool.{and_from, and_parts, both_ways, cond-true}
use Rattle.bits.specs.Bits.{differ}
use Rattle.bits.specs.Number.{number}
use Rattle.frame.proofs.FieldLaws.{few_bytes}
use Rattle.frame.proofs.GoodLaws.{good_from}
use Rattle.frame.proofs.LineLaws.{length-line, same_first}
use Rattle.frame.proofs.StuffLaws.{unstuff-stuff}
use Rattle.frame.specs.Contents.{frame_data}
use Rattle.frame.specs.Fields.{fields}
use Rattle.frame.specs.Good.{good_frame}
use Rattle.frame.specs.Line.{line, start, end}
use Rattle.frame.specs.Stuffing.{stuff, unstuff}
use Rattle.frame.specs.declared.frame.Frame.{Frame}
use Rattle.reader.proofs.FieldsBack.{data_back, id_back, length_back}
use Rattle.reader.specs.Seen.{lowest}
use Rattle.reader.specs.Laws.{OneReading, NoLineBeginsAnother, MadeIsRead, ReadWasMade, FoundStands}
use Rattle.reader.specs.Reading.{Stands, row_in, length_in, bytes_in, id_in, data_in, begins, found}

-- ---- one row at the beginning of another

same_not : (b : Bool) → not (differ b b) ≡ true
unfolding differ
same_not true = refl
same_not false = refl

not_same : (a b : Bool) → not (differ a b) ≡ true → a ≡ b
unfolding differ
not_same true true e = refl
not_same true false e = sym e
not_same false true e = e
not_same false false e = refl

begins_front : (us w : List Bool) → begins us (us ++ w) ≡ true
unfolding begins
begins_front [] w = refl
begins_front (u ∷ us) w = and_from (not (differ u u)) (begins us (us ++ w)) (same_not u) (begins_front us w)

front_begins : (us bs : List Bool) → begins us bs ≡ true → (w : List Bool) × (bs ≡ us ++ w)
unfolding begins
front_begins [] bs e = (bs, refl)
front_begins (u ∷ us) [] e = absurd (both_ways false refl e)
front_begins (u ∷ us) (b ∷ bs) e =
    let (first, rest) = and_parts (not (differ u b)) (begins us bs) e in
    let (w, is) = front_begins us bs rest in
    (w, ap₂ ◌∷◌ (sym (not_same u b first)) is)

-- ---- the frame whose line stands there

module _ (id : ℕ) (xs : List ℕ) (is_good : good_frame id xs ≡ true) (w : List Bool) where
  -- with stuff bits taken out, the fields come first
  row_stands : (z : List Bool) × (row_in (line id xs ++ w) ≡ fields id xs ++ z)
  unfolding line
  row_stands =
      let (z, fits, none) = unstuff-stuff start 1 (fields id xs) (end ++ w) refl in
      (z, ap (unstuff start 1) (append_assoc (stuff start 1 (fields id xs)) end w) ∙ fits)

  id_stands : id_in (line id xs ++ w) ≡ id
  id_stands =
      let (z, is) = row_stands in
      ap (λ d. number (take 11 d)) is ∙ id_back id xs is_good z

  data_stands : data_in (line id xs ++ w) ≡ xs
  data_stands =
      let (z, is) = row_stands in
      ap (λ d. bytes_in (length_in d) (drop 15 d)) is ∙ ap (λ n. bytes_in n (drop 15 (fields id xs ++ z))) (length_back id xs is_good z) ∙ data_back id xs is_good z

  found-line : found (line id xs ++ w) ≡ Some (id, xs, length (line id xs))
  unfolding found
  found-line =
      let bs : List Bool = line id xs ++ w in
      ap₂ (λ i x. cond (good_frame i x && begins (line i x) bs) (Some (i, x, length (line i x))) None) id_stands data_stands
      ∙ cond-true (good_frame id xs && begins (line id xs) bs) _ _ (and_from (good_frame id xs) (begins (line id xs) bs) is_good (begins_front (line id xs) w))

pub found_standing : (id : ℕ) (xs : List ℕ) (bs : List Bool) → Stands id xs bs → found bs ≡ Some (id, xs, length (line id xs))
found_standing id xs bs stands = ap found stands.these ∙ found-line id xs stands.is_good stands.behind

pub standing_found : (id : ℕ) (xs : List ℕ) (bs : List Bool) (e : ℕ) → found bs ≡ Some (id, xs, e) → Stands id xs bs × (e ≡ length (line id xs))
unfolding found
standing_found id xs bs e is =
    let (test, same) = cond_some (good_frame (id_in bs) (data_in bs) && begins (line (id_in bs) (data_in bs)) bs) (id_in bs, data_in bs, length (line (id_in bs) (data_in bs))) (id, xs, e) is in
    let name : id_in bs ≡ id = ap (λ x. x.0) same in
    let bytes : data_in bs ≡ xs = ap (λ x. x.1) same in
    let ends : length (line (id_in bs) (data_in bs)) ≡ e = ap (λ x. x.2) same in
    let (is_good, at_front) = and_parts (good_frame (id_in bs) (data_in bs)) (begins (line (id_in bs) (data_in bs)) bs) test in
    let (w, these) = front_begins (line (id_in bs) (data_in bs)) bs at_front in (
      record { is_good = ap₂ good_frame (sym name) (sym bytes) ∙ is_good; behind = w; these = these ∙ ap₂ (λ i x. line i x ++ w) name bytes },
      sym ends ∙ ap₂ (λ i x. length (line i x)) name bytes,
    )

pub found_none : (bs : List Bool) → ((id : ℕ) (xs : List ℕ) → Stands id xs bs → ⊥) → found bs ≡ None
found_none bs never = go (found bs) refl
  where
    go : (o : Option (ℕ × List ℕ × ℕ)) → found bs ≡ o → found bs ≡ None
    go None is = is
    go (Some x) is = absurd (never x.0 x.1 (standing_found x.0 x.1 bs x.2 is).0)

-- ---- laws

pub one_reading : OneReading
one_reading m n xs ys u v good-x good-y e =
    let same : (m, xs, length (line m xs)) ≡ (n, ys, length (line n ys)) =
    same_Some (m, xs, length (line m xs)) (n, ys, length (line n ys)) (sym (found-line m xs good-x u) ∙ ap found e ∙ found-line n ys good-y v) in
    let name : m ≡ n = ap (λ x. x.0) same in
    let bytes : xs ≡ ys = ap (λ x. x.1) same in
    (name, bytes, append_cancel_left (line m xs) u v (e ∙ ap₂ (λ i x. line i x ++ v) (sym name) (sym bytes)))

pub no_line-begins_another : NoLineBeginsAnother
no_line-begins_another m n xs ys u good-x good-y e = one_reading m n xs ys u [] good-x good-y (e ∙ sym (append-nil (line n ys)))

pub made_is_read : MadeIsRead
made_is_read n xs w is_good = found-line n xs is_good w

pub read_was_made : ReadWasMade
read_was_made bs n xs e is =
    let (stands, ends) = standing_found n xs bs e is in
    (stands.is_good, ap₂ (λ k l. take k l) ends stands.these ∙ take_at (line n xs) stands.behind (length (line n xs)) refl, ends)

-- where nothing is found, none stands
pub nothing_standing : (bs : List Bool) → found bs ≡ None → (id : ℕ) (xs : List ℕ) → Stands id xs bs → ⊥
nothing_standing bs none id xs stands = none-some _ (sym none ∙ found_standing id xs bs stands)

pub found_stands : FoundStands
found_stands bs = record {
  standing = λ n xs. found_standing n xs bs;
  stands = λ n xs e is. (standing_found n xs bs e is).0;
  nothing = found_none bs;
  none = nothing_standing bs;
}

-- ---- bits that were heard

-- a frame is good
pub frame_is_good : (f : Frame) → good_frame f.id (frame_data f) ≡ true
frame_is_good f = good_from f.id (frame_data f) f.good.0 (few_bytes f) f.narrow

-- the bits that the code has heard up to the place i, the start in front
pub heard_to : List ℕ → ℕ → List Bool
heard_to bits i = start ∷ map lowest (take i bits)

module _ (bits : List ℕ) (i : ℕ) (h : i < length bits) where
  -- what is left behind the bit at i
  left : List Bool
  left = map lowest (drop (i + 1) bits)

  pub heard_more : (b : Bool) → b ≡ lowest (get_or bits i 0) → heard_to bits i ++ (b ∷ []) ≡ heard_to bits (i + 1)
  unfolding heard_to
  heard_more b is = ap (λ l. start ∷ l) (ap (λ x. map lowest (take i bits) ++ (x ∷ [])) is ∙ sym (map_more lowest bits i 0 h))

  all_heard : (b : Bool) → b ≡ lowest (get_or bits i 0) → start ∷ map lowest bits ≡ (heard_to bits i ++ (b ∷ [])) ++ left
  unfolding heard_to left
  all_heard b is =
      ap (λ l. start ∷ map lowest l) (sym (take-append-drop (i + 1) bits)) ∙ ap (λ l. start ∷ l) (map-append lowest (take (i + 1) bits) (drop (i + 1) bits))
      ∙ ap (λ l. l ++ map lowest (drop (i + 1) bits)) (sym (heard_more b is))

  -- a line that ends there is found, and where it ends
  pub line-found :
      (b : Bool) (f : Frame) → b ≡ lowest (get_or bits i 0) → heard_to bits i ++ (b ∷ []) ≡ line f.id (frame_data f) →
      Some (f.id, frame_data f, i + 2) ≡ found (start ∷ map lowest bits)
  unfolding heard_to
  line-found b f is line-is =
      let stands : Stands f.id (frame_data f) (start ∷ map lowest bits) =
      record { is_good = frame_is_good f; behind = left; these = all_heard b is ∙ ap (λ l. l ++ left) line-is } in
      let ends : i + 2 ≡ length (line f.id (frame_data f)) =
      omega (arith, ap length (sym (heard_more b is) ∙ line-is), length-map (take (i + 1) bits) lowest, length-take-le (i + 1) bits (omega arith)) in
      ap (λ n. Some (f.id, frame_data f, n)) ends ∙ sym (found_standing f.id (frame_data f) (start ∷ map lowest bits) stands)

  -- where no line goes on with the bit at i, none is found
  pub broken_none :
      (b : Bool) → b ≡ lowest (get_or bits i 0) → ((id : ℕ) (xs : List ℕ) (w : List Bool) → Stands id xs (heard_to bits i ++ (b ∷ w)) → ⊥) →
      None ≡ found (start ∷ map lowest bits)
  broken_none b is never =
      sym (found_none (start ∷ map lowest bits) (λ id xs stands. never id xs left (subst (Stands id xs) (all_heard b is ∙ append_assoc (heard_to bits i) (b ∷ []) left) stands)))

-- where the bits end within a line, none is found
pub within_none : (bits : List ℕ) (i : ℕ) → length bits ≤ i → ((id : ℕ) (xs : List ℕ) → Stands id xs (heard_to bits i) → ⊥) → None ≡ found (start ∷ map lowest bits)
unfolding heard_to
within_none bits i h never = sym (found_none (start ∷ map lowest bits) (λ id xs stands. never id xs (subst (λ l. Stands id xs (start ∷ map lowest l)) (sym (take_all i bits h)) stands)))

pub heard_none : (bits : List ℕ) → heard_to bits 0 ≡ start ∷ []
unfolding heard_to
heard_none bits = refl

-- no line stands where there is no start
pub no_start : (b : Bool) (bs : List Bool) → (b ≡ start → ⊥) → None ≡ found (b ∷ bs)
unfolding line
no_start b bs other = sym (found_none (b ∷ bs) never)
  where
    never : (id : ℕ) (xs : List ℕ) → Stands id xs (b ∷ bs) → ⊥
    never id xs stands = other (same_first b start bs _ stands.these)

pub no_bits : (bits : List ℕ) → length bits ≡ 0 → None ≡ found (map lowest bits)
no_bits [] none = sym (found_none [] never)
  where
    never : (id : ℕ) (xs : List ℕ) → Stands id xs [] → ⊥
    never id xs stands = omega (arith, ap length stands.these, length-append (line id xs) stands.behind, length-line id xs)
no_bits (x ∷ bits) none = absurd (omega arith)
