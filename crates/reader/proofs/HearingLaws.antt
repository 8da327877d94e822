-- A line heard bit by bit. Whoever has heard the bits u knows how any line goes on that begins with them (`goes_on`), and so what one
-- bit more makes of them: a stuff bit (`stuff-heard`), one of the fields (`field-heard`), one of the end (`end-heard`, `end_line`); or that
-- no line goes on so (`stuff-never`, `field-never`, `end-never`). Rests on the laws of stuff bits and fields. Assumes nothing else.
use Rattle.std.proofs.Common.{◌≡◌, ℕ, zero, suc, ◌+◌, ◌-◌, ◌*◌, ◌<◌, ◌≤◌, Bool, true, false, cond, not, ◌⊎◌, List, [], ◌∷◌, ◌++◌, length, drop, replicate, sym, refl, ap, ◌∙◌, subst, ap₂, inl, inr, arith}
use Rattle.std.proofs.lemmas.List.{append_assoc, append_cancel_left, append-nil, length-append, length-replicate, nil_from_length, replicate-append-replicate, replicate_more}
use Rattle.std.proofs.lemmas.Bool.{both_ways, cases_lt, eq-eqb, eqb-false, eqb-true}
use Rattle.frame.proofs.LineLaws.{length_fields, same_first}
use Rattle.frame.specs.Fields.{fields}
use Rattle.frame.specs.Good.{good_frame}
use Rattle.frame.specs.Line.{line, start, end}
use Rattle.frame.specs.Stuffing.{due, run, stuff, stuff_due}
use Rattle.reader.proofs.PrefixLaws.{begins-length, count_is}
use Rattle.reader.specs.Beginning.{Begins}
use Rattle.reader.specs.Hearing.{Hears, Stuffed, row, whole}
use Rattle.reader.specs.Laws.{StillWithin}
use Rattle.reader.specs.Reading.{Stands, length_in}
use Rattle.reader.specs.declared.prefix.Prefix.{Prefix}
use Rattle.reader.specs.declared.reader.Reader.{Reader}

-- ---- how a line goes on

module _ (d : List Bool) (b : Bool) (n : ℕ) (front : List Bool) (stuffed : Stuffed d b n front) where
  pub stuffed_due : due n ≡ true → Stuffed d (not b) 1 (front ++ (not b ∷ []))
  stuffed_due five rest =
      stuffed rest ∙ ap (λ t. front ++ cond t (not b ∷ stuff (not b) 1 rest) (stuff b n rest)) five ∙ sym (append_assoc front (not b ∷ []) (stuff (not b) 1 rest))

  pub stuffed_more : (c : Bool) → due n ≡ false → Stuffed (d ++ (c ∷ [])) c (run b n c) (front ++ (c ∷ []))
  unfolding stuff
  stuffed_more c other rest =
      ap (λ l. start ∷ stuff start 1 l) (append_assoc d (c ∷ []) rest) ∙ stuffed (c ∷ rest)
      ∙ ap (λ t. front ++ cond t (not b ∷ stuff (not b) 1 (c ∷ rest)) (c ∷ stuff_due c (run b n c) rest)) other
      ∙ sym (append_assoc front (c ∷ []) (stuff_due c (run b n c) rest))

  -- where the fields end, and no stuff bit is due
  pub stuffed_all : due n ≡ false → start ∷ stuff start 1 d ≡ front
  unfolding stuff
  stuffed_all other =
      ap (λ l. start ∷ stuff start 1 l) (sym (append-nil d)) ∙ stuffed [] ∙ ap (λ t. front ++ cond t (not b ∷ stuff (not b) 1 []) []) other ∙ append-nil front

  -- any line whose fields begin with d
  pub line_from : (id : ℕ) (xs : List ℕ) (rest : List Bool) → fields id xs ≡ d ++ rest → line id xs ≡ front ++ (stuff_due b n rest ++ end)
  unfolding line
  line_from id xs rest e =
      ap (λ l. start ∷ (stuff start 1 l ++ end)) e ∙ ap (λ l. l ++ end) (stuffed rest) ∙ append_assoc front (stuff_due b n rest) end

  -- so of bits that begin with front, and with a line, what comes behind front is settled
  pub goes_on :
      (id : ℕ) (xs : List ℕ) (rest w : List Bool) → fields id xs ≡ d ++ rest → (stands : Stands id xs (front ++ w)) →
      w ≡ stuff_due b n rest ++ (end ++ stands.behind)
  goes_on id xs rest w e stands =
      append_cancel_left front w (stuff_due b n rest ++ (end ++ stands.behind))
      (stands.these ∙ ap (λ l. l ++ stands.behind) (line_from id xs rest e) ∙ append_assoc front (stuff_due b n rest ++ end) stands.behind
      ∙ ap (λ l. front ++ l) (append_assoc (stuff_due b n rest) end stands.behind))

  -- ---- a stuff bit

  pub stuff-bit : (id : ℕ) (xs : List ℕ) (rest : List Bool) (c : Bool) (w : List Bool) → due n ≡ true → fields id xs ≡ d ++ rest → Stands id xs (front ++ (c ∷ w)) → c ≡ not b
  stuff-bit id xs rest c w five e stands =
      same_first c (not b) w (stuff (not b) 1 rest ++ (end ++ stands.behind))
      (goes_on id xs rest (c ∷ w) e stands ∙ ap (λ t. cond t (not b ∷ stuff (not b) 1 rest) (stuff b n rest) ++ (end ++ stands.behind)) five)

  -- ---- a bit of the fields

  pub field_bit :
      (id : ℕ) (xs : List ℕ) (r : Bool) (rest : List Bool) (c : Bool) (w : List Bool) → due n ≡ false → fields id xs ≡ d ++ (r ∷ rest) → Stands id xs (front ++ (c ∷ w)) →
      c ≡ r
  unfolding stuff
  field_bit id xs r rest c w other e stands =
      same_first c r w (stuff_due r (run b n r) rest ++ (end ++ stands.behind))
      (goes_on id xs (r ∷ rest) (c ∷ w) e stands ∙ ap (λ t. cond t (not b ∷ stuff (not b) 1 (r ∷ rest)) (r ∷ stuff_due r (run b n r) rest) ++ (end ++ stands.behind)) other)

  -- ---- a bit of the end

  pub end_bits : (id : ℕ) (xs : List ℕ) (w : List Bool) → due n ≡ false → fields id xs ≡ d ++ [] → (stands : Stands id xs (front ++ w)) → w ≡ end ++ stands.behind
  unfolding stuff
  end_bits id xs w other e stands =
      goes_on id xs [] w e stands ∙ ap (λ t. cond t (not b ∷ stuff (not b) 1 []) [] ++ (end ++ stands.behind)) other

-- the bit behind t of seven high ones
pub high_next : (t : ℕ) (c : Bool) (w v : List Bool) (m : ℕ) → t < m → replicate t true ++ (c ∷ w) ≡ replicate m true ++ v → c ≡ true
high_next t c w v zero h e = absurd (omega arith)
high_next zero c w v (suc m) h e = same_first c true w (replicate m true ++ v) e
high_next (suc t) c w v (suc m) h e = high_next t c w v m (omega arith) (ap (λ l. drop 1 l) e)

-- ---- lengths

-- fields that begin with d and are longer go on
pub goes_further : {B : Type 0} (f d rest : List Bool) → f ≡ d ++ rest → length d < length f → ((r : Bool) (more : List Bool) → rest ≡ r ∷ more → B) → B
goes_further f d [] e h next = absurd (omega (arith, ap length e, length-append d [], h))
goes_further f d (r ∷ more) e h next = next r more refl

pub goes_no_further : (f d rest : List Bool) → f ≡ d ++ rest → length f ≡ length d → rest ≡ []
goes_no_further f d rest e h = nil_from_length rest (omega (arith, ap length e, length-append d rest, h))

module _ (id : ℕ) (xs : List ℕ) (is_good : good_frame id xs ≡ true) (d rest : List Bool) (e : fields id xs ≡ d ++ rest) where
  known : 15 ≤ length d → length_in d ≡ length xs
  known h = begins-length d (record { id = id; bytes = xs; rest = rest; is_good = is_good; these = e }) h

  pub fields_longer : length d < 30 + 8 * length_in d → length d < length (fields id xs)
  fields_longer h = either (cases_lt (length d) 15)
    where
      either : (length d < 15) ⊎ (15 ≤ length d) → length d < length (fields id xs)
      either (inl short) = omega (arith, short, length_fields id xs)
      either (inr long) = omega (arith, h, known long, length_fields id xs)

  pub fields-whole : length d ≡ 30 + 8 * length_in d → length (fields id xs) ≡ length d
  fields-whole h = omega (arith, h, known (omega (arith, h)), length_fields id xs)

-- ---- what was heard, and one bit more

pub hears_start : (d : List Bool) → d ≡ [] → Hears (start ∷ []) d start 1 0
hears_start d none = record {
  front = start ∷ [];
  these = refl;
  stuffed = λ rest. ap (λ l. start ∷ stuff start 1 (l ++ rest)) none;
  begun = record { id = 0; bytes = []; rest = fields 0 []; is_good = refl; these = ap (λ l. l ++ fields 0 []) (sym none) };
  only = λ id xs w stands. (fields id xs, ap (λ l. l ++ fields id xs) (sym none));
}

module _ {u d : List Bool} {b : Bool} {n t : ℕ} (heard : Hears u d b n t) where
  -- a line that begins with u, behind what is settled of it
  pub behind_front : (id : ℕ) (xs : List ℕ) (w : List Bool) → Stands id xs (u ++ w) → Stands id xs (heard.front ++ (replicate t true ++ w))
  behind_front id xs w stands = record {
    is_good = stands.is_good;
    behind = stands.behind;
    these = sym (append_assoc heard.front (replicate t true) w) ∙ ap (λ l. l ++ w) (sym heard.these) ∙ stands.these;
  }

  -- what holds of all that go on with w holds of all that go on with the bit c, and then with w
  only_more :
      (c : Bool) (e : List Bool) → ((id : ℕ) (xs : List ℕ) (w : List Bool) → Stands id xs (u ++ (c ∷ w)) → (rest : List Bool) × (fields id xs ≡ e ++ rest)) →
      (id : ℕ) (xs : List ℕ) (w : List Bool) → Stands id xs ((u ++ (c ∷ [])) ++ w) → (rest : List Bool) × (fields id xs ≡ e ++ rest)
  only_more c e so id xs w stands = so id xs w (record { is_good = stands.is_good; behind = stands.behind; these = sym (append_assoc u (c ∷ []) w) ∙ stands.these })

  -- the bits that were heard are no line yet
  pub not-whole : t ≤ 6 → (id : ℕ) (xs : List ℕ) → Stands id xs u → ⊥
  not-whole few id xs stands =
      let again : Stands id xs (u ++ []) = record { is_good = stands.is_good; behind = stands.behind; these = append-nil u ∙ stands.these } in
      let (rest, e) = heard.only id xs [] again in
      let at = behind_front id xs [] again in
      let so = goes_on d b n heard.front heard.stuffed id xs rest (replicate t true ++ []) e at in
      omega (arith, few, ap length so, length-append (replicate t true) [], length-replicate t true, length-append (stuff_due b n rest) (end ++ at.behind), length-append end at.behind)

  -- where the end hasn't begun, the bits are the front alone
  at_front : t ≡ 0 → (c : Bool) → u ++ (c ∷ []) ≡ (heard.front ++ (c ∷ [])) ++ []
  at_front none c = ap (λ l. l ++ (c ∷ [])) (heard.these ∙ ap (λ k. heard.front ++ replicate k true) none ∙ append-nil heard.front) ∙ sym (append-nil (heard.front ++ (c ∷ [])))

  module _ (five : due n ≡ true) (none : t ≡ 0) (c : Bool) where
    pub stuff-never : (c ≡ not b → ⊥) → (id : ℕ) (xs : List ℕ) (w : List Bool) → Stands id xs (u ++ (c ∷ w)) → ⊥
    stuff-never other id xs w stands =
        let (rest, e) = heard.only id xs (c ∷ w) stands in
        let at = subst (λ k. Stands id xs (heard.front ++ (replicate k true ++ (c ∷ w)))) none (behind_front id xs (c ∷ w) stands) in
        other (stuff-bit d b n heard.front heard.stuffed id xs rest c w five e at)

    pub stuff-heard : c ≡ not b → Hears (u ++ (c ∷ [])) d c 1 0
    stuff-heard is = record {
      front = heard.front ++ (c ∷ []);
      these = at_front none c;
      stuffed = subst (λ x. Stuffed d x 1 (heard.front ++ (x ∷ []))) (sym is) (stuffed_due d b n heard.front heard.stuffed five);
      begun = heard.begun;
      only = only_more c d (λ id xs w stands. heard.only id xs (c ∷ w) stands);
    }

  module _ (other : due n ≡ false) (none : t ≡ 0) (short : length d < 30 + 8 * length_in d) (c : Bool) where
    -- the fields of any line that goes on with c go on with c
    field-only : (id : ℕ) (xs : List ℕ) (w : List Bool) → Stands id xs (u ++ (c ∷ w)) → (rest : List Bool) × (fields id xs ≡ (d ++ (c ∷ [])) ++ rest)
    field-only id xs w stands =
        let (rest, e) = heard.only id xs (c ∷ w) stands in
        let at = subst (λ k. Stands id xs (heard.front ++ (replicate k true ++ (c ∷ w)))) none (behind_front id xs (c ∷ w) stands) in
        goes_further (fields id xs) d rest e (fields_longer id xs stands.is_good d rest e short) (λ r more is.
        let next : fields id xs ≡ d ++ (r ∷ more) = e ∙ ap (λ l. d ++ l) is in
        let same = field_bit d b n heard.front heard.stuffed id xs r more c w other next at in
        (more, next ∙ ap (λ x. d ++ (x ∷ more)) (sym same) ∙ sym (append_assoc d (c ∷ []) more)))

    pub field-never : (Begins (d ++ (c ∷ [])) → ⊥) → (id : ℕ) (xs : List ℕ) (w : List Bool) → Stands id xs (u ++ (c ∷ w)) → ⊥
    field-never never id xs w stands =
        let (rest, e) = field-only id xs w stands in
        never (record { id = id; bytes = xs; rest = rest; is_good = stands.is_good; these = e })

    pub field-heard : Begins (d ++ (c ∷ [])) → Hears (u ++ (c ∷ [])) (d ++ (c ∷ [])) c (run b n c) 0
    field-heard begun = record {
      front = heard.front ++ (c ∷ []);
      these = at_front none c;
      stuffed = stuffed_more d b n heard.front heard.stuffed c other;
      begun = begun;
      only = only_more c (d ++ (c ∷ [])) field-only;
    }

  module _ (other : due n ≡ false) (all : length d ≡ 30 + 8 * length_in d) where
    pub end-never : t ≤ 6 → (id : ℕ) (xs : List ℕ) (w : List Bool) → Stands id xs (u ++ (false ∷ w)) → ⊥
    end-never few id xs w stands =
        let (rest, e) = heard.only id xs (false ∷ w) stands in
        let whole : fields id xs ≡ d ++ [] = e ∙ ap (λ l. d ++ l) (goes_no_further (fields id xs) d rest e (fields-whole id xs stands.is_good d rest e all)) in
        let at = behind_front id xs (false ∷ w) stands in
        let ends = end_bits d b n heard.front heard.stuffed id xs (replicate t true ++ (false ∷ w)) other whole at in
        both_ways false refl (high_next t false w at.behind 7 (omega arith) ends)

    one-high : (u ++ (true ∷ [])) ≡ heard.front ++ replicate (t + 1) true
    one-high = ap (λ l. l ++ (true ∷ [])) heard.these ∙ append_assoc heard.front (replicate t true) (true ∷ []) ∙ ap (λ l. heard.front ++ l) (replicate_more t true)

    pub end-heard : Hears (u ++ (true ∷ [])) d b n (t + 1)
    end-heard = record {
      front = heard.front;
      these = one-high;
      stuffed = heard.stuffed;
      begun = heard.begun;
      only = only_more true d (λ id xs w stands. heard.only id xs (true ∷ w) stands);
    }

    pub end_line : (id : ℕ) (xs : List ℕ) → t + 1 ≡ 7 → fields id xs ≡ d → u ++ (true ∷ []) ≡ line id xs
    unfolding line
    end_line id xs seven e =
        one-high ∙ ap₂ (λ l k. l ++ replicate k true) (sym (stuffed_all d b n heard.front heard.stuffed other) ∙ ap (λ l. start ∷ stuff start 1 l) (sym e)) seven

-- ---- the reader, as the code has it

pub whole_is : (p : Prefix) → whole p ≡ true → length (row p) ≡ 30 + 8 * length_in (row p)
whole_is p all = omega (arith, eqb-true p.count (30 + 8 * p.len) all, count_is p, p.counted)

pub short_is : (p : Prefix) → whole p ≡ false → length (row p) < 30 + 8 * length_in (row p)
short_is p short = omega (arith, eqb-false p.count (30 + 8 * p.len) short, count_is p, p.counted, p.short)

-- where a stuff bit is due, or the fields aren't whole, the end hasn't begun
module _ (r : Reader) where
  pub due_no_end : due r.run.count ≡ true → r.end ≡ 0
  due_no_end five = either (cases_lt 0 r.end)
    where
      either : (0 < r.end) ⊎ (r.end ≤ 0) → r.end ≡ 0
      either (inl begun) = absurd (both_ways (due r.run.count) (r.ending begun).1 five)
      either (inr none) = omega arith

  pub short_no_end : whole r.fields ≡ false → r.end ≡ 0
  short_no_end short = either (cases_lt 0 r.end)
    where
      either : (0 < r.end) ⊎ (r.end ≤ 0) → r.end ≡ 0
      either (inl begun) = absurd (eqb-false r.fields.count (30 + 8 * r.fields.len) short (r.ending begun).0)
      either (inr none) = omega arith

-- what was heard begins a good frame's line, and more of the line is to come
pub still_within : StillWithin
unfolding stuff
still_within u r has = either (cases_lt 0 r.end)
  where
    so : Begins (row r.fields)
    so = has.begun

    line-is : line so.id so.bytes ≡ has.front ++ (stuff_due r.run.bit r.run.count so.rest ++ end)
    line-is = line_from (row r.fields) r.run.bit r.run.count has.front has.stuffed so.id so.bytes so.rest so.these

    either : (0 < r.end) ⊎ (r.end ≤ 0)
        → (n : ℕ) × (xs : List ℕ) × (w : List Bool) × (good_frame n xs ≡ true) × (line n xs ≡ u ++ w) × (w ≡ [] → ⊥)
    either (inr none) =
        let rest : List Bool = stuff_due r.run.bit r.run.count so.rest ++ end in
        let zero-end : r.end ≡ 0 = omega (arith, none) in
        let before : u ≡ has.front = has.these ∙ ap (λ k. has.front ++ replicate k true) zero-end ∙ append-nil has.front in
        (so.id, so.bytes, rest, so.is_good, line-is ∙ ap (λ l. l ++ rest) (sym before), λ no_more. omega (arith, ap length no_more, length-append (stuff_due r.run.bit r.run.count so.rest) end))
    either (inl begun) =
        let (count, other) = r.ending begun in
        let all = whole_is r.fields (eq-eqb r.fields.count (30 + 8 * r.fields.len) count) in
        let no_more : so.rest ≡ [] = goes_no_further (fields so.id so.bytes) (row r.fields) so.rest so.these (fields-whole so.id so.bytes so.is_good (row r.fields) so.rest so.these all) in
        let left : List Bool = replicate (7 - r.end) true in
        let seven : r.end + (7 - r.end) ≡ 7 = omega (arith, r.counted.2) in
        let ends : end ≡ replicate r.end true ++ left = ap (λ k. replicate k true) (sym seven) ∙ sym (replicate-append-replicate r.end (7 - r.end) true) in (
          so.id,
          so.bytes,
          left,
          so.is_good,
          line-is ∙ ap₂ (λ t l. has.front ++ (cond t (not r.run.bit ∷ stuff (not r.run.bit) 1 l) (stuff r.run.bit r.run.count l) ++ end)) other no_more
              ∙ ap (λ l. has.front ++ l) ends ∙ sym (append_assoc has.front (replicate r.end true) left) ∙ ap (λ l. l ++ left) (sym has.these),
          λ none. omega (arith, ap length none, length-replicate (7 - r.end) true, r.counted.2),
        )
