-- What holds of lines: how long they are, that five like bits before the end are ended by a stuff bit, and that the fields stand
-- in them. Rests on the laws of stuff bits. Assumes nothing else.
use Rattle.std.proofs.Common.{◌≡◌, ℕ, ◌+◌, ◌-◌, ◌*◌, ◌<◌, ◌≤◌, Bool, true, false, not, ltb, leb, List, [], ◌∷◌, ◌++◌, length, get_or, take, drop, replicate, sym, refl, ap, ◌∙◌, subst, arith}
use Rattle.std.proofs.lemmas.List.{append_assoc, append-nil, length-append, take_at, take-append-drop, length-drop}
use Rattle.std.proofs.lemmas.Bool.{and_parts, leb-true, leb-false, true≢false}
use Rattle.bits.proofs.BitLaws.{length-bits_of}
use Rattle.bits.specs.Bits.{bits_of, bytes_bits}
use Rattle.bits.specs.Crc.{crc, covered}
use Rattle.frame.specs.Fields.{fields}
use Rattle.frame.specs.Laws.{FiveThenOther, NoSix, LengthOfLine, LongestLine, Unstuffed, FieldsInLine}
use Rattle.frame.specs.Line.{line, start, end}
use Rattle.frame.specs.Stuffing.{stuff, unstuff}
use Rattle.frame.proofs.StuffLaws.{Runs, length-stuff_most, length-stuff_least, stuff_runs, five_then_other, run_like, unstuff-stuff}

-- ---- how long a line is

pub length-bytes_bits : (xs : List ℕ) → length (bytes_bits xs) ≡ 8 * length xs
unfolding bytes_bits
length-bytes_bits [] = refl
length-bytes_bits (x ∷ xs) = rw (length-append (bits_of 8 x) (bytes_bits xs), length-bits_of 8 x, length-bytes_bits xs) (omega arith)

pub length-covered : (id : ℕ) (xs : List ℕ) → length (covered id xs) ≡ 15 + 8 * length xs
unfolding covered
length-covered id xs =
    rw (length-append (bits_of 11 id) (bits_of 4 (length xs) ++ bytes_bits xs), length-append (bits_of 4 (length xs)) (bytes_bits xs), length-bits_of 11 id, length-bits_of 4 (length xs), length-bytes_bits xs)
    (omega arith)

pub length_fields : (id : ℕ) (xs : List ℕ) → length (fields id xs) ≡ 30 + 8 * length xs
unfolding fields
length_fields id xs =
    rw (length-append (covered id xs) (bits_of 15 (crc (covered id xs))), length-bits_of 15 (crc (covered id xs)), length-covered id xs) (omega arith)

pub length-line : (id : ℕ) (xs : List ℕ) → length (line id xs) ≡ 8 + length (stuff start 1 (fields id xs))
unfolding line
length-line id xs = rw (length-append (stuff start 1 (fields id xs)) end) (omega arith)

pub length_of_line : LengthOfLine
length_of_line id xs =
    let all = length-line id xs in
    let bits = length_fields id xs in
    let few = length-stuff_least start 1 (fields id xs) in
    let many = length-stuff_most start 1 (fields id xs) (omega arith) (omega arith) in
    record { least = omega (arith, all, bits, few); most = omega (arith, all, bits, many) }

pub longest_line : LongestLine
longest_line id xs e =
    let few : length xs ≤ 8 = leb-true (length xs) 8 (and_parts (ltb id 2048) (leb (length xs) 8) e).1 in
    omega (arith, few, (length_of_line id xs).most)

-- ---- like bits

-- two rows that are the same up to ends of one length
pub same_front : (p q r s : List Bool) → p ++ q ≡ r ++ s → length q ≡ length s → p ≡ r
same_front p q r s e h =
    let all : length p + length q ≡ length r + length s = sym (length-append p q) ∙ ap length e ∙ length-append r s in
    sym (take_at p q (length p) refl) ∙ ap (take (length p)) e ∙ take_at r s (length p) (omega (arith, all, h))

-- a line without its end
front : ℕ → List ℕ → List Bool
front id xs = start ∷ stuff start 1 (fields id xs)

front_runs : (id : ℕ) (xs : List ℕ) → Runs start 0 (front id xs)
unfolding front
front_runs id xs = rw (run_like start 0) (omega arith, stuff_runs start 1 (fields id xs) (omega arith))

-- where at least seven bits stand behind five, the five stand in front of the end, with all but the last seven of these
five_in_front :
    (id : ℕ) (xs : List ℕ) (b : Bool) (u near far : List Bool) → line id xs ≡ u ++ (replicate 5 b ++ (near ++ far)) → length far ≡ 7 →
    front id xs ≡ u ++ (replicate 5 b ++ near)
unfolding line front
five_in_front id xs b u near far e seven =
    same_front (front id xs) end (u ++ (replicate 5 b ++ near)) far (e ∙ sym (append_assoc u (replicate 5 b ++ near) far)) (sym seven)

five_before_end :
    (id : ℕ) (xs : List ℕ) (b : Bool) (u near far : List Bool) → line id xs ≡ u ++ (replicate 5 b ++ (near ++ far)) → length far ≡ 7 →
    (w : List Bool) × (near ++ far ≡ not b ∷ w) × (7 ≤ length w)
five_before_end id xs b u near far e seven =
    let (w, other) = five_then_other start 0 b u near (subst (Runs start 0) (five_in_front id xs b u near far e seven) (front_runs id xs)) in
    (w ++ far, ap (λ r. r ++ far) other, omega (arith, length-append w far, seven))

pub five_in_line : FiveThenOther
five_in_line id xs b u v e h =
    let whole = take-append-drop (length v - 7) v in
    let seven : length (drop (length v - 7) v) ≡ 7 = omega (arith, length-drop (length v - 7) v) in
    let (w, other, more) = five_before_end id xs b u (take (length v - 7) v) (drop (length v - 7) v) (e ∙ ap (λ r. u ++ (replicate 5 b ++ r)) (sym whole)) seven in
    (w, sym whole ∙ other, more)

-- the first of two rows that are the same
pub same_first : (a b : Bool) (v w : List Bool) → a ∷ v ≡ b ∷ w → a ≡ b
same_first a b v w e = ap (λ r. get_or r 0 a) e

pub not_other : (b : Bool) → b ≡ not b → ⊥
not_other true e = true≢false e
not_other false e = true≢false (sym e)

pub no_six : NoSix
no_six id xs b u v e = go (leb 7 (length v)) refl
  where
    go : (t : Bool) → leb 7 (length v) ≡ t → length v < 7
    go true h =
        let (w, other, more) = five_in_line id xs b u (b ∷ v) e (omega (arith, leb-true 7 (length v) h)) in
        absurd (not_other b (same_first b (not b) v w other))
    go false h = leb-false 7 (length v) h

-- ---- the fields in the line

pub unstuffed : Unstuffed
unstuffed b n cs e =
    let (r, fits, none) = unstuff-stuff b n cs [] e in
    ap (unstuff b n) (sym (append-nil (stuff b n cs))) ∙ fits ∙ ap (λ s. cs ++ s) (none refl) ∙ append-nil cs

-- between the start and the end stands the row
between : (id : ℕ) (xs : List ℕ) → take (length (line id xs) - 8) (drop 1 (line id xs)) ≡ stuff start 1 (fields id xs)
unfolding line
between id xs = take_at (stuff start 1 (fields id xs)) end (length (line id xs) - 8) (omega (arith, length-line id xs))

pub fields_in_line : FieldsInLine
fields_in_line id xs = ap (unstuff start 1) (between id xs) ∙ unstuffed start 1 (fields id xs) refl
