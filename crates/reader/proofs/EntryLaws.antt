-- What holds of the numbers that the entry reads: where none of them is above 1 they are bits (`bits_small`), and a line stands at the beginning
-- of numbers if it does so of their bits (`reads_standing`, `standing_reads`); and what the entry says of what was
-- found (`handed_over`). Rests on the laws of lists and of reading. Assumes nothing else.
use Rattle.std.proofs.Common.{◌≡◌, ℕ, zero, suc, ◌<◌, ◌≤◌, Bool, true, false, cond, ◌&&◌, leb, ◌⊎◌, List, [], ◌∷◌, ◌++◌, map, length, get_or, drop, is_some, Some, None, Option, sym, refl, ap, ◌∙◌, subst, ap₂, inl, inr, arith}
use Rattle.std.proofs.lemmas.List.{map-append}
use Rattle.std.proofs.lemmas.Bool.{and_from, and_parts, cond-false, cond-true, eq-eqb, le-leb}
use Rattle.bits.specs.Bits.{bit, bit_at}
use Rattle.frame.specs.Entries.{make_room, read}
use Rattle.frame.specs.Good.{all_bytes, good, good_frame}
use Rattle.frame.specs.Line.{line}
use Rattle.reader.proofs.PlaceLaws.{none_above}
use Rattle.reader.proofs.ReadingLaws.{nothing_standing, one_reading, standing_found}
use Rattle.reader.specs.Entries.{ReadBy, ReadFrame, ReadNothing, ReadSays, Reads, read_answer, read_refusal, read_room}
use Rattle.reader.specs.Laws.{MadeThenRead}
use Rattle.reader.specs.Places.{first_above}
use Rattle.reader.specs.Reading.{Stands, found}
use Rattle.reader.specs.Seen.{lowest}

-- ---- numbers and bits

bit_small : (x : ℕ) → x ≤ 1 → bit (lowest x) ≡ x
unfolding bit bit_at
bit_small zero h = refl
bit_small (suc zero) h = refl
bit_small (suc (suc x)) h = absurd (omega arith)

lowest-bit : (b : Bool) → lowest (bit b) ≡ b
unfolding bit bit_at
lowest-bit true = refl
lowest-bit false = refl

bits_small : (bs : List ℕ) → ((i : ℕ) → i < length bs → get_or bs i 0 ≤ 1) → map bit (map lowest bs) ≡ bs
bits_small [] small = refl
bits_small (x ∷ bs) small = ap₂ ◌∷◌ (bit_small x (small 0 (omega arith))) (bits_small bs (λ i h. small (suc i) (omega arith)))

bits_back : (bs : List Bool) → map lowest (map bit bs) ≡ bs
bits_back [] = refl
bits_back (b ∷ bs) = ap₂ ◌∷◌ (lowest-bit b) (bits_back bs)

-- ---- lines in numbers

module _ (id : ℕ) (xs : List ℕ) (bs : List ℕ) where
  pub reads_standing : map bit (map lowest bs) ≡ bs → Stands id xs (map lowest bs) → Reads id xs bs
  reads_standing small stands = record {
    is_good = stands.is_good;
    behind = map bit stands.behind;
    these = sym small ∙ ap (map bit) stands.these ∙ map-append bit (line id xs) stands.behind;
  }

  pub standing_reads : Reads id xs bs → Stands id xs (map lowest bs)
  standing_reads reads = record {
    is_good = reads.is_good;
    behind = map lowest reads.behind;
    these =
        ap (map lowest) reads.these ∙ map-append lowest (map bit (line id xs)) reads.behind
        ∙ ap (λ l. l ++ map lowest reads.behind) (bits_back (line id xs));
  }

-- what isn't refused
pub not-refused : (bs room : List ℕ) → is_some (first_above 1 bs) ≡ false → length room ≡ 8 → read_refusal bs room ≡ 0
not-refused bs room small eight = cond-false (is_some (first_above 1 bs)) 2 _ small ∙ ap (λ t. cond t 0 3) (eq-eqb (length room) 8 eight)

all_bits : (bs room : List ℕ) → read_refusal bs room ≡ 0 → first_above 1 bs ≡ None
all_bits bs room accepted = go (first_above 1 bs) _ accepted
  where
    go : (o : Option ℕ) (n : ℕ) → cond (is_some o) 2 n ≡ 0 → o ≡ None
    go None n e = refl
    go (Some i) n e = absurd (omega arith)

none_there : (o : Option ℕ) → is_some o ≡ false → o ≡ None
none_there None e = refl
none_there (Some i) e = cc

-- what was found, as it is answered and written, whatever room there is
pub handed_over :
    (bs r : List ℕ) (f : Option (ℕ × List ℕ × ℕ)) (o : ℕ × List ℕ) (s : List ℕ) → f ≡ found (map lowest bs) → is_some (first_above 1 bs) ≡ false → o ≡ read_answer f →
    s ≡ read_room f r → ReadFrame bs r o s ⊎ ReadNothing bs r o s
handed_over bs r None o s is small answer room =
    inr record { none = λ id xs reads. nothing_standing (map lowest bs) (sym is) id xs (standing_reads id xs bs reads); answer = answer; same = room }
handed_over bs r (Some f) o s is small answer room =
    let (stands, ends) = standing_found f.0 f.1 (map lowest bs) f.2 (sym is) in
    inl record {
      id = f.0;
      bytes = f.1;
      stands = reads_standing f.0 f.1 bs (bits_small bs (none_above 1 bs (none_there (first_above 1 bs) small))) stands;
      answer = answer ∙ ap (λ e. read f.0 (length f.1) e) ends;
      written = room;
    }

-- the same where nothing is refused
pub accepted_says :
    (bs r : List ℕ) (f : Option (ℕ × List ℕ × ℕ)) (o : ℕ × List ℕ) (s : List ℕ) → read_refusal bs r ≡ 0 → f ≡ found (map lowest bs) → o ≡ read_answer f →
    s ≡ read_room f r → ReadSays bs r o s
accepted_says bs r f o s accepted is answer room =
    subst (λ k. ReadBy k bs r o s) (sym accepted) (handed_over bs r f o s is (ap is_some (all_bits bs r accepted)) answer room)

-- ---- laws

-- a good frame is a good letter, which is all that is asked where a line is made
good_letter : (id : ℕ) (xs : List ℕ) → good_frame id xs ≡ true → good id xs ≡ true
good_letter id xs e = (and_parts (good id xs) (all_bytes xs) e).0

-- numbers are read in one way
one_letter : (m n : ℕ) (xs ys bs : List ℕ) → Reads m xs bs → Reads n ys bs → (m ≡ n) × (xs ≡ ys)
one_letter m n xs ys bs first second =
    let here = standing_reads m xs bs first in
    let there = standing_reads n ys bs second in
    let (name, bytes, behind) = one_reading m n xs ys here.behind there.behind first.is_good second.is_good (sym here.these ∙ there.these) in
    (name, bytes)

pub made_then_read : MadeThenRead
made_then_read n xs room r o s is_good fits eight small says =
    either (subst (λ k. ReadBy k (make_room n xs room) r o s) (not-refused (make_room n xs room) r (ap is_some small) eight) says)
  where
    stands : Reads n xs (make_room n xs room)
    stands = record {
      is_good = is_good;
      behind = drop (length (line n xs)) room;
      these = cond-true (good n xs && leb (length (line n xs)) (length room)) _ _ (and_from _ _ (good_letter n xs is_good) (le-leb (length (line n xs)) (length room) fits));
    }

    either : ReadFrame (make_room n xs room) r o s ⊎ ReadNothing (make_room n xs room) r o s
        → (o ≡ read n (length xs) (length (line n xs))) × (s ≡ xs ++ drop (length xs) r)
    either (inl frame) =
        let (name, bytes) = one_letter frame.id n frame.bytes xs (make_room n xs room) frame.stands stands in
        (frame.answer ∙ ap₂ (λ i x. read i (length x) (length (line i x))) name bytes, frame.written ∙ ap (λ x. x ++ drop (length x) r) bytes)
    either (inr none) = absurd (none.none n xs stands)
