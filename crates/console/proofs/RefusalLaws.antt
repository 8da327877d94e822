-- Letters judged: by name, by length, and byte by byte. The main results are `good_or_refused` and `refused_in_order`.
-- Assumes nothing.
use Rattle.std.proofs.Common.{◌≡◌, ℕ, zero, suc, ◌+◌, ◌<◌, ◌≤◌, true, cond, List, [], ◌∷◌, length, get_or, drop, Some, None, Option, refl, ap, ◌∙◌, add-one, arith, le-ltb, lt-ltb}
use native.Mathlib.Numerals.{suc-eq-add-one}
use Rattle.std.proofs.lemmas.List.{at_drop_more, at_drop_all}
use Rattle.std.proofs.lemmas.Bool.Decides.{nat_tests}
use Rattle.std.specs.Option.{option_map}
use Rattle.std.specs.List.{AllByRecursion}
use Rattle.frame.specs.Contents.{contents}
use Rattle.frame.specs.Good.{good}
use Rattle.frame.specs.declared.frame.Frame.{Frame}
use Rattle.console.specs.Laws.{GoodOrRefused, RefusedAt, RefusedInOrder}
use Rattle.console.specs.Refusals.{bad_byte, bad_letter, refusal_place}
use Rattle.console.specs.declared.refusal.Refusal.{Refusal}
use Rattle.console.specs.declared.refusal.Refusal.TheVariants.{Name, Count, Byte}

-- ---- one byte after the other

bad_byte-good : (i x : ℕ) (xs : List ℕ) → x ≤ 255 → bad_byte i (x ∷ xs) ≡ bad_byte (i + 1) xs
unfolding bad_byte
bad_byte-good i x xs h = rw (le-ltb _ _ h, add-one)

bad_byte_bad : (i x : ℕ) (xs : List ℕ) → 255 < x → bad_byte i (x ∷ xs) ≡ Some (Byte i)
unfolding bad_byte
bad_byte_bad i x xs h = rw (lt-ltb _ _ h)

-- the bytes before i are good
pub GoodTo : List ℕ → ℕ → Type 0
GoodTo bs i = bad_byte 0 bs ≡ bad_byte i (drop i bs)

pub good_to_none : (bs : List ℕ) → GoodTo bs 0
unfolding GoodTo
good_to_none bs = refl

module _ (bs : List ℕ) (i : ℕ) (so_far : GoodTo bs i) where
  pub good_to_more : i < length bs → get_or bs i 0 ≤ 255 → GoodTo bs (i + 1)
  unfolding GoodTo
  good_to_more h good = so_far ∙ at_drop_more (bad_byte i) bs i 0 h ∙ bad_byte-good i (get_or bs i 0) (drop (i + 1) bs) good

  pub bad_at : i < length bs → 255 < get_or bs i 0 → bad_byte 0 bs ≡ Some (Byte i)
  unfolding GoodTo
  bad_at h bad = so_far ∙ at_drop_more (bad_byte i) bs i 0 h ∙ bad_byte_bad i (get_or bs i 0) (drop (i + 1) bs) bad

  pub good_all : length bs ≤ i → bad_byte 0 bs ≡ None
  unfolding GoodTo bad_byte
  good_all h = so_far ∙ at_drop_all (bad_byte i) bs i h

-- ---- the three questions in their order

pub bad_name : (n : ℕ) (bs : List ℕ) → 2047 < n → bad_letter n bs ≡ Some Name
unfolding bad_letter
bad_name n bs h = rw (lt-ltb _ _ h)

pub bad_length : (n : ℕ) (bs : List ℕ) → n ≤ 2047 → 8 < length bs → bad_letter n bs ≡ Some (Count (length bs))
unfolding bad_letter
bad_length n bs h long = rw (le-ltb _ _ h, lt-ltb _ _ long)

pub bad_bytes : (n : ℕ) (bs : List ℕ) → n ≤ 2047 → length bs ≤ 8 → bad_letter n bs ≡ bad_byte 0 bs
unfolding bad_letter
bad_bytes n bs h short = rw (le-ltb _ _ h, le-ltb _ _ short)

-- ---- frames

good_frame : (n : ℕ) (bs : List ℕ) → n ≤ 2047 → length bs ≤ 8 → good n bs ≡ true
good_frame n bs small few = grind (arith, nat_tests)

frame_good : (n : ℕ) (bs : List ℕ) → good n bs ≡ true → (n ≤ 2047) × (length bs ≤ 8)
frame_good n bs is = grind (arith, nat_tests)

-- a frame that is made of a letter holds it
pub frame_made : (n : ℕ) (bs : List ℕ) (made : Option Frame) (f : Frame) → made ≡ Some f → option_map contents made ≡ cond (good n bs) (Some (n, bs)) None → contents f ≡ (n, bs)
frame_made n bs made f is so = grind arith

-- ---- good, or refused

pub bad_byte_none : (i x : ℕ) (xs : List ℕ) → bad_byte i (x ∷ xs) ≡ None → (x ≤ 255) × (bad_byte (suc i) xs ≡ None)
unfolding bad_byte
bad_byte_none i x xs none = grind (arith, nat_tests)

pub bad_letter_none : (n : ℕ) (bs : List ℕ) → bad_letter n bs ≡ None → (n ≤ 2047) × (length bs ≤ 8) × (bad_byte 0 bs ≡ None)
unfolding bad_letter
bad_letter_none n bs none = grind (arith, nat_tests)

bytes_good : (i : ℕ) (bs : List ℕ) → bad_byte i bs ≡ None → AllByRecursion (λ x. x ≤ 255) bs
bytes_good i [] none = tt
bytes_good i (x ∷ xs) none = let parts = bad_byte_none i x xs none in (parts.0, bytes_good (suc i) xs parts.1)

good_bytes : (i : ℕ) (bs : List ℕ) → AllByRecursion (λ x. x ≤ 255) bs → bad_byte i bs ≡ None
unfolding bad_byte
good_bytes i [] good = refl
good_bytes i (x ∷ xs) good = bad_byte-good i x xs good.0 ∙ good_bytes (i + 1) xs good.1

pub good_or_refused : GoodOrRefused
good_or_refused n bs = (
  λ letter. let parts = frame_good n bs letter.frame in bad_bytes n bs parts.0 parts.1 ∙ good_bytes 0 bs letter.bytes,
  λ none. let parts = bad_letter_none n bs none in record { frame = good_frame n bs parts.0 parts.1; bytes = bytes_good 0 bs parts.2 },
)

-- where the first bytes are good, the places before i have been passed
good_front : (bs : List ℕ) (i : ℕ) → i ≤ length bs → ((j : ℕ) → j < i → get_or bs j 0 ≤ 255) → GoodTo bs i
good_front bs zero h good = good_to_none bs
good_front bs (suc i) h good = rw (suc-eq-add-one i) (good_to_more bs i (good_front bs i (omega arith) (λ j less. good j (omega arith))) (omega arith) (good i (omega arith)))

placed : (n : ℕ) (bs : List ℕ) (x : Refusal) → bad_letter n bs ≡ Some x → (bad_letter n bs ≡ Some x) × RefusedAt (refusal_place x) n bs
placed n bs x is = (is, ap (option_map refusal_place) is)

pub refused_in_order : RefusedInOrder
refused_in_order n bs = record {
  name = λ large. placed n bs _ (bad_name n bs large);
  many = λ small long. placed n bs _ (bad_length n bs small long);
  byte = λ i small short inside large before. placed n bs _ (bad_bytes n bs small short ∙ bad_at bs i (good_front bs i (omega arith) before) inside large);
}
