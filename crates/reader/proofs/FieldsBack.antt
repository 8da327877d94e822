-- A frame back from the bits of its fields (`id_back`, `length_back`, `data_back`), and bits that are the fields before the check of
-- the frame that is read from them (`covered_back`). Rests on the laws of bits, numbers and fields. Assumes nothing else.
use Rattle.std.proofs.Common.{◌≡◌, ℕ, zero, suc, ◌+◌, ◌*◌, ◌^◌, ◌<◌, ◌≤◌, Bool, true, List, [], ◌∷◌, ◌++◌, length, take, drop, sym, refl, ap, ◌∙◌, ap₂, lt_of_lt_of_le, mod-eq_of_lt, arith, pow_mono}
use Rattle.std.proofs.Math.Seq.{take-add}
use Rattle.std.proofs.lemmas.List.{append_assoc, drop_at, drop-append-le, drop-drop, length-drop, length-take, length-take-le, take-append-le, take_at}
use Rattle.bits.proofs.BitLaws.{length-bits_of}
use Rattle.bits.proofs.NumberLaws.{bits_of-number_from, number-bits_of, number_lt}
use Rattle.bits.specs.Bits.{bits_of, bytes_bits}
use Rattle.bits.specs.Crc.{covered}
use Rattle.bits.specs.Number.{number}
use Rattle.frame.proofs.FieldLaws.{check, drop_header, fields_apart}
use Rattle.frame.proofs.GoodLaws.{bytes_first, bytes_cons, good_parts}
use Rattle.frame.proofs.LineLaws.{length_fields}
use Rattle.frame.specs.Fields.{fields}
use Rattle.frame.specs.Good.{all_bytes, good_frame}
use Rattle.reader.specs.Reading.{bytes_in, length_in}

-- ---- rows of bits

-- the bits of the number that bits write
pub bits_back : (n : ℕ) (bs : List Bool) → length bs ≡ n → bits_of n (number bs) ≡ bs
bits_back n bs e = ap (λ k. bits_of k (number bs)) (sym e) ∙ bits_of-number_from 0 bs

pub number_below : (n : ℕ) (bs : List Bool) → number (take n bs) < 2 ^ n
number_below n bs =
    let most : length (take n bs) ≤ n = omega (arith, length-take n bs) in
    lt_of_lt_of_le (number_lt (take n bs)) (pow_mono most)

-- ---- bytes

pub length-bytes_in : (n : ℕ) (d : List Bool) → length (bytes_in n d) ≡ n
unfolding bytes_in
length-bytes_in zero d = refl
length-bytes_in (suc n) d = ap suc (length-bytes_in n (drop 8 d))

pub bytes_in_bytes : (n : ℕ) (d : List Bool) → all_bytes (bytes_in n d) ≡ true
unfolding bytes_in
bytes_in_bytes zero d = refl
bytes_in_bytes (suc n) d = bytes_cons (number (take 8 d)) (bytes_in n (drop 8 d)) (number_below 8 d) (bytes_in_bytes n (drop 8 d))

pub bytes_bits_in : (n : ℕ) (d : List Bool) → 8 * n ≤ length d → bytes_bits (bytes_in n d) ≡ take (8 * n) d
unfolding bytes_in bytes_bits
bytes_bits_in zero d h = refl
bytes_bits_in (suc n) d h =
    let eight : 8 + 8 * n ≡ 8 * suc n = omega arith in
    let first : length (take 8 d) ≡ 8 = length-take-le 8 d (omega arith) in
    let more : 8 * n ≤ length (drop 8 d) = omega (arith, length-drop 8 d) in
    ap₂ (λ a b. a ++ b) (bits_back 8 (take 8 d) first) (bytes_bits_in n (drop 8 d) more) ∙ sym (take-add 8 (8 * n) d) ∙ ap (λ k. take k d) eight

pub bytes_in-bytes_bits : (xs : List ℕ) (w : List Bool) → all_bytes xs ≡ true → bytes_in (length xs) (bytes_bits xs ++ w) ≡ xs
unfolding bytes_in bytes_bits
bytes_in-bytes_bits [] w e = refl
bytes_in-bytes_bits (x ∷ xs) w e =
    let (small, rest) = bytes_first x xs e in
    let whole : (bits_of 8 x ++ bytes_bits xs) ++ w ≡ bits_of 8 x ++ (bytes_bits xs ++ w) = append_assoc (bits_of 8 x) (bytes_bits xs) w in
    let eight = length-bits_of 8 x in
    ap₂ ◌∷◌
    (ap (λ d. number (take 8 d)) whole ∙ ap number (take_at (bits_of 8 x) (bytes_bits xs ++ w) 8 eight) ∙ number-bits_of 8 x ∙ mod-eq_of_lt small)
    (ap (λ d. bytes_in (length xs) (drop 8 d)) whole ∙ ap (bytes_in (length xs)) (drop_at (bits_of 8 x) (bytes_bits xs ++ w) 8 eight)
    ∙ bytes_in-bytes_bits xs w rest)

-- ---- a good frame back from its fields, with anything behind them

module _ (id : ℕ) (xs : List ℕ) (is_good : good_frame id xs ≡ true) (z : List Bool) where
  long : 30 ≤ length (fields id xs)
  long = omega (arith, length_fields id xs)

  behind : (n : ℕ) → n ≤ 30 → drop n (fields id xs ++ z) ≡ drop n (fields id xs) ++ z
  behind n h = drop-append-le n (fields id xs) z (omega (arith, h, long))

  pub id_back : number (take 11 (fields id xs ++ z)) ≡ id
  id_back =
      ap number (take-append-le 11 (fields id xs) z (omega (arith, long)) ∙ (fields_apart id xs).identifier)
      ∙ number-bits_of 11 id ∙ mod-eq_of_lt (good_parts id xs is_good).small

  pub length_back : length_in (fields id xs ++ z) ≡ length xs
  length_back =
      let four : 4 ≤ length (drop 11 (fields id xs)) = omega (arith, length-drop 11 (fields id xs), long) in
      let few : length xs < 16 = omega (arith, (good_parts id xs is_good).few) in
      ap (λ d. number (take 4 d)) (behind 11 (omega arith))
      ∙ ap number (take-append-le 4 (drop 11 (fields id xs)) z four ∙ (fields_apart id xs).count) ∙ number-bits_of 4 (length xs) ∙ mod-eq_of_lt few

  pub data_back : bytes_in (length xs) (drop 15 (fields id xs ++ z)) ≡ xs
  data_back =
      ap (bytes_in (length xs)) (behind 15 (omega arith) ∙ ap (λ d. d ++ z) (drop_header id xs) ∙ append_assoc (bytes_bits xs) (check id xs) z)
      ∙ bytes_in-bytes_bits xs (check id xs ++ z) (good_parts id xs is_good).bytes

-- ---- bits back from the frame that is read from them

pub covered_back :
    (d : List Bool) → 15 + 8 * length_in d ≤ length d →
    covered (number (take 11 d)) (bytes_in (length_in d) (drop 15 d)) ≡ take (15 + 8 * length_in d) d
unfolding covered
covered_back d h =
    let n : ℕ = length_in d in
    let count : bits_of 4 (length (bytes_in n (drop 15 d))) ≡ take 4 (drop 11 d) =
    ap (bits_of 4) (length-bytes_in n (drop 15 d)) ∙ bits_back 4 (take 4 (drop 11 d)) (length-take-le 4 (drop 11 d) (omega (arith, h, length-drop 11 d))) in
    let bytes : bytes_bits (bytes_in n (drop 15 d)) ≡ take (8 * n) (drop 4 (drop 11 d)) =
    bytes_bits_in n (drop 15 d) (omega (arith, h, length-drop 15 d)) ∙ ap (take (8 * n)) (sym (drop-drop 4 11 d)) in
    ap₂ (λ a b. a ++ b) (bits_back 11 (take 11 d) (length-take-le 11 d (omega (arith, h)))) (ap₂ (λ a b. a ++ b) count bytes ∙ sym (take-add 4 (8 * n) (drop 11 d)))
    ∙ sym (take-add 11 (4 + 8 * n) d) ∙ ap (λ k. take k d) (omega arith)
