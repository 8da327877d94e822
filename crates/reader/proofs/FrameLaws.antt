-- A frame taken from the number that its fields are: its identifier (`id-taken`) and its bytes (`data_taken`); and its fields
-- are then the bits of that number (`fields_are`). Rests on the laws of bits and numbers and on FieldsBack.
-- Assumes nothing else.
use Rattle.std.proofs.Common.{◌≡◌, ℕ, zero, suc, ◌+◌, ◌-◌, ◌*◌, ◌/◌, ◌%◌, ◌^◌, ◌<◌, ◌≤◌, Bool, true, List, [], ◌∷◌, ◌++◌, length, take, drop, sym, refl, ap, ◌∙◌, ap₂, mod-eq_of_lt, arith, shr_lt, pow-add, div-one}
use Rattle.std.proofs.Math.Nat.{pow-suc}
use Rattle.std.proofs.lemmas.List.{append-nil, drop_at, length-append, nil_from_length, take_all, take_at}
use Rattle.std.specs.Int.{byte_at, bytes_high_first}
use Rattle.bits.proofs.BitLaws.{bits_of-add, length-bits_of}
use Rattle.bits.proofs.NumberLaws.{number-bits_of}
use Rattle.bits.specs.Bits.{bits_of}
use Rattle.bits.specs.Crc.{crc, covered}
use Rattle.bits.specs.Number.{number}
use Rattle.frame.proofs.GoodLaws.{good_from}
use Rattle.frame.proofs.LineLaws.{length_fields, same_front}
use Rattle.frame.specs.Fields.{fields}
use Rattle.frame.specs.Good.{good_frame}
use Rattle.reader.proofs.FieldsBack.{bytes_in_bytes, covered_back, length-bytes_in, number_below}
use Rattle.reader.proofs.PrefixLaws.{begins-length, length_kept}
use Rattle.reader.specs.Beginning.{Begins}
use Rattle.reader.specs.Reading.{bytes_in, length_in}

-- ---- the bytes of a number

powers : (n : ℕ) → 2 ^ (8 * n) ≡ 256 ^ n
powers zero = refl
powers (suc n) =
    let width : 8 * suc n ≡ 8 * n + 8 = omega arith in
    ap (λ k. 2 ^ k) width ∙ pow-add 2 (8 * n) 8 ∙ ap (λ k. k * 256) (powers n) ∙ sym (pow-suc 256 n)

byte_there : (n x : ℕ) → x / 2 ^ (8 * n) % 256 ≡ byte_at n x
byte_there zero x = ap (λ k. k % 256) (div-one x)
byte_there (suc n) x = ap (λ k. x / k % 256) (powers (suc n))

bytes_written : (n x : ℕ) → bytes_in n (bits_of (8 * n) x) ≡ bytes_high_first n x
unfolding bytes_in
bytes_written zero x = refl
bytes_written (suc n) x =
    let width : 8 * suc n ≡ 8 + 8 * n = omega arith in
    let high : List Bool = bits_of 8 (x / 2 ^ (8 * n)) in
    let low : List Bool = bits_of (8 * n) x in
    let eight : length high ≡ 8 = length-bits_of 8 (x / 2 ^ (8 * n)) in
    ap (bytes_in (suc n)) (ap (λ k. bits_of k x) width ∙ bits_of-add 8 (8 * n) x)
    ∙ ap₂ ◌∷◌ (ap number (take_at high low 8 eight) ∙ number-bits_of 8 (x / 2 ^ (8 * n)) ∙ byte_there n x) (ap (bytes_in n) (drop_at high low 8 eight) ∙ bytes_written n x)

-- the lowest bytes are the last
last_bytes : (k m n x : ℕ) → m ≡ k + n → drop k (bytes_high_first m x) ≡ bytes_high_first n x
last_bytes zero m n x e = ap (λ i. bytes_high_first i x) (omega (arith, e))
last_bytes (suc k) zero n x e = absurd (omega arith)
last_bytes (suc k) (suc m) n x e = last_bytes k m n x (omega arith)

-- ---- the frame of the bits before the check

module _ (len x : ℕ) where
  abbrev pub head : List Bool
  head = bits_of (15 + 8 * len) x

  abbrev pub id-of : ℕ
  id-of = number (take 11 head)

  abbrev pub data_of : List ℕ
  data_of = bytes_in len (drop 15 head)

  -- the identifier as the code takes it from the number
  pub id-taken : x < 2 ^ (15 + 8 * len) → x / 2 ^ (4 + 8 * len) ≡ id-of
  id-taken small =
      let width : 15 + 8 * len ≡ 11 + (4 + 8 * len) = omega arith in
      let id : ℕ = x / 2 ^ (4 + 8 * len) in
      sym (ap number (ap (λ k. take 11 (bits_of k x)) width ∙ ap (take 11) (bits_of-add 11 (4 + 8 * len) x) ∙ take_at (bits_of 11 id) (bits_of (4 + 8 * len) x) 11 (length-bits_of 11 id))
      ∙ number-bits_of 11 id ∙ mod-eq_of_lt (shr_lt 11 (4 + 8 * len) (omega (arith, small, ap (λ k. 2 ^ k) width))))

  module _ (few : len ≤ 8) where
    pub frame-good : good_frame id-of data_of ≡ true
    frame-good = good_from id-of data_of (number_below 11 head) (omega (arith, length-bytes_in len (drop 15 head), few)) (bytes_in_bytes len (drop 15 head))

    -- and the bytes, the last of sixteen
    pub data_taken : (bytes : List ℕ) → bytes ≡ bytes_high_first 16 x → take (16 - (16 - len)) (drop (16 - len) bytes) ≡ data_of
    data_taken bytes is =
        let header : List Bool = bits_of 15 (x / 2 ^ (8 * len)) in
        let behind : bytes_high_first len x ≡ data_of =
        sym (ap (bytes_in len) (ap (drop 15) (bits_of-add 15 (8 * len) x) ∙ drop_at header (bits_of (8 * len) x) 15 (length-bits_of 15 (x / 2 ^ (8 * len)))) ∙ bytes_written len x) in
        let last : drop (16 - len) bytes ≡ data_of = ap (drop (16 - len)) is ∙ last_bytes (16 - len) 16 len x (omega arith) ∙ behind in
        ap (take (16 - (16 - len))) last ∙ take_all (16 - (16 - len)) data_of (omega (arith, length-bytes_in len (drop 15 head)))

    head-is : length_in head ≡ len → covered id-of data_of ≡ head
    head-is e =
        let long : length head ≡ 15 + 8 * len = length-bits_of (15 + 8 * len) x in
        ap (λ k. covered id-of (bytes_in k (drop 15 head))) (sym e) ∙ covered_back head (omega (arith, e, long)) ∙ take_all (15 + 8 * length_in head) head (omega (arith, e, long))

-- ---- the frame's fields are the bits

pub fields_are :
    (len y : ℕ) → len ≤ 8 → length_in (bits_of (30 + 8 * len) y) ≡ len → Begins (bits_of (30 + 8 * len) y) →
    fields (id-of len (y / 2 ^ 15)) (data_of len (y / 2 ^ 15)) ≡ bits_of (30 + 8 * len) y
unfolding fields
fields_are len y few known so =
    let row : List Bool = bits_of (30 + 8 * len) y in
    let front : List Bool = head len (y / 2 ^ 15) in
    let width : 30 + 8 * len ≡ 15 + 8 * len + 15 = omega arith in
    let cut : row ≡ front ++ bits_of 15 y = ap (λ k. bits_of k y) width ∙ bits_of-add (15 + 8 * len) 15 y in
    let row-long : length row ≡ 30 + 8 * len = length-bits_of (30 + 8 * len) y in
    let front_long : length front ≡ 15 + 8 * len = length-bits_of (15 + 8 * len) (y / 2 ^ 15) in
    let says : length_in front ≡ len = sym (length_kept front (bits_of 15 y) (omega (arith, front_long))) ∙ ap length_in (sym cut) ∙ known in
    let many : len ≡ length so.bytes = sym known ∙ begins-length row so (omega (arith, row-long)) in
    let rest-long : length row + length so.rest ≡ 30 + 8 * length so.bytes =
    sym (length-append row so.rest) ∙ ap length (sym so.these) ∙ length_fields so.id so.bytes in
    let none : so.rest ≡ [] = nil_from_length so.rest (omega (arith, rest-long, many, row-long)) in
    let these : fields so.id so.bytes ≡ row = so.these ∙ ap (λ r. row ++ r) none ∙ append-nil row in
    let plain : List Bool = covered so.id so.bytes in
    let same : plain ≡ front = same_front plain (bits_of 15 (crc plain)) front (bits_of 15 y) (these ∙ cut) (length-bits_of 15 (crc plain) ∙ sym (length-bits_of 15 y)) in
    ap (λ r. r ++ bits_of 15 (crc r)) (head-is len (y / 2 ^ 15) few says ∙ sym same) ∙ these
