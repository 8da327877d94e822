-- Which bits begin the fields of a good frame. Before the check, any do that leave the length at most eight (`begins_plain`, `begins_few`);
-- in the check each bit is settled by those before it (`check_bit`). Rests on the laws of bits, numbers and checks, and on FieldsBack.
-- Assumes nothing else.
use Rattle.std.proofs.Common.{◌≡◌, ℕ, zero, suc, ◌+◌, ◌-◌, ◌*◌, ◌/◌, ◌%◌, ◌^◌, ◌<◌, ◌≤◌, Bool, true, false, ◌⊎◌, List, [], ◌∷◌, ◌++◌, length, take, drop, replicate, sym, refl, ap, ◌∙◌, ap₂, inl, inr, mod-eq_of_lt, mul-le-mul_left, mul-one, arith, lit<, pow_pos}
use lib.Pow.{shl-shr}
use Rattle.std.proofs.Math.Seq.{take-append-add}
use Rattle.std.proofs.lemmas.List.{append_assoc, append-nil, drop-append-le, drop_at, drop-replicate, length-append, length-drop, length_push, length-replicate, length-take-le, take_all, take-append-le}
use Rattle.std.proofs.lemmas.Bool.{cases_lt}
use Rattle.bits.proofs.BitLaws.{bit_at-shr, bit_at-mod, bits_of-add, bits_of_join, length-bits_of}
use Rattle.bits.proofs.CrcLaws.{crc_from-++, crc_from_lt, crc_from_own_bits}
use Rattle.bits.proofs.NumberLaws.{number-∷, number_from-++, number_from_split}
use Rattle.bits.specs.Bits.{bit, bit_at, bits_of}
use Rattle.bits.specs.Crc.{crc, crc_from, covered}
use Rattle.bits.specs.Number.{number, number_from}
use Rattle.frame.proofs.GoodLaws.{good_from, good_parts}
use Rattle.frame.proofs.LineLaws.{length-covered, length_fields, same_first, same_front}
use Rattle.frame.specs.Fields.{fields}
use Rattle.reader.proofs.FieldsBack.{bytes_in_bytes, covered_back, length_back, length-bytes_in, number_below}
use Rattle.reader.specs.Beginning.{Begins, least_length}
use Rattle.reader.specs.Hearing.{row}
use Rattle.reader.specs.Reading.{bytes_in, length_in}
use Rattle.reader.specs.declared.prefix.Prefix.{Prefix}

-- ---- rows of bits

-- what is taken past a row is taken of what stands behind it
take_past : {A : Type 0} (n : ℕ) (xs ys : List A) → length xs ≤ n → take n (xs ++ ys) ≡ xs ++ take (n - length xs) ys
take_past n xs ys h =
    let all : n ≡ length xs + (n - length xs) = omega arith in
    ap (λ k. take k (xs ++ ys)) all ∙ take-append-add xs ys (n - length xs)

-- of two rows that are the same, the ends behind fronts of one length
pub same_behind : (p q r s : List Bool) → p ++ q ≡ r ++ s → length p ≡ length r → q ≡ s
same_behind p q r s e h = sym (drop_at p q (length p) refl) ∙ ap (drop (length p)) e ∙ drop_at r s (length p) (sym h)

-- a row that is no longer than the front of another one, which is the same
front_of : (p q r s : List Bool) → p ++ q ≡ r ++ s → length p ≤ length r → (t : List Bool) × (r ≡ p ++ t) × (q ≡ t ++ s)
front_of [] q r s e h = (r, refl, e)
front_of (x ∷ p) q [] s e h = absurd (omega arith)
front_of (x ∷ p) q (y ∷ r) s e h =
    let (t, is, behind) = front_of p q r s (ap (λ l. drop 1 l) e) (omega arith) in
    (t, ap₂ ◌∷◌ (same_first y x (r ++ s) (p ++ q) (sym e)) is, behind)

-- ---- the least that the length can be

number-++ : (us vs : List Bool) → number (us ++ vs) ≡ number us * 2 ^ length vs + number vs
number-++ us vs = number_from-++ 0 us vs ∙ number_from_split (number us) vs

number_low : (n m : ℕ) → number (take n (replicate m false)) ≡ 0
unfolding number_from bit
number_low zero m = refl
number_low (suc n) zero = refl
number_low (suc n) (suc m) = number_low n m

-- a number is least if all bits are low that are left open
lower : (n : ℕ) (d r : List Bool) (m : ℕ) → n ≤ length (d ++ r) → n ≤ length d + m → number (take n (d ++ replicate m false)) ≤ number (take n (d ++ r))
lower zero d r m h k = omega arith
lower (suc n) [] r m h k = omega (arith, number_low (suc n) m)
lower (suc n) (b ∷ d) r m h k =
    let low : List Bool = take n (d ++ replicate m false) in
    let real : List Bool = take n (d ++ r) in
    let as_long : length low ≡ length real =
    length-take-le n (d ++ replicate m false) (omega (arith, length-append d (replicate m false), length-replicate m false)) ∙ sym (length-take-le n (d ++ r) (omega arith)) in
    let more = lower n d r m (omega arith) (omega arith) in
    omega (arith, more, number-∷ b low, number-∷ b real, ap (λ j. bit b * 2 ^ j) as_long)

lower_behind :
    (k n : ℕ) (d r : List Bool) (m : ℕ) → k + n ≤ length (d ++ r) → k + n ≤ length d + m →
    number (take n (drop k (d ++ replicate m false))) ≤ number (take n (drop k (d ++ r)))
lower_behind zero n d r m h g = lower n d r m (omega arith) (omega arith)
lower_behind (suc k) n [] r m h g =
    omega (arith, ap (λ l. number (take n l)) (drop-replicate (suc k) m false), number_low n (m - suc k))
lower_behind (suc k) n (b ∷ d) r m h g = lower_behind k n d r m (omega arith) (omega arith)

-- whole fields say how many bytes there are
says_length : (d : List Bool) (so : Begins d) → length_in (d ++ so.rest) ≡ length so.bytes
says_length d so = ap length_in (sym so.these ∙ sym (append-nil (fields so.id so.bytes))) ∙ length_back so.id so.bytes so.is_good []

pub begins_few : (d : List Bool) → Begins d → least_length d ≤ 8
begins_few d so =
    let few = (good_parts so.id so.bytes so.is_good).few in
    let same = says_length d so in
    let long : 30 ≤ length (d ++ so.rest) = omega (arith, ap length so.these, length_fields so.id so.bytes) in
    let least = lower_behind 11 4 d so.rest 15 (omega (arith, long)) (omega arith) in
    omega (arith, least, same, few)

-- where the length's bits are there, they say it, whatever comes behind them
pub length_kept : (d r : List Bool) → 15 ≤ length d → length_in (d ++ r) ≡ length_in d
length_kept d r h =
    ap (λ l. number (take 4 l)) (drop-append-le 11 d r (omega arith)) ∙ ap number (take-append-le 4 (drop 11 d) r (omega (arith, h, length-drop 11 d)))

pub begins-length : (d : List Bool) (so : Begins d) → 15 ≤ length d → length_in d ≡ length so.bytes
begins-length d so h = sym (length_kept d so.rest h) ∙ says_length d so

-- ---- the length, one bit more

module _ (d : List Bool) (b : Bool) where
  longer : length (d ++ (b ∷ [])) ≡ length d + 1
  longer = length_push d b

  -- before the length's bits
  low_behind : (k n : ℕ) (e : List Bool) (m : ℕ) → length e ≤ k → number (take n (drop k (e ++ replicate m false))) ≡ 0
  low_behind k n [] m h =
      ap (λ l. number (take n l)) (drop-replicate k m false) ∙ number_low n (m - k)
  low_behind zero n (x ∷ e) m h = absurd (omega arith)
  low_behind (suc k) n (x ∷ e) m h = low_behind k n e m (omega arith)

  none_yet : (e : List Bool) → length e ≤ 11 → length_in e ≡ 0
  none_yet e h = ap length_in (sym (append-nil e)) ∙ low_behind 11 4 e 0 h

  pub length_before : length d < 11 → (length_in d ≡ length_in (d ++ (b ∷ []))) × (least_length (d ++ (b ∷ [])) ≤ 8)
  length_before h =
      let whole : length (d ++ (b ∷ [])) ≤ 11 = omega (arith, longer) in
      (none_yet d (omega arith) ∙ sym (none_yet (d ++ (b ∷ [])) whole), omega (arith, low_behind 11 4 (d ++ (b ∷ [])) 15 whole))

  -- behind them
  pub least_behind : 15 ≤ length d → least_length (d ++ (b ∷ [])) ≡ length_in d
  least_behind h = ap length_in (append_assoc d (b ∷ []) (replicate 15 false)) ∙ length_kept d (b ∷ replicate 15 false) h

  pub length_behind : 15 ≤ length d → length_in d ≡ length_in (d ++ (b ∷ []))
  length_behind h = sym (length_kept d (b ∷ []) h)

  -- among them
  pub length-bit : 11 ≤ length d → length d < 15 → length_in (d ++ (b ∷ [])) ≡ 2 * length_in d + bit b
  unfolding number_from
  length-bit h short =
      let some : List Bool = drop 11 d in
      let few : length some ≤ 3 = omega (arith, length-drop 11 d) in
      ap (λ l. number (take 4 l)) (drop-append-le 11 d (b ∷ []) h)
      ∙ ap number (take_all 4 (some ++ (b ∷ [])) (omega (arith, few, length_push some b)) ∙ ap (λ l. l ++ (b ∷ [])) (sym (take_all 4 some (omega (arith, few)))))
      ∙ number_from-++ 0 (take 4 some) (b ∷ [])

  pub least_bit : 11 ≤ length d → length d < 15 → least_length (d ++ (b ∷ [])) ≡ length_in (d ++ (b ∷ [])) * 2 ^ (14 - length d)
  least_bit h short =
      let e : List Bool = d ++ (b ∷ []) in
      let some : List Bool = drop 11 e in
      let count : length some ≡ length d + 1 - 11 = length-drop 11 e ∙ ap (λ n. n - 11) longer in
      let zeros : List Bool = take (4 - length some) (replicate 15 false) in
      let left : length zeros ≡ 14 - length d = length-take-le (4 - length some) (replicate 15 false) (omega arith) ∙ omega (arith, count) in
      let all : take 4 some ≡ some = take_all 4 some (omega (arith, count)) in
      ap (λ l. number (take 4 l)) (drop-append-le 11 e (replicate 15 false) (omega (arith, longer)))
      ∙ ap number (take_past 4 some (replicate 15 false) (omega (arith, count)))
      ∙ number-++ some zeros
      ∙ ap₂ (λ x n. x * 2 ^ n + number zeros) (ap number (sym all)) left
      ∙ omega (arith, number_low (4 - length some) 15)

  -- so what is known of the length is never more than the least that it can be
  pub length_few : length_in d ≤ 8 → least_length (d ++ (b ∷ [])) ≤ 8 → length_in (d ++ (b ∷ [])) ≤ 8
  length_few known few = either (cases_lt (length d) 11) (cases_lt (length d) 15)
    where
      either : (length d < 11) ⊎ (11 ≤ length d) → (length d < 15) ⊎ (15 ≤ length d) → length_in (d ++ (b ∷ [])) ≤ 8
      either (inl before) any = omega (arith, known, (length_before before).0)
      either (inr some) (inl among) =
          let most = mul-le-mul_left (length_in (d ++ (b ∷ []))) (pow_pos (14 - length d)) in
          omega (arith, few, least_bit some among, most, mul-one (length_in (d ++ (b ∷ []))))
      either (inr some) (inr behind) = omega (arith, known, length_behind behind)

-- ---- before the check

-- the frame that the bits and low ones behind them would be
pub begins_plain : (d : List Bool) → length d ≤ 15 + 8 * least_length d → least_length d ≤ 8 → Begins d
unfolding fields
begins_plain d within few =
    let n : ℕ = least_length d in
    let head : List Bool = d ++ replicate 15 false in
    let all : List Bool = head ++ replicate 64 false in
    let head-long : length head ≡ length d + 15 = length-append d (replicate 15 false) in
    let long : length all ≡ length d + 79 = length-append head (replicate 64 false) ∙ omega (arith, head-long) in
    let same : length_in all ≡ n =
    ap (λ l. number (take 4 l)) (drop-append-le 11 head (replicate 64 false) (omega (arith, head-long)))
    ∙ ap number (take-append-le 4 (drop 11 head) (replicate 64 false) (omega (arith, head-long, length-drop 11 head))) in
    let id : ℕ = number (take 11 all) in
    let bytes : List ℕ = bytes_in (length_in all) (drop 15 all) in
    let front : covered id bytes ≡ take (15 + 8 * length_in all) all = covered_back all (omega (arith, long, same, few)) in
    let cut : take (15 + 8 * length_in all) all ≡ d ++ take (15 + 8 * length_in all - length d) (replicate 15 false ++ replicate 64 false) =
    ap (take (15 + 8 * length_in all)) (append_assoc d (replicate 15 false) (replicate 64 false))
    ∙ take_past (15 + 8 * length_in all) d (replicate 15 false ++ replicate 64 false) (omega (arith, same, within)) in
    record {
      id = id;
      bytes = bytes;
      rest = take (15 + 8 * length_in all - length d) (replicate 15 false ++ replicate 64 false) ++ bits_of 15 (crc (covered id bytes));
      is_good = good_from id bytes (number_below 11 all) (omega (arith, length-bytes_in (length_in all) (drop 15 all), same, few)) (bytes_in_bytes (length_in all) (drop 15 all));
      these = ap (λ l. l ++ bits_of 15 (crc (covered id bytes))) (front ∙ cut) ∙ append_assoc d _ _;
    }

-- ---- in the check

-- behind n of a check's bits the check's highest bit is the next of them
own_next : (m n c : ℕ) → m + n ≡ 14 → c < 2 ^ 15 → bit_at (crc_from c (bits_of n (c / 2 ^ suc m))) 14 ≡ bit_at c m
own_next m n c e narrow =
    let moved : crc_from c (bits_of n (c / 2 ^ suc m)) ≡ c * 2 ^ n % 2 ^ 15 =
    ap (λ k. crc_from k (bits_of n (c / 2 ^ suc m))) (sym (mod-eq_of_lt narrow)) ∙ crc_from_own_bits (suc m) n c (omega arith) in
    ap (λ k. bit_at k 14) moved ∙ bit_at-mod (c * 2 ^ n) 0 14 ∙ ap (bit_at (c * 2 ^ n)) (sym e) ∙ sym (bit_at-shr (c * 2 ^ n) n m) ∙ ap (λ k. bit_at k m) (shl-shr c n)

-- a bit of the check's, behind the part q of it
check_part :
    (c : ℕ) (q : List Bool) (b : Bool) (rest : List Bool) (m : ℕ) → c < 2 ^ 15 → bits_of 15 c ≡ q ++ (b ∷ rest) → m + length q ≡ 14 →
    b ≡ bit_at (crc_from c q) 14
unfolding bits_of
check_part c q b rest m narrow e at =
    let n : ℕ = length q in
    let width : 15 ≡ n + suc m = omega (arith, at) in
    let cut : q ++ (b ∷ rest) ≡ bits_of n (c / 2 ^ suc m) ++ bits_of (suc m) c = sym e ∙ ap (λ k. bits_of k c) width ∙ bits_of-add n (suc m) c in
    let ends : length (b ∷ rest) ≡ length (bits_of (suc m) c) =
    omega (arith, ap length e, length-append q (b ∷ rest), length-bits_of 15 c, length-bits_of (suc m) c, at) in
    let front : q ≡ bits_of n (c / 2 ^ suc m) = same_front q (b ∷ rest) (bits_of n (c / 2 ^ suc m)) (bits_of (suc m) c) cut ends in
    let back : b ∷ rest ≡ bit_at c m ∷ bits_of m c = same_behind q (b ∷ rest) (bits_of n (c / 2 ^ suc m)) (bits_of (suc m) c) cut (ap length front) in
    same_first b (bit_at c m) rest (bits_of m c) back ∙ sym (own_next m n c at narrow) ∙ ap (λ r. bit_at (crc_from c r) 14) (sym front)

pub check_bit :
    (id : ℕ) (xs : List ℕ) (d : List Bool) (b : Bool) (rest : List Bool) → fields id xs ≡ d ++ (b ∷ rest) → 15 + 8 * length xs ≤ length d →
    b ≡ bit_at (crc d) 14
unfolding fields
check_bit id xs d b rest e h =
    let plain : List Bool = covered id xs in
    let c : ℕ = crc plain in
    let (q, is, behind) = front_of plain (bits_of 15 c) d (b ∷ rest) e (omega (arith, length-covered id xs, h)) in
    let few : length q + suc (length rest) ≡ 15 = sym (length-append q (b ∷ rest)) ∙ ap length (sym behind) ∙ length-bits_of 15 c in
    check_part c q b rest (14 - length q) (crc_from_lt 0 plain (lit< tt)) behind (omega (arith, few))
    ∙ ap (λ k. bit_at k 14) (sym (crc_from-++ 0 plain q) ∙ ap crc (sym is))

-- ---- one bit more

module _ (d : List Bool) (b : Bool) where
  one_more : (r : List Bool) → (d ++ (b ∷ [])) ++ r ≡ d ++ (b ∷ r)
  one_more r = append_assoc d (b ∷ []) r

  -- in the check it has to be the check's own
  pub begins_own : Begins (d ++ (b ∷ [])) → 15 + 8 * length_in d ≤ length d → b ≡ bit_at (crc d) 14
  begins_own so h =
      let shorter : Begins d = record { id = so.id; bytes = so.bytes; rest = b ∷ so.rest; is_good = so.is_good; these = so.these ∙ one_more so.rest } in
      check_bit so.id so.bytes d b so.rest (so.these ∙ one_more so.rest) (omega (arith, h, begins-length d shorter (omega arith)))

  -- and if it is, the fields go on
  pub begins_more : Begins d → 15 + 8 * length_in d ≤ length d → length d < 30 + 8 * length_in d → b ≡ bit_at (crc d) 14 → Begins (d ++ (b ∷ []))
  begins_more so h short own = go so.rest so.these
    where
      known : length_in d ≡ length so.bytes
      known = begins-length d so (omega (arith, h))

      go : (rest : List Bool) → fields so.id so.bytes ≡ d ++ rest → Begins (d ++ (b ∷ []))
      go [] e = absurd (omega (arith, short, known, ap length e, length-append d [], length_fields so.id so.bytes))
      go (r ∷ rest) e =
          let same : r ≡ b = check_bit so.id so.bytes d r rest e (omega (arith, h, known)) ∙ sym own in
          record { id = so.id; bytes = so.bytes; rest = rest; is_good = so.is_good; these = e ∙ ap (λ x. d ++ (x ∷ rest)) same ∙ sym (one_more rest) }

  -- so a bit goes on if the length may still be at most eight, and if in the check it is the check's own
  pub begins_next :
      Begins d → least_length (d ++ (b ∷ [])) ≤ 8 → length d < 30 + 8 * length_in d → (15 + 8 * length_in d ≤ length d → b ≡ bit_at (crc d) 14) →
      Begins (d ++ (b ∷ []))
  begins_next so few short own = either (cases_lt (length d) (15 + 8 * length_in d))
    where
      plain : (length d < 15) ⊎ (15 ≤ length d) → length d < 15 + 8 * length_in d → Begins (d ++ (b ∷ []))
      plain (inl before) h = begins_plain (d ++ (b ∷ [])) (omega (arith, longer d b)) few
      plain (inr known) h = begins_plain (d ++ (b ∷ [])) (omega (arith, longer d b, least_behind d b known)) few

      either : (length d < 15 + 8 * length_in d) ⊎ (15 + 8 * length_in d ≤ length d) → Begins (d ++ (b ∷ []))
      either (inl h) = plain (cases_lt (length d) 15) h
      either (inr h) = begins_more so h short (own h)

-- ---- bits as the lowest of a number

pub count_is : (p : Prefix) → length (row p) ≡ p.count
count_is p = length-bits_of p.count p.number

pub row_push : (c x : ℕ) (b : Bool) → bits_of (c + 1) (2 * x + bit b) ≡ bits_of c x ++ (b ∷ [])
unfolding bits_of bit bit_at
row_push c x true =
    let twice : 2 * x + 1 ≡ x * 2 ^ 1 + 1 = omega arith in
    ap (bits_of (c + 1)) twice ∙ bits_of_join c 1 x 1 (lit< tt)
row_push c x false =
    let twice : 2 * x + 0 ≡ x * 2 ^ 1 + 0 = omega arith in
    ap (bits_of (c + 1)) twice ∙ bits_of_join c 1 x 0 (lit< tt)
