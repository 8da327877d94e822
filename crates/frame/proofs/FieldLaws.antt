-- What holds of a frame's fields: as one number they grow field by field, each joined to it as its lowest bits (`joined_all`), and each
-- stands at its place (`fields_apart`). Rests on the laws of bits. Assumes nothing else.
use Rattle.std.proofs.Common.{◌≡◌, ℕ, zero, suc, ◌+◌, ◌*◌, ◌^◌, ◌<◌, ◌≤◌, Bool, List, [], ◌∷◌, ◌++◌, length, get_or, take, drop, sym, refl, ap, ◌∙◌, ap₂, lt_of_lt_of_le, mul-le-mul_right, add-mul, arith, pow_mono, pow-add}
use Rattle.std.proofs.lemmas.List.{append_assoc, append-nil, drop_at, drop-drop, take_all, take_at, take_more}
use Rattle.bits.proofs.BitLaws.{bits_of_join, length-bits_of}
use Rattle.bits.specs.Bits.{bits_of, bytes_bits}
use Rattle.bits.specs.Crc.{crc, covered}
use Rattle.frame.proofs.LineLaws.{length-covered}
use Rattle.frame.specs.Contents.{frame_data}
use Rattle.frame.specs.Fields.{fields}
use Rattle.frame.specs.Laws.{Parts, FieldsApart}
use Rattle.frame.specs.declared.frame.Frame.{Frame}

join_lt : (m n x y : ℕ) → x < 2 ^ m → y < 2 ^ n → x * 2 ^ n + y < 2 ^ (m + n)
join_lt m n x y hx hy =
    let most : (x + 1) * 2 ^ n ≤ 2 ^ m * 2 ^ n = mul-le-mul_right (2 ^ n) (omega arith) in
    omega (arith, hy, most, pow-add 2 m n, add-mul x 1 (2 ^ n))

pub bytes_bits-++ : (xs ys : List ℕ) → bytes_bits (xs ++ ys) ≡ bytes_bits xs ++ bytes_bits ys
unfolding bytes_bits
bytes_bits-++ [] ys = refl
bytes_bits-++ (x ∷ xs) ys = ap (λ r. bits_of 8 x ++ r) (bytes_bits-++ xs ys) ∙ sym (append_assoc (bits_of 8 x) (bytes_bits xs) (bytes_bits ys))

-- a frame has at most eight bytes
pub few_bytes : (f : Frame) → length (frame_data f) ≤ 8
few_bytes f = f.good.1

-- the number n has the fields up to the first i bytes joined
abbrev pub Joined : ℕ → List ℕ → ℕ → ℕ → Type 0
Joined id xs i n = (n < 2 ^ (15 + 8 * i)) × (bits_of (15 + 8 * i) n ≡ bits_of 11 id ++ (bits_of 4 (length xs) ++ bytes_bits (take i xs)))

pub joined_small : (f : Frame) (xs : List ℕ) (i n : ℕ) → xs ≡ frame_data f → i ≤ length xs → Joined f.id xs i n → n < 2 ^ 79
joined_small f xs i n these within (small, joined) =
    let width : 15 + 8 * i ≤ 79 = omega (arith, ap length these, few_bytes f) in
    lt_of_lt_of_le small (pow_mono width)

pub joined_none : (id : ℕ) (xs : List ℕ) → id < 2048 → length xs ≤ 8 → Joined id xs 0 (id * 16 + length xs)
unfolding bytes_bits
joined_none id xs h few =
    (omega arith, bits_of_join 11 4 id (length xs) (omega arith) ∙ ap (λ r. bits_of 11 id ++ r) (sym (append-nil (bits_of 4 (length xs)))))

pub joined_more :
    (id : ℕ) (xs : List ℕ) (i n : ℕ) → i < length xs → get_or xs i 0 < 256 → Joined id xs i n → Joined id xs (i + 1) (n * 256 + get_or xs i 0)
unfolding bytes_bits
joined_more id xs i n h byte (small, joined) =
    let width : 15 + 8 * (i + 1) ≡ 15 + 8 * i + 8 = omega arith in
    let bytes : bytes_bits (take (i + 1) xs) ≡ bytes_bits (take i xs) ++ bits_of 8 (get_or xs i 0) =
    ap bytes_bits (take_more xs i 0 h) ∙ bytes_bits-++ (take i xs) (get_or xs i 0 ∷ []) ∙ ap (λ r. bytes_bits (take i xs) ++ r) (append-nil (bits_of 8 (get_or xs i 0))) in
    rw width (
      join_lt (15 + 8 * i) 8 n (get_or xs i 0) small byte,
      bits_of_join (15 + 8 * i) 8 n (get_or xs i 0) byte
          ∙ ap (λ r. r ++ bits_of 8 (get_or xs i 0)) joined
          ∙ append_assoc (bits_of 11 id) (bits_of 4 (length xs) ++ bytes_bits (take i xs)) (bits_of 8 (get_or xs i 0))
          ∙ ap (λ r. bits_of 11 id ++ r) (append_assoc (bits_of 4 (length xs)) (bytes_bits (take i xs)) (bits_of 8 (get_or xs i 0)))
          ∙ ap (λ r. bits_of 11 id ++ (bits_of 4 (length xs) ++ r)) (sym bytes),
    )

pub joined_all :
    (id : ℕ) (xs : List ℕ) (i n c : ℕ) → i ≡ length xs → c < 2 ^ 15 → c ≡ crc (covered id xs) → Joined id xs i n →
    bits_of (30 + 8 * length xs) (n * 32768 + c) ≡ fields id xs
unfolding fields covered
joined_all id xs i n c all narrow check (small, joined) =
    let width : 30 + 8 * length xs ≡ 15 + 8 * i + 15 = omega (arith, all) in
    let plain : bits_of (15 + 8 * i) n ≡ covered id xs =
    joined ∙ ap (λ r. bits_of 11 id ++ (bits_of 4 (length xs) ++ bytes_bits r)) (take_all i xs (omega (arith, all))) in
    ap (λ k. bits_of k (n * 32768 + c)) width ∙ bits_of_join (15 + 8 * i) 15 n c narrow ∙ ap₂ (λ r k. r ++ bits_of 15 k) plain check

-- ---- what stands where

-- the bits of byte i, whatever stands behind them all
byte_at : (xs : List ℕ) (w : List Bool) (i : ℕ) → i < length xs → take 8 (drop (8 * i) (bytes_bits xs ++ w)) ≡ bits_of 8 (get_or xs i 0)
unfolding bytes_bits
byte_at [] w i h = absurd (omega arith)
byte_at (x ∷ xs) w zero h =
    ap (take 8) (append_assoc (bits_of 8 x) (bytes_bits xs) w) ∙ take_at (bits_of 8 x) (bytes_bits xs ++ w) 8 (length-bits_of 8 x)
byte_at (x ∷ xs) w (suc i) h =
    let eight : 8 * suc i ≡ 8 + 8 * i = omega arith in
    ap₂ (λ n l. take 8 (drop n l)) eight (append_assoc (bits_of 8 x) (bytes_bits xs) w)
    ∙ ap (take 8) (sym (drop-drop (8 * i) 8 (bits_of 8 x ++ (bytes_bits xs ++ w))))
    ∙ ap (λ l. take 8 (drop (8 * i) l)) (drop_at (bits_of 8 x) (bytes_bits xs ++ w) 8 (length-bits_of 8 x))
    ∙ byte_at xs w i (omega arith)

module _ (id : ℕ) (xs : List ℕ) where
  pub check : List Bool
  check = bits_of 15 (crc (covered id xs))

  -- behind the identifier
  behind_id : fields id xs ≡ bits_of 11 id ++ (bits_of 4 (length xs) ++ (bytes_bits xs ++ check))
  unfolding fields covered check
  behind_id =
      append_assoc (bits_of 11 id) (bits_of 4 (length xs) ++ bytes_bits xs) check
      ∙ ap (λ r. bits_of 11 id ++ r) (append_assoc (bits_of 4 (length xs)) (bytes_bits xs) check)

  drop_id : drop 11 (fields id xs) ≡ bits_of 4 (length xs) ++ (bytes_bits xs ++ check)
  drop_id = ap (drop 11) behind_id ∙ drop_at (bits_of 11 id) (bits_of 4 (length xs) ++ (bytes_bits xs ++ check)) 11 (length-bits_of 11 id)

  pub drop_header : drop 15 (fields id xs) ≡ bytes_bits xs ++ check
  drop_header =
      sym (drop-drop 4 11 (fields id xs)) ∙ ap (drop 4) drop_id ∙ drop_at (bits_of 4 (length xs)) (bytes_bits xs ++ check) 4 (length-bits_of 4 (length xs))

  parts : Parts id xs
  unfolding fields check
  parts = record {
    identifier = ap (take 11) behind_id ∙ take_at (bits_of 11 id) (bits_of 4 (length xs) ++ (bytes_bits xs ++ check)) 11 (length-bits_of 11 id);
    count = ap (take 4) drop_id ∙ take_at (bits_of 4 (length xs)) (bytes_bits xs ++ check) 4 (length-bits_of 4 (length xs));
    byte = λ i h. ap (take 8) (sym (drop-drop (8 * i) 15 (fields id xs)) ∙ ap (drop (8 * i)) drop_header) ∙ byte_at xs check i h;
    check =
        drop_at (covered id xs) check (15 + 8 * length xs) (length-covered id xs)
        ∙ ap (λ r. bits_of 15 (crc r)) (sym (take_at (covered id xs) check (15 + 8 * length xs) (length-covered id xs)));
  }

pub fields_apart : FieldsApart
fields_apart = parts
