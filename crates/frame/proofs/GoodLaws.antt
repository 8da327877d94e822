-- What a good frame is, part by part (`good_parts`, `good_from`), and what it is for numbers to be bytes.
-- Rests on nothing but the definitions.
use Rattle.std.proofs.Common.{◌≡◌, ℕ, suc, arith, ◌<◌, ◌≤◌, true, ltb, leb, List, [], ◌∷◌, length, get_or, refl}
use Rattle.std.proofs.lemmas.Bool.{and_from, and_parts, leb-true, le-leb, lt-ltb, ltb-true}
use Rattle.frame.specs.Good.{all_bytes, good, good_frame}

-- ---- a good frame

pub record GoodParts (id : ℕ) (xs : List ℕ) : Type 0 where
  pub small : id < 2048
  pub few : length xs ≤ 8
  pub bytes : all_bytes xs ≡ true

pub good_parts : (id : ℕ) (xs : List ℕ) → good_frame id xs ≡ true → GoodParts id xs
good_parts id xs e =
    let (is_good, bytes) = and_parts (good id xs) (all_bytes xs) e in
    let (first, few) = and_parts (ltb id 2048) (leb (length xs) 8) is_good in
    record { small = ltb-true id 2048 first; few = leb-true (length xs) 8 few; bytes = bytes }

pub good_from : (id : ℕ) (xs : List ℕ) → id < 2048 → length xs ≤ 8 → all_bytes xs ≡ true → good_frame id xs ≡ true
good_from id xs small few bytes =
    and_from (good id xs) (all_bytes xs) (and_from (ltb id 2048) (leb (length xs) 8) (lt-ltb id 2048 small) (le-leb (length xs) 8 few)) bytes

-- ---- bytes

pub bytes_first : (x : ℕ) (xs : List ℕ) → all_bytes (x ∷ xs) ≡ true → (x < 256) × (all_bytes xs ≡ true)
bytes_first x xs e =
    let (first, rest) = and_parts (ltb x 256) (all_bytes xs) e in
    (ltb-true x 256 first, rest)

pub bytes_cons : (x : ℕ) (xs : List ℕ) → x < 256 → all_bytes xs ≡ true → all_bytes (x ∷ xs) ≡ true
bytes_cons x xs small bytes = and_from (ltb x 256) (all_bytes xs) (lt-ltb x 256 small) bytes

-- numbers each of which is a byte
pub all_bytes_from : (xs : List ℕ) → ((i : ℕ) → i < length xs → get_or xs i 0 < 256) → all_bytes xs ≡ true
all_bytes_from [] each = refl
all_bytes_from (x ∷ xs) each = bytes_cons x xs (each 0 (omega arith)) (all_bytes_from xs (λ i h. each (suc i) (omega arith)))
