-- What holds of the number that bits write. Reading back the n lowest bits of x gives x modulo 2 ^ n (`number-bits_of`), and
-- the bits of a number that was read are those that were read (`bits_of-number_from`).
-- Rests on BitLaws and on the laws of powers of lib.Pow. Assumes nothing else.
use Rattle.std.proofs.Common.{◌≡◌, ℕ, zero, suc, ◌+◌, ◌*◌, ◌%◌, ◌^◌, ◌<◌, ◌≤◌, Bool, true, false, List, [], ◌∷◌, ◌++◌, length, get_or, drop, sym, refl, ◌∙◌, ap₂, mul_assoc, add-mul, mul-le-mul_left, pow-suc, zero-add, mul-one, one-add, arith, pow_pos}
use native.Mathlib.Nat.{mod-one}
use lib.Pow.{high, mod-pow-add}
use Rattle.std.proofs.lemmas.List.{at_drop_more}
use Rattle.std.proofs.lemmas.Bool.Decides.{nat_tests}
use Rattle.bits.proofs.BitLaws.{bit-bit_at, length-bits_of}
use Rattle.bits.specs.Bits.{bit, bit_at, bits_of}
use Rattle.bits.specs.Number.{number, number_from}

-- ---- a number by its parts

pub number_from-++ : (v : ℕ) (us vs : List Bool) → number_from v (us ++ vs) ≡ number_from (number_from v us) vs
unfolding number_from
number_from-++ v [] vs = refl
number_from-++ v (u ∷ us) vs = number_from-++ (2 * v + bit u) us vs

-- one bit d more behind v, with n others to come
shift_in : (v d n : ℕ) → (2 * v + d) * 2 ^ n ≡ v * 2 ^ suc n + d * 2 ^ n
shift_in v d n = rw (pow-suc 2 n) (omega (arith, add-mul (2 * v) d (2 ^ n), mul_assoc 2 v (2 ^ n), mul_assoc v (2 ^ n) 2))

-- what was read before stands in front of the bits that follow
pub number_from_split : (v : ℕ) (bs : List Bool) → number_from v bs ≡ v * 2 ^ length bs + number bs
unfolding number_from
number_from_split v [] = omega (arith, mul-one v)
number_from_split v (b ∷ bs) =
    omega (
      arith,
      number_from_split (2 * v + bit b) bs,
      number_from_split (2 * 0 + bit b) bs,
      shift_in v (bit b) (length bs),
      shift_in 0 (bit b) (length bs),
    )

pub number-∷ : (b : Bool) (bs : List Bool) → number (b ∷ bs) ≡ bit b * 2 ^ length bs + number bs
unfolding number_from
number-∷ b bs = number_from_split (2 * 0 + bit b) bs ∙ rw (zero-add (bit b))

-- a number only grows as more of it is read
pub le_number_from : (v : ℕ) (bs : List Bool) → v ≤ number_from v bs
le_number_from v bs = omega (arith, number_from_split v bs, mul-le-mul_left v (pow_pos (length bs)), mul-one v)

pub number_lt : (bs : List Bool) → number bs < 2 ^ length bs
unfolding number_from bit
number_lt [] = omega arith
number_lt (true ∷ bs) = omega (arith, number_lt bs, number-∷ true bs, pow-suc 2 (length bs))
number_lt (false ∷ bs) = omega (arith, number_lt bs, number-∷ false bs, pow-suc 2 (length bs))

-- a loop's step, past the bit at i
pub number_from_more : (v : ℕ) (bs : List Bool) (i : ℕ) (d : Bool) → i < length bs
    → number_from v (drop i bs) ≡ number_from (2 * v + bit (get_or bs i d)) (drop (i + 1) bs)
unfolding number_from
number_from_more v bs i d h = at_drop_more (number_from v) bs i d h

-- ---- from bits to a number and back

pub number-bits_of : (n x : ℕ) → number (bits_of n x) ≡ x % 2 ^ n
unfolding bits_of number_from
number-bits_of zero x = sym (mod-one x)
number-bits_of (suc n) x =
    number-∷ (bit_at x n) (bits_of n x)
    ∙ rw (bit-bit_at x n, length-bits_of n x, number-bits_of n x, ← one-add n, mod-pow-add x 1 n)

-- the bit behind v, in front of the rest r of n bits
bit_at_front : (v : ℕ) (b : Bool) (n r : ℕ) → r < 2 ^ n → bit_at ((2 * v + bit b) * 2 ^ n + r) n ≡ b
unfolding bit_at bit
bit_at_front v true n r h = rw (high (2 * v + 1) n h) (grind (arith, nat_tests))
bit_at_front v false n r h = rw (high (2 * v + 0) n h) (grind (arith, nat_tests))

pub bits_of-number_from : (v : ℕ) (bs : List Bool) → bits_of (length bs) (number_from v bs) ≡ bs
unfolding bits_of number_from
bits_of-number_from v [] = refl
bits_of-number_from v (b ∷ bs) =
    ap₂ ◌∷◌
    (rw (number_from_split (2 * v + bit b) bs) (bit_at_front v b (length bs) (number bs) (number_lt bs)))
    (bits_of-number_from (2 * v + bit b) bs)
