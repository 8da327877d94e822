-- What holds of single bits and of rows of bits. A row of m + n bits is the row of the high m and that of the low n
-- (`bits_of-add`), and bits added without carrying are turned (`bits_of-xor`).
-- Rests on the laws of powers and of `bit_xor` of lib.Pow and lib.Bits. Assumes nothing else.
use Rattle.std.proofs.Common.{◌≡◌, ℕ, zero, suc, ◌+◌, ◌-◌, ◌*◌, ◌/◌, ◌%◌, ◌^◌, ◌<◌, Bool, true, false, not, eqb, ◌∷◌, ◌++◌, length, sym, refl, ap, ◌∙◌, ap₂, add-suc, add_comm, suc-add, zero-add, arith, shr-shr}
use mathlib.Core.Bool.{beq}
use native.Mathlib.Nat.{div-eq_of_lt}
use native.Mathlib.Numerals.{suc-eq-add-one}
use lib.Bits.{bit_xor, xor_shr, xor_mod}
use lib.Pow.{field, mod-mod-pow, high, low}
use mir.Val.{bool_byte}
use Rattle.std.proofs.lemmas.Bool.Decides.{nat_tests}
use Rattle.bits.specs.Bits.{bit, bit_at, bits_of, differ, turned}

-- ---- one bit

-- as code has it
pub bool_byte-is : (b : Bool) → bool_byte b ≡ bit b
unfolding bit
bool_byte-is true = refl
bool_byte-is false = refl

-- as code tests it
pub differ_is : (a b : Bool) → differ a b ≡ not (beq a b)
unfolding differ
differ_is true true = refl
differ_is true false = refl
differ_is false true = refl
differ_is false false = refl

pub bit-bit_at : (x k : ℕ) → bit (bit_at x k) ≡ x / 2 ^ k % 2
unfolding bit bit_at
bit-bit_at x k = grind (arith, nat_tests)

pub bit_at-shr : (x n k : ℕ) → bit_at (x / 2 ^ n) k ≡ bit_at x (k + n)
unfolding bit_at
bit_at-shr x n k = rw (shr-shr x n k, add_comm n k)

pub bit_at-mod : (x j k : ℕ) → bit_at (x % 2 ^ (suc j + k)) k ≡ bit_at x k
unfolding bit_at
bit_at-mod x j k = rw (field x (suc j) k, suc-eq-add-one j, mod-mod-pow (x / 2 ^ k) j 1)

-- a number has no high bit at 2 ^ k where it is below that
pub bit_at_past : (x k : ℕ) → x < 2 ^ k → bit_at x k ≡ false
unfolding bit_at
bit_at_past x k h = rw (div-eq_of_lt h)

-- of two digits, each 0 or 1
digit-xor : (p q : ℕ) → p < 2 → q < 2 → eqb (bit_xor p q) 1 ≡ differ (eqb p 1) (eqb q 1)
unfolding differ
digit-xor zero q hp hq = refl
digit-xor (suc zero) zero hp hq = refl
digit-xor (suc zero) (suc zero) hp hq = refl
digit-xor (suc zero) (suc (suc q)) hp hq = absurd (omega arith)
digit-xor (suc (suc p)) q hp hq = absurd (omega arith)

pub bit_at_xor : (x y k : ℕ) → bit_at (bit_xor x y) k ≡ differ (bit_at x k) (bit_at y k)
unfolding bit_at
bit_at_xor x y k =
    rw (xor_shr x y k, xor_mod (x / 2 ^ k) (y / 2 ^ k) 1)
    (digit-xor (x / 2 ^ k % 2) (y / 2 ^ k % 2) (omega arith) (omega arith))

-- ---- a row

pub length-bits_of : (n x : ℕ) → length (bits_of n x) ≡ n
unfolding bits_of
length-bits_of zero x = refl
length-bits_of (suc n) x = ap suc (length-bits_of n x)

-- the highest of them comes first
pub bits_of_first : (n x : ℕ) → 0 < n → bits_of n x ≡ bit_at x (n - 1) ∷ bits_of (n - 1) x
unfolding bits_of
bits_of_first zero x h = absurd (omega arith)
bits_of_first (suc n) x h =
    let less : suc n - 1 ≡ n = omega arith in
    rw less

-- the n lowest bits are those of the remainder by 2 ^ n, and so of any wider remainder
pub bits_of-mod_wide : (j n x : ℕ) → bits_of n (x % 2 ^ (j + n)) ≡ bits_of n x
unfolding bits_of
bits_of-mod_wide j zero x = refl
bits_of-mod_wide j (suc n) x =
    rw (add-suc j n, ← suc-add j n) (ap₂ ◌∷◌ (bit_at-mod x j n) (bits_of-mod_wide (suc j) n x))

pub bits_of-mod : (n x : ℕ) → bits_of n (x % 2 ^ n) ≡ bits_of n x
bits_of-mod n x = rw (zero-add n) at (bits_of-mod_wide 0 n x)

pub bits_of-add : (m n x : ℕ) → bits_of (m + n) x ≡ bits_of m (x / 2 ^ n) ++ bits_of n x
unfolding bits_of
bits_of-add zero n x = rw (zero-add n)
bits_of-add (suc m) n x = rw (suc-add m n) (ap₂ ◌∷◌ (sym (bit_at-shr x n m)) (bits_of-add m n x))

-- a number below 2 ^ n has a low bit in front of its n lowest
pub bits_of-suc : (n x : ℕ) → x < 2 ^ n → bits_of (suc n) x ≡ false ∷ bits_of n x
unfolding bits_of
bits_of-suc n x h = ap (λ b. b ∷ bits_of n x) (bit_at_past x n h)

-- a high part and n low bits
pub bits_of_join : (m n hi lo : ℕ) → lo < 2 ^ n → bits_of (m + n) (hi * 2 ^ n + lo) ≡ bits_of m hi ++ bits_of n lo
bits_of_join m n hi lo h =
    bits_of-add m n (hi * 2 ^ n + lo)
    ∙ ap₂ (λ x bs. bits_of m x ++ bs) (high hi n h) (sym (bits_of-mod n (hi * 2 ^ n + lo)) ∙ ap (bits_of n) (low hi n h))

pub bits_of-xor : (n x y : ℕ) → bits_of n (bit_xor x y) ≡ turned (bits_of n x) (bits_of n y)
unfolding bits_of turned
bits_of-xor zero x y = refl
bits_of-xor (suc n) x y = ap₂ ◌∷◌ (bit_at_xor x y n) (bits_of-xor n x y)
