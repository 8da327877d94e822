-- What holds of the check. It is linear (`crc_from-xor`), bits equal to its own highest bits only move it (`crc_from_own_bits`),
-- and from these two a step over n bits at once, as over a byte, follows (`crc_from_bits`).
-- Rests on BitLaws and on the laws of `bit_xor` of lib.Bits. Assumes nothing else.
use Rattle.std.proofs.Common.{◌≡◌, ℕ, zero, suc, ◌+◌, ◌*◌, ◌/◌, ◌%◌, ◌^◌, ◌<◌, Bool, true, false, cond, List, [], ◌∷◌, ◌++◌, length, get_or, drop, sym, refl, ap, ◌∙◌, ap₂, mod-lt, mod-eq_of_lt, mul_assoc, mul-one, div-one, mul_left_comm, arith, lit<, pow_pos}
use mathlib.Core.Bool.{not-not}
use native.Mathlib.Nat.{mul-mod_left, mul-div-mul_left, pow-succ'}
use lib.Bits.{bit_xor, xor_zero_r, xor_self, xor_comm, xor_assoc, xor_lt, xor_mod, xor_block}
use Rattle.std.proofs.lemmas.List.{at_drop_more}
use Rattle.bits.proofs.BitLaws.{bit_at-shr, bit_at-mod, bit_at_xor, length-bits_of, bits_of-xor}
use Rattle.bits.specs.Bits.{bit_at, bits_of, bytes_bits, differ, turned}
use Rattle.bits.specs.Crc.{polynomial, doubled, crc_step, crc_from, crc, byte_step, crc_bytes}

-- ---- a row behind another, and the width of the check

pub crc_from-++ : (c : ℕ) (us vs : List Bool) → crc_from c (us ++ vs) ≡ crc_from (crc_from c us) vs
unfolding crc_from
crc_from-++ c [] vs = refl
crc_from-++ c (u ∷ us) vs = crc_from-++ (crc_step c u) us vs

-- the check 0 stays 0 after a low bit
pub crc_low_front : (bs : List Bool) → crc (false ∷ bs) ≡ crc bs
unfolding crc_from crc_step doubled differ bit_at
crc_low_front bs = refl

cond_lt : (t : Bool) (x y n : ℕ) → x < n → y < n → cond t x y < n
cond_lt true x y n hx hy = hx
cond_lt false x y n hx hy = hy

pub doubled_lt : (c : ℕ) → doubled c < 2 ^ 15
unfolding doubled
doubled_lt c = mod-lt (2 * c) (pow_pos 15)

pub crc_step_lt : (c : ℕ) (b : Bool) → crc_step c b < 2 ^ 15
unfolding crc_step
crc_step_lt c b =
    cond_lt (differ b (bit_at c 14)) _ _ (2 ^ 15) (xor_lt 15 (doubled c) polynomial (doubled_lt c) (lit< tt)) (doubled_lt c)

pub crc_from_lt : (c : ℕ) (bs : List Bool) → c < 2 ^ 15 → crc_from c bs < 2 ^ 15
unfolding crc_from
crc_from_lt c [] h = h
crc_from_lt c (b ∷ bs) h = crc_from_lt (crc_step c b) bs (crc_step_lt c b)

-- ---- the check is linear

xor_swap : (a b c d : ℕ) → bit_xor (bit_xor a b) (bit_xor c d) ≡ bit_xor (bit_xor a c) (bit_xor b d)
xor_swap a b c d =
    xor_assoc a b (bit_xor c d)
    ∙ ap (bit_xor a) (sym (xor_assoc b c d) ∙ ap (λ x. bit_xor x d) (xor_comm b c) ∙ xor_assoc c b d)
    ∙ sym (xor_assoc a c (bit_xor b d))

differ_swap : (a b c d : Bool) → differ (differ a b) (differ c d) ≡ differ (differ a c) (differ b d)
unfolding differ
differ_swap false false c d = refl
differ_swap false true false d = refl
differ_swap false true true d = refl
differ_swap true false false d = refl
differ_swap true false true d = not-not d
differ_swap true true false d = sym (not-not d)
differ_swap true true true d = refl

doubled-xor : (a b : ℕ) → doubled (bit_xor a b) ≡ bit_xor (doubled a) (doubled b)
unfolding doubled
doubled-xor a b = ap (λ x. x % 2 ^ 15) twice ∙ xor_mod (2 * a) (2 * b) 15
  where
    two : (x : ℕ) → 2 * x ≡ x * 2 + 0
    two x = omega arith

    twice : 2 * bit_xor a b ≡ bit_xor (2 * a) (2 * b)
    twice = rw (two a, two b, two (bit_xor a b)) (sym (xor_block 1 a b 0 0 (lit< tt) (lit< tt)))

-- A step as a sum: of the doubled check, and of the polynomial or nothing. What is linear in a sum's parts is so in the sum.
cond-xor : (t : Bool) (c p : ℕ) → cond t (bit_xor c p) c ≡ bit_xor c (cond t p 0)
cond-xor true c p = refl
cond-xor false c p = sym (xor_zero_r c)

cond-differ : (s t : Bool) (p : ℕ) → cond (differ s t) p 0 ≡ bit_xor (cond s p 0) (cond t p 0)
unfolding differ
cond-differ true true p = sym (xor_self p)
cond-differ true false p = sym (xor_zero_r p)
cond-differ false t p = refl

crc_step_is : (c : ℕ) (b : Bool) → crc_step c b ≡ bit_xor (doubled c) (cond (differ b (bit_at c 14)) polynomial 0)
unfolding crc_step
crc_step_is c b = cond-xor (differ b (bit_at c 14)) (doubled c) polynomial

pub crc_step-xor : (a b : ℕ) (s t : Bool) → crc_step (bit_xor a b) (differ s t) ≡ bit_xor (crc_step a s) (crc_step b t)
crc_step-xor a b s t =
    rw (crc_step_is (bit_xor a b) (differ s t), crc_step_is a s, crc_step_is b t, doubled-xor a b, bit_at_xor a b 14)
    (rw (differ_swap s t (bit_at a 14) (bit_at b 14), cond-differ (differ s (bit_at a 14)) (differ t (bit_at b 14)))
    (xor_swap (doubled a) (doubled b) _ _))

pub crc_from-xor : (a b : ℕ) (us vs : List Bool) → length us ≡ length vs
    → crc_from (bit_xor a b) (turned us vs) ≡ bit_xor (crc_from a us) (crc_from b vs)
unfolding crc_from turned
crc_from-xor a b [] [] e = refl
crc_from-xor a b [] (v ∷ vs) e = absurd (omega arith)
crc_from-xor a b (u ∷ us) [] e = absurd (omega arith)
crc_from-xor a b (u ∷ us) (v ∷ vs) e =
    ap (λ x. crc_from x (turned us vs)) (crc_step-xor a b u v) ∙ crc_from-xor (crc_step a u) (crc_step b v) us vs (omega arith)

-- ---- bits equal to the check's own highest bits

crc_step_own_bit : (c : ℕ) → crc_step c (bit_at c 14) ≡ doubled c
unfolding crc_step differ
crc_step_own_bit c = same (bit_at c 14)
  where
    same : (b : Bool) → cond (differ b b) (bit_xor (doubled c) polynomial) (doubled c) ≡ doubled c
    same true = refl
    same false = refl

-- They only move the check: the polynomial is never added, so it is doubled n times.
pub crc_from_own_bits : (m n c : ℕ) → m + n ≡ 15 → crc_from (c % 2 ^ 15) (bits_of n (c / 2 ^ m)) ≡ c * 2 ^ n % 2 ^ 15
unfolding crc_from bits_of doubled
crc_from_own_bits m zero c e = ap (λ x. x % 2 ^ 15) (sym (mul-one c))
crc_from_own_bits m (suc n) c e =
    ap₂ crc_from step row ∙ crc_from_own_bits (suc m) n (2 * c) (omega arith) ∙ ap (λ x. x % 2 ^ 15) moved
  where
    like : bit_at (c / 2 ^ m) n ≡ bit_at (c % 2 ^ 15) 14
    like = let at : n + m ≡ 14 = omega arith in bit_at-shr c m n ∙ ap (bit_at c) at ∙ sym (bit_at-mod c 0 14)

    step : crc_step (c % 2 ^ 15) (bit_at (c / 2 ^ m) n) ≡ 2 * c % 2 ^ 15
    step = ap (crc_step (c % 2 ^ 15)) like ∙ crc_step_own_bit (c % 2 ^ 15) ∙ omega arith

    row : bits_of n (c / 2 ^ m) ≡ bits_of n (2 * c / 2 ^ suc m)
    row = rw (pow-succ' 2 m, mul-div-mul_left c (2 ^ m) (lit< tt))

    moved : 2 * c * 2 ^ n ≡ c * 2 ^ suc n
    moved = rw (pow-succ' 2 n) (omega (arith, mul_assoc 2 c (2 ^ n), mul_left_comm c 2 (2 ^ n)))

pub crc_own_check : (bs : List Bool) → crc (bs ++ bits_of 15 (crc bs)) ≡ 0
crc_own_check bs =
    crc_from-++ 0 bs (bits_of 15 c) ∙ ap₂ (λ x y. crc_from x (bits_of 15 y)) (sym (mod-eq_of_lt narrow)) (sym (div-one c))
    ∙ crc_from_own_bits 0 15 c refl ∙ mul-mod_left c (2 ^ 15)
  where
    c : ℕ
    c = crc bs

    narrow : c < 2 ^ 15
    narrow = crc_from_lt 0 bs (lit< tt)

-- ---- many bits at once

xor_back : (x y : ℕ) → bit_xor x (bit_xor x y) ≡ y
xor_back x y = sym (xor_assoc x x y) ∙ ap (λ z. bit_xor z y) (xor_self x)

-- The bits of x are the check's own highest bits, turned where they are unlike. So by linearity the check is what its own
-- bits make of it, and besides the check of what is turned.
pub crc_from_bits : (m n c x : ℕ) → m + n ≡ 15 → c < 2 ^ 15
    → crc_from c (bits_of n x) ≡ bit_xor (c * 2 ^ n % 2 ^ 15) (crc (bits_of n (bit_xor (c / 2 ^ m) x)))
crc_from_bits m n c x e h =
    ap₂ crc_from (sym (xor_zero_r c)) (ap (bits_of n) (sym (xor_back own x)) ∙ bits_of-xor n own (bit_xor own x))
    ∙ crc_from-xor c 0 (bits_of n own) (bits_of n (bit_xor own x)) (length-bits_of n own ∙ sym (length-bits_of n (bit_xor own x)))
    ∙ ap (λ y. bit_xor y (crc (bits_of n (bit_xor own x))))
    (ap (λ y. crc_from y (bits_of n own)) (sym (mod-eq_of_lt h)) ∙ crc_from_own_bits m n c e)
  where
    own : ℕ
    own = c / 2 ^ m

pub crc_from_byte : (c x : ℕ) → c < 2 ^ 15 → crc_from c (bits_of 8 x) ≡ byte_step c x
unfolding byte_step
crc_from_byte c x h = crc_from_bits 7 8 c x refl h

pub crc_bytes_is : (c : ℕ) (xs : List ℕ) → c < 2 ^ 15 → crc_bytes c xs ≡ crc_from c (bytes_bits xs)
unfolding crc_bytes crc_from bytes_bits
crc_bytes_is c [] h = refl
crc_bytes_is c (x ∷ xs) h =
    ap (λ y. crc_bytes y xs) (sym (crc_from_byte c x h)) ∙ crc_bytes_is (crc_from c (bits_of 8 x)) xs (crc_from_lt c (bits_of 8 x) h)
    ∙ sym (crc_from-++ c (bits_of 8 x) (bytes_bits xs))

-- a loop's step, past the byte at i
pub crc_from_bytes_more : (c : ℕ) (xs : List ℕ) (i : ℕ) → i < length xs
    → crc_from c (bytes_bits (drop i xs)) ≡ crc_from (crc_from c (bits_of 8 (get_or xs i 0))) (bytes_bits (drop (i + 1) xs))
unfolding bytes_bits
crc_from_bytes_more c xs i h =
    at_drop_more (λ ys. crc_from c (bytes_bits ys)) xs i 0 h ∙ crc_from-++ c (bits_of 8 (get_or xs i 0)) (bytes_bits (drop (i + 1) xs))
