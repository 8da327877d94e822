-- Each turn fills one place more, in front, with the lowest bit of the rest.
use Rattle.std.proofs.Common.{◌≡◌, ℕ, suc, ◌+◌, ◌-◌, ◌/◌, ◌%◌, ◌^◌, ◌<◌, Bool, eqb, List, ◌∷◌, length, drop, set, sym, ap, ◌∙◌, div-one, arith, shr-shr}
use native.Mathlib.Nat.{sub-zero}
use native.Mathlib.Numerals.{suc-eq-add-one}
use Rattle.std.proofs.lemmas.List.{drop_all, drop-set}
use Rattle.bits.specs.Bits.{bit_at, bits_of}
use Rattle.bits.proofs.numbers.write_bits.Goals as goal

-- the bit at i, in front of the n lowest behind it
filled : (out : List Bool) (i n x rest : ℕ) → i < length out → drop (i + 1) out ≡ bits_of n x → rest ≡ x / 2 ^ n
    → drop i (set out i (eqb (rest % 2) 1)) ≡ bits_of (suc n) x
unfolding bits_of bit_at
filled out i n x rest h behind e = rw e (drop-set out i (bit_at x n) h ∙ ap (λ bs. bit_at x n ∷ bs) behind)

halved : (n x rest : ℕ) → rest ≡ x / 2 ^ n → rest / 2 ≡ x / 2 ^ suc n
halved n x rest e = rw (e, suc-eq-add-one n) (shr-shr x n 1)

pub loop-i-init : goal.loop-i-init
unfolding bits_of
loop-i-init c =
    let out = c.args.out.now in
    let none : length out - length out ≡ 0 = omega arith in
    rw none (drop_all (length out) out (omega arith), sym (div-one c.args.x))

pub loop-i-preserved : goal.loop-i-preserved
loop-i-preserved c =
    let i = c.loop-i.i in
    let n = length c.args.out.now in
    let at : i - 1 + 1 ≡ i = omega arith in
    let more : n - (i - 1) ≡ suc (n - i) = omega arith in
    let behind : drop (i - 1 + 1) c.loop-i.out ≡ bits_of (n - i) c.args.x = rw at c.loop-i.invariant.0 in
    rw more (filled c.loop-i.out (i - 1) _ _ _ (omega arith) behind c.loop-i.invariant.1, halved _ _ _ c.loop-i.invariant.1)

pub returns : goal.returns
returns c = let first : c.loop-i.i ≡ 0 = omega arith in rw (first, sub-zero) at c.loop-i.invariant.0
