-- Bits that the code finds like or unlike. Rests on the definitions alone.
use Rattle.std.proofs.Common.{◌≡◌, Bool, true, false, not, sym, refl}
use mathlib.Core.Bool.{beq}
use Rattle.std.proofs.lemmas.Bool.{both_ways}

pub like : (a b : Bool) → not (beq a b) ≡ false → a ≡ b
like true true e = refl
like true false e = e
like false true e = sym e
like false false e = refl

pub differs : (a b : Bool) → not (beq a b) ≡ true → a ≡ b → ⊥
differs true true e same = both_ways false refl e
differs true false e same = both_ways true same refl
differs false true e same = both_ways true (sym same) refl
differs false false e same = both_ways false refl e
