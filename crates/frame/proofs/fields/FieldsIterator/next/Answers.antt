-- The highest bit comes first, and the others are left; where none is left, nothing comes.
use Rattle.std.proofs.Common.{◌≡◌, ◌-◌, [], ◌∷◌, sym, ap, ◌∙◌, ap₂, arith}
use Rattle.bits.proofs.BitLaws.{bits_of_first, length-bits_of}
use Rattle.bits.specs.Bits.{bit_at, bits_of}
use Rattle.frame.proofs.fields.FieldsIterator.next.Goals as goal

pub returns-in_err-self-clause-steps : goal.returns-in_err-self-clause-steps
unfolding bits_of
returns-in_err-self-clause-steps c =
    let f = c.args.self.now in
    let none : f.width ≡ 0 = omega (arith, c.in_err-self.ensures) in
    let empty : bits_of f.width f.number ≡ [] = ap (λ n. bits_of n f.number) none in
    rw c.from_residual.ensures (empty, empty)

pub returns-clause-steps : goal.returns-clause-steps
returns-clause-steps c =
    let f = c.args.self.now in
    let less : f.width - 1 ≡ c.in_ok-self.field-0 = omega (arith, c.in_ok-self.ensures) in
    bits_of_first f.width f.number (omega (arith, c.in_ok-self.ensures)) ∙ ap₂ (λ b k. b ∷ bits_of k f.number) (ap (λ k. bit_at f.number k) less ∙ sym c.bit_at.ensures) less

pub returns-clause-goes : goal.returns-clause-goes
returns-clause-goes c =
    let f = c.args.self.now in
    record {
      on = λ _. (tt, tt, omega (arith, c.in_ok-self.ensures, length-bits_of f.width f.number, length-bits_of c.in_ok-self.field-0 f.number));
      keeps = tt;
      rests = λ _. tt;
    }
