-- A bit of the fields goes on as the fields do, and counts with the like ones before it.
use Rattle.std.proofs.Common.{◌≡◌, subst, arith}
use Rattle.frame.proofs.StuffLaws.{not-due, run_least, run_most}
use Rattle.frame.specs.Stuffing.{run}
use Rattle.reader.proofs.HearingLaws.{field-never, field-heard, short_is, short_no_end}
use Rattle.reader.specs.Beginning.{Begins}
use Rattle.reader.proofs.reader.Reader.hear_field_bit.Goals as goal
use Rattle.reader.proofs.reader.Reader.hear_field_bit.Goals.{After-with}

pub returns-in_err-fields : goal.returns-in_err-fields
returns-in_err-fields c u has =
    let r = c.args.self in
    rw c.from_residual.ensures
    (field-never has c.requires.0 (short_no_end r c.requires.1) (short_is r.fields c.requires.1) c.args.bit (c.in_err-fields.ensures has.begun))

-- the like bits as they are counted, no more than five
counted : (c : After-with) → c.with.result.count ≡ run c.args.self.run.bit c.args.self.run.count c.args.bit
counted c = c.with.ensures.counted c.args.self.counted.1

pub invariant_of-result : goal.invariant_of-result
invariant_of-result c =
    let r = c.args.self.run in
    let few = not-due r.count c.requires.0 in
    record {
      counted = (
        omega (arith, counted c, run_least r.bit r.count c.args.bit),
        omega (arith, counted c, run_most r.bit r.count c.args.bit, few),
        omega arith,
      );
      ending = λ more. absurd (omega arith);
    }

pub returns : goal.returns
returns c u has =
    let r = c.args.self in
    let (same, begun) = c.in_ok-fields.ensures has.begun in
    rw (same, c.with.ensures.bit, counted (goal.at.returns c).After-with)
    (field-heard has c.requires.0 (short_no_end r c.requires.1) (short_is r.fields c.requires.1) c.args.bit (subst Begins same begun))
