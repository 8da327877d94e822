-- The identifier was tested, the row has the bytes, and each of these is one.
use Rattle.std.proofs.Common.{◌≡◌, ◌≤◌, length, ap, ◌∙◌, arith, rules}
use Rattle.frame.specs.Good.{all_bytes}
use Rattle.frame.proofs.GoodLaws.{all_bytes_from}
use Rattle.row.specs.Items.{items}
use Rattle.frame.proofs.frame.Frame.new.Goals as goal

pub invariant_of-frame : goal.invariant_of-frame
invariant_of-frame c =
    let same : items c.extend_from_slice.new.self ≡ c.args.bytes.now = search rules in
    let few : length c.args.bytes.now ≤ 8 = search rules in
    record {
      good = (omega arith, omega (arith, ap length same));
      narrow = ap all_bytes same ∙ all_bytes_from c.args.bytes.now (λ i h. omega (arith, c.type_inv.bytes i));
    }
