-- Lines are compared by their bits.
use Rattle.frame.proofs.AlikeLaws.{line_eq_decides}
use Rattle.frame.proofs.lines.is_same_line.Goals as goal

pub returns-clause-decided : goal.returns-clause-decided
returns-clause-decided c = rw c.eq.ensures (line_eq_decides c.args.a.now c.args.b.now)
