-- Lines are compared by their bits.
use Rattle.frame.proofs.AlikeLaws.{line_eq_decides}
use Rattle.frame.proofs.lines.LinePartialEq.eq.Goals as goal

pub returns-clause-decided : goal.returns-clause-decided
returns-clause-decided c = rw c.eq.ensures (line_eq_decides c.args.self.now c.args.other.now)
