-- LineLaws has the proof.
use Rattle.frame.proofs.LineLaws.{five_in_line}
use Rattle.frame.proofs.laws.five_then_other.Goals as goal

pub returns : goal.returns
returns c = five_in_line
