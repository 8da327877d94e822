-- LineLaws has the proof.
use Rattle.frame.proofs.LineLaws.{longest_line}
use Rattle.frame.proofs.laws.longest_line.Goals as goal

pub returns : goal.returns
returns c = longest_line
