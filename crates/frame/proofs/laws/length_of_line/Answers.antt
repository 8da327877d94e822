-- LineLaws has the proof.
use Rattle.frame.proofs.LineLaws.{length_of_line}
use Rattle.frame.proofs.laws.length_of_line.Goals as goal

pub returns : goal.returns
returns c = length_of_line
