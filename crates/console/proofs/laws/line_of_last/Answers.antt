-- SessionLaws has the proof.
use Rattle.console.proofs.SessionLaws.{line_of_last}
use Rattle.console.proofs.laws.line_of_last.Goals as goal

pub returns : goal.returns
returns c = line_of_last
