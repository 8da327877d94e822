-- TypedLaws has the proof.
use Rattle.console.proofs.TypedLaws.{line_was_typed}
use Rattle.console.proofs.laws.line_was_typed.Goals as goal

pub returns : goal.returns
returns c = line_was_typed
