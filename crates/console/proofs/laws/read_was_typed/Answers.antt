-- What is read was typed.
use Rattle.console.proofs.TypedLaws.{read_was_typed}
use Rattle.console.proofs.laws.read_was_typed.Goals as goal

pub returns : goal.returns
returns c = read_was_typed
