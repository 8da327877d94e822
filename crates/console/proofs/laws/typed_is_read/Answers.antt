-- What is typed is read.
use Rattle.console.proofs.TypedLaws.{typed_is_read}
use Rattle.console.proofs.laws.typed_is_read.Goals as goal

pub returns : goal.returns
returns c = typed_is_read
