-- Any byte makes a line that is no blank one.
use Rattle.console.proofs.TypedLaws.{blank_is_empty}
use Rattle.console.proofs.laws.blank_is_empty.Goals as goal

pub returns : goal.returns
returns c = blank_is_empty
