-- Nothing changes.
use Rattle.console.proofs.SessionLaws.{refused_same}
use Rattle.console.proofs.laws.refused_same.Goals as goal

pub returns : goal.returns
returns c = refused_same
