-- What the row keeps, and noughts for all that are only counted.
use Rattle.console.proofs.HeldLaws.{each_holds}
use Rattle.console.proofs.laws.each_holds.Goals as goal

pub returns : goal.returns
returns c = each_holds
