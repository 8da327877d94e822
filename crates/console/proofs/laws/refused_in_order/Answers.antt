-- The order of the refusals, and their places.
use Rattle.console.proofs.RefusalLaws.{refused_in_order}
use Rattle.console.proofs.laws.refused_in_order.Goals as goal

pub returns : goal.returns
returns c = refused_in_order
