-- The judgement is the definition of a good letter.
use Rattle.console.proofs.RefusalLaws.{good_or_refused}
use Rattle.console.proofs.laws.good_or_refused.Goals as goal

pub returns : goal.returns
returns c = good_or_refused
