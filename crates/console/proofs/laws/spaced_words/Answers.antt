-- Cutting loses nothing.
use Rattle.console.proofs.TypedLaws.{spaced-words}
use Rattle.console.proofs.laws.spaced_words.Goals as goal

pub returns : goal.returns
returns c = spaced-words
