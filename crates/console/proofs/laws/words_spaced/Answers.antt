-- Words without spaces are cut apart again.
use Rattle.console.proofs.TypedLaws.{words-spaced}
use Rattle.console.proofs.laws.words_spaced.Goals as goal

pub returns : goal.returns
returns c = words-spaced
