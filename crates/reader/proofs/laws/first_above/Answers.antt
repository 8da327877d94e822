-- PlaceLaws has the proof.
use Rattle.reader.proofs.PlaceLaws.{first_is_first}
use Rattle.reader.proofs.laws.first_above.Goals as goal

pub returns : goal.returns
returns c = first_is_first
