-- ReadingLaws has the proof.
use Rattle.reader.proofs.ReadingLaws.{found_stands}
use Rattle.reader.proofs.laws.found_stands.Goals as goal

pub returns : goal.returns
returns c = found_stands
