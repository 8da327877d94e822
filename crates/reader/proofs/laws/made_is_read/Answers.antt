-- ReadingLaws has the proof.
use Rattle.reader.proofs.ReadingLaws.{made_is_read}
use Rattle.reader.proofs.laws.made_is_read.Goals as goal

pub returns : goal.returns
returns c = made_is_read
