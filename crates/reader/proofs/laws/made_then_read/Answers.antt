-- EntryLaws has the proof.
use Rattle.reader.proofs.EntryLaws.{made_then_read}
use Rattle.reader.proofs.laws.made_then_read.Goals as goal

pub returns : goal.returns
returns c = made_then_read
