-- ReadingLaws has the proof.
use Rattle.reader.proofs.ReadingLaws.{one_reading}
use Rattle.reader.proofs.laws.one_reading.Goals as goal

pub returns : goal.returns
returns c = one_reading
