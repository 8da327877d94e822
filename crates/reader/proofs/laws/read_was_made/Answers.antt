-- ReadingLaws has the proof.
use Rattle.reader.proofs.ReadingLaws.{read_was_made}
use Rattle.reader.proofs.laws.read_was_made.Goals as goal

pub returns : goal.returns
returns c = read_was_made
