-- ReadingLaws has the proof.
use Rattle.reader.proofs.ReadingLaws.{no_line-begins_another}
use Rattle.reader.proofs.laws.no_line_begins_another.Goals as goal

pub returns : goal.returns
returns c = no_line-begins_another
