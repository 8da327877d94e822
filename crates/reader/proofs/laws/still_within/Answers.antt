-- HearingLaws has the proof.
use Rattle.reader.proofs.HearingLaws.{still_within}
use Rattle.reader.proofs.laws.still_within.Goals as goal

pub returns : goal.returns
returns c = still_within
