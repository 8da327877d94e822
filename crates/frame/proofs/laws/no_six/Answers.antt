-- LineLaws has the proof.
use Rattle.frame.proofs.LineLaws.{no_six}
use Rattle.frame.proofs.laws.no_six.Goals as goal

pub returns : goal.returns
returns c = no_six
