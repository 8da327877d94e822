-- LineLaws has the proof.
use Rattle.frame.proofs.LineLaws.{unstuffed}
use Rattle.frame.proofs.laws.unstuffed.Goals as goal

pub returns : goal.returns
returns c = unstuffed
