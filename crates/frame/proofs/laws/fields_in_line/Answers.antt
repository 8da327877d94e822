-- LineLaws has the proof.
use Rattle.frame.proofs.LineLaws.{fields_in_line}
use Rattle.frame.proofs.laws.fields_in_line.Goals as goal

pub returns : goal.returns
returns c = fields_in_line
