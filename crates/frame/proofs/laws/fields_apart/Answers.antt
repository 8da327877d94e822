-- FieldLaws has the proof.
use Rattle.frame.proofs.FieldLaws.{fields_apart}
use Rattle.frame.proofs.laws.fields_apart.Goals as goal

pub returns : goal.returns
returns c = fields_apart
