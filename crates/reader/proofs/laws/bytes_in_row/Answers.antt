-- RowLaws has the proof.
use Rattle.reader.proofs.RowLaws.{bytes_in-row}
use Rattle.reader.proofs.laws.bytes_in_row.Goals as goal

pub returns : goal.returns
returns c = bytes_in-row
