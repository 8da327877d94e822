-- The letter's ten numbers are a part of the row, and the bytes a part of these.
use Rattle.reader.proofs.RowLaws.{part_is}
use Rattle.reader.proofs.rows.part_of.Goals as goal

pub returns : goal.returns
returns c =
    part_is c.args.row.now c.in_ok-letter.letter.now c.args.i c.in_ok-letter.ensures.0 c.in_ok-letter.ensures.1 c.get.result
    (rw c.from.ensures at c.get.ensures.lookup)
