-- Behind the start nothing is settled yet.
use Rattle.reader.proofs.HearingLaws.{hears_start}
use Rattle.reader.proofs.reader.Reader.new.Goals as goal

pub returns : goal.returns
returns c = rw (c.new-2.ensures.bit, c.new-2.ensures.count) (hears_start _ c.new.ensures)
