-- What is found is the letter whose line stands there, and it is handed over.
use Rattle.reader.proofs.EntryLaws.{accepted_says}
use Rattle.reader.specs.Seen.{seen}
use Rattle.reader.proofs.entries.read_line.Goals as goal

pub returns : goal.returns
returns c =
    accepted_says c.args.bits.now c.args.room.now (seen c.of.result) _ _ c.in_default.ensures c.of.ensures c.hand_over.ensures.answer c.hand_over.ensures.room
