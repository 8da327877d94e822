-- The reader has heard the bits before the place.
use Rattle.reader.proofs.ReadingLaws.{heard_to}
use Rattle.reader.specs.Hearing.{Has}
use Rattle.reader.proofs.reading.read_behind_start.Given as goal

abbrev pub invariant-loop-place : goal.invariant-loop-place
invariant-loop-place l = Has (heard_to l.bits l.place) l.reader
