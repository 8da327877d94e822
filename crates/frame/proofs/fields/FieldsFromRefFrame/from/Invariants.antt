-- The number has the fields joined up to the bytes that were seen.
use Rattle.frame.proofs.FieldLaws.{Joined}
use Rattle.frame.proofs.fields.FieldsFromRefFrame.from.Given as goal

abbrev pub invariant-loop-byte : goal.invariant-loop-byte
invariant-loop-byte l = Joined l.frame.id l.data l.byte-index l.number
