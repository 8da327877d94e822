-- The number is what the digits so far write.
use Rattle.console.proofs.NumeralLaws.{ReadsTo}
use Rattle.console.proofs.numeral.read_number.Given as goal

abbrev pub invariant-loop-b : goal.invariant-loop-b
invariant-loop-b l = ReadsTo l.word l.b-index l.number
