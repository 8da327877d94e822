-- The numbers so far are those that the words so far are, behind the name.
use Rattle.std.proofs.Common.{length, drop}
use Rattle.console.proofs.ReadingLaws.{Found}
use Rattle.console.specs.Words.{words}
use Rattle.console.proofs.command.read_letter.Given as goal

abbrev pub invariant-loop-word : goal.invariant-loop-word
invariant-loop-word l = Found (drop 1 (words l.text)) l.bytes (length l.yielded)
