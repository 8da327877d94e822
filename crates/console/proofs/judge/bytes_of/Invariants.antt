-- The numbers before i are bytes, and are the row's.
use Rattle.std.proofs.Common.{◌≡◌, take}
use Rattle.console.proofs.RefusalLaws.{GoodTo}
use Rattle.row.specs.Items.{items}
use Rattle.console.proofs.judge.bytes_of.Given as goal

abbrev pub invariant-loop-i : goal.invariant-loop-i
invariant-loop-i l = GoodTo l.numbers l.i-counter × (items l.bytes ≡ take l.i-counter l.numbers)
