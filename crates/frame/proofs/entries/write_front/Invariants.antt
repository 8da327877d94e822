-- The bits that were seen are in front, and behind them the room is as it was.
use Rattle.std.proofs.Common.{◌≡◌, ◌++◌, map, take, drop}
use Rattle.bits.specs.Bits.{bit}
use Rattle.frame.proofs.entries.write_front.Given as goal

abbrev pub invariant-loop-place : goal.invariant-loop-place
invariant-loop-place l = l.room ≡ map bit (take l.place l.line) ++ drop l.place l.initial.room
