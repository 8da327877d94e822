-- The digits of the bits that were seen are written.
use Rattle.std.proofs.Common.{take}
use Rattle.std.specs.Fmt.{IsPlainFormatter, HasWritten}
use Rattle.frame.specs.Digits.{digits}
use Rattle.frame.proofs.shown.LineDisplay.fmt.Given as goal

abbrev pub invariant-loop-high : goal.invariant-loop-high
invariant-loop-high g l = IsPlainFormatter l.initial.f → HasWritten g.W.Write.write_str_gives l.initial.f (digits (take l.high-index l.high-items)) l.f
