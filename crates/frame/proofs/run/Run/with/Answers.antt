-- A like bit counts one more, and any other begins anew.
use Rattle.std.proofs.Common.{arith}
use Rattle.bits.proofs.BitLaws.{differ_is}
use Rattle.frame.specs.Stuffing.{run}
use Rattle.frame.proofs.run.Run.with.Goals as goal

pub returns-then-self-bit-clause-counted : goal.returns-then-self-bit-clause-counted
unfolding run
returns-then-self-bit-clause-counted c = λ few. rw (differ_is c.args.self.bit c.args.bit, c.if-self-bit.true) (omega arith)

pub returns-then-self-bit-clause-capped : goal.returns-then-self-bit-clause-capped
unfolding run
returns-then-self-bit-clause-capped c = rw (differ_is c.args.self.bit c.args.bit, c.if-self-bit.true) (omega arith)

pub returns-else-self-bit-clause-counted : goal.returns-else-self-bit-clause-counted
unfolding run
returns-else-self-bit-clause-counted c = λ few. rw (differ_is c.args.self.bit c.args.bit, c.if-self-bit.false) c.new.ensures.count

pub returns-else-self-bit-clause-capped : goal.returns-else-self-bit-clause-capped
unfolding run
returns-else-self-bit-clause-capped c = rw (differ_is c.args.self.bit c.args.bit, c.if-self-bit.false) c.new.ensures.count
