-- Bit by bit the reader hears more of a line, until it is whole, or none goes on so, or the bits end.
use Rattle.std.proofs.Common.{arith}
use Rattle.reader.proofs.HearingLaws.{not-whole}
use Rattle.reader.proofs.ReadingLaws.{heard_to, heard_none, heard_more, line-found, broken_none, within_none}
use Rattle.reader.proofs.reading.read_behind_start.Goals as goal

pub loop-place-init : goal.loop-place-init
loop-place-init c = rw (heard_none c.args.bits.now) c.new-reader.ensures

pub returns-in_err-next : goal.returns-in_err-next
returns-in_err-next c =
    rw c.from_residual.ensures
    (broken_none c.args.bits.now c.loop-place.place (omega arith) c.is_high.result c.is_high.ensures
    (c.in_err-next.ensures (heard_to c.args.bits.now c.loop-place.place) c.loop-place.invariant))

pub returns-in-Line : goal.returns-in-Line
returns-in-Line c =
    line-found c.args.bits.now c.loop-place.place (omega arith) c.is_high.result c.in-Line.frame c.is_high.ensures
    (rw c.in-Line.is at (c.in_ok-next.ensures (heard_to c.args.bits.now c.loop-place.place) c.loop-place.invariant))

pub loop-place-preserved : goal.loop-place-preserved
loop-place-preserved c =
    rw (← heard_more c.args.bits.now c.loop-place.place (omega arith) c.is_high.result c.is_high.ensures)
    (rw c.in-Within.is at (c.in_ok-next.ensures (heard_to c.args.bits.now c.loop-place.place) c.loop-place.invariant))

pub returns : goal.returns
returns c =
    let r = c.loop-place.reader in
    within_none c.args.bits.now c.loop-place.place (omega arith) (not-whole c.loop-place.invariant r.counted.2)
