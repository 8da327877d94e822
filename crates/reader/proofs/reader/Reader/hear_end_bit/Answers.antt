-- The end is seven high bits: behind the seventh the line is whole, and no line goes on with a low one.
use Rattle.frame.specs.Contents.{frame_data}
use Rattle.reader.proofs.HearingLaws.{end-never, end-heard, end_line, whole_is}
use Rattle.reader.proofs.reader.Reader.hear_end_bit.Goals as goal

pub returns-then-not-bit : goal.returns-then-not-bit
returns-then-not-bit c u has =
    let r = c.args.self in
    rw c.if-not-bit.true (end-never has c.requires.0 (whole_is r.fields c.requires.1) r.counted.2)

pub returns-then-self-eq-END : goal.returns-then-self-eq-END
returns-then-self-eq-END c u has =
    let r = c.args.self in
    let f = c.frame.result in
    rw c.if-not-bit.false
    (end_line has c.requires.0 (whole_is r.fields c.requires.1) f.id (frame_data f) c.if-self-eq-END.true (c.frame.ensures has.begun))

pub returns : goal.returns
returns c u has = rw c.if-not-bit.false (end-heard has c.requires.0 (whole_is c.args.self.fields c.requires.1))
