-- Where a stuff bit is due, it is one of the other kind, and no line goes on with a like one.
use Rattle.std.proofs.Common.{◌≡◌, not, sym, ◌∙◌}
use Rattle.reader.proofs.HearingLaws.{due_no_end, stuff-never, stuff-heard}
use Rattle.reader.proofs.TestLaws.{differs, like}
use Rattle.reader.proofs.reader.Reader.hear_stuff_bit.Goals as goal

pub returns-then-bit-stuff_bit : goal.returns-then-bit-stuff_bit
returns-then-bit-stuff_bit c u has =
    stuff-never has c.requires (due_no_end c.args.self c.requires) c.args.bit
    (λ is. differs c.args.bit c.stuff_bit.result c.if-bit-stuff_bit.true (is ∙ sym c.stuff_bit.ensures))

pub returns : goal.returns
returns c u has =
    let other : c.args.bit ≡ not c.args.self.run.bit = like c.args.bit c.stuff_bit.result c.if-bit-stuff_bit.false ∙ c.stuff_bit.ensures in
    rw (c.new.ensures.bit, c.new.ensures.count) (stuff-heard has c.requires (due_no_end c.args.self c.requires) c.args.bit other)
