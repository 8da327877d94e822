-- Where there is no bit, or no start, no line stands; else what stands behind the start decides.
use Rattle.std.proofs.Common.{◌∙◌}
use Rattle.frame.specs.Line.{start}
use Rattle.reader.proofs.ReadingLaws.{no_bits, no_start}
use Rattle.reader.proofs.TestLaws.{differs}
use Rattle.reader.proofs.reading.Reading.of.Goals as goal

pub returns-in_err-first : goal.returns-in_err-first
returns-in_err-first c = rw c.from_residual.ensures (no_bits c.args.bits.now c.in_err-first.ensures.cases)

pub returns-then-is_high-ne-START : goal.returns-then-is_high-ne-START
returns-then-is_high-ne-START c =
    rw c.in_ok-first.ensures.cases.0 (no_start _ _ (λ is. differs c.is_high.result start c.if-is_high-ne-START.true (c.is_high.ensures ∙ is)))
