-- One number more stands in front, and one place fewer is as it was.
use Rattle.std.proofs.Common.{set, ◌∙◌, ap₂, arith}
use Rattle.bits.proofs.BitLaws.{bool_byte-is}
use Rattle.frame.proofs.EntryLaws.{front_more}
use Rattle.frame.proofs.entries.write_front.Goals as goal

pub loop-place-preserved : goal.loop-place-preserved
loop-place-preserved c =
    ap₂ (λ r x. set r c.loop-place.place x) c.loop-place.invariant (c.from.ensures ∙ bool_byte-is _)
    ∙ front_more c.args.line.now c.args.room.now c.loop-place.place c.loop-place-test.true (omega (arith, c.requires))
