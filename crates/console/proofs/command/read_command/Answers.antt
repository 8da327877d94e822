-- A line without bytes is blank, and any other is read by what stands in front.
use Rattle.std.proofs.Common.{length, codes, refl, ap, ◌∙◌, true-eqb, false-eqb}
use Rattle.std.proofs.lemmas.Bool.{both_ways}
use Rattle.std.proofs.lemmas.Bool.Decides.{Decides-eqb}
use Rattle.std.proofs.lemmas.Slice.Eq.{slice_eq-Decides, strip_prefix_is}
use Rattle.console.proofs.ReadingLaws.{reading_none}
use Rattle.console.proofs.TypedLaws.{reading_letter, reading_line, reading_other}
use Rattle.console.specs.Commands.{capped_reading}
use Rattle.console.specs.Reading.{reading}
use Rattle.console.proofs.command.read_command.Goals as goal

pub returns-then-is_empty : goal.returns-then-is_empty
returns-then-is_empty c = rw (reading_none _ (true-eqb _ 0 c.if-is_empty.ensures)) refl

pub returns-then-eq : goal.returns-then-eq
returns-then-eq c =
    let is = (slice_eq-Decides Decides-eqb c.args.text.now (codes "line") _ c.eq.ensures).0 c.if-eq.true in
    ap (λ t. capped_reading (reading t)) is ∙ ap capped_reading reading_line

pub returns-in_err-strip_prefix : goal.returns-in_err-strip_prefix
returns-in_err-strip_prefix c =
    let text = c.args.text.now in
    let not_letter = rw c.in_err-strip_prefix.was at (strip_prefix_is Decides-eqb text (codes "letter ") c.strip_prefix.result c.strip_prefix.ensures.cases) in
    let other =
    reading_other text (λ none. false-eqb _ 0 c.if-is_empty.ensures (ap length none))
    (λ is. both_ways _ c.if-eq.false ((slice_eq-Decides Decides-eqb text (codes "line") _ c.eq.ensures).1 is)) not_letter in
    rw (c.from_residual.ensures, other) refl

pub returns-in_err-letter : goal.returns-in_err-letter
returns-in_err-letter c =
    let front = rw c.in_ok-strip_prefix.was at (strip_prefix_is Decides-eqb c.args.text.now (codes "letter ") c.strip_prefix.result c.strip_prefix.ensures.cases) in
    rw (c.from_residual-in_err-letter.ensures, reading_letter _ _ front) c.in_err-letter.ensures

pub returns : goal.returns
returns c =
    let front = rw c.in_ok-strip_prefix.was at (strip_prefix_is Decides-eqb c.args.text.now (codes "letter ") c.strip_prefix.result c.strip_prefix.ensures.cases) in
    rw (reading_letter _ _ front) c.in_ok-letter.ensures
