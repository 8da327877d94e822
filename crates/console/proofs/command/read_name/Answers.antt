-- What is left without the colon is what stands before it.
use Rattle.std.proofs.Common.{[], ◌∷◌, sym, ap, ◌∙◌}
use Rattle.std.proofs.lemmas.Slice.Eq.{strip_suffix_is}
use Rattle.std.specs.Option.{option_and_then, option_map}
use Rattle.console.proofs.ReadingLaws.{before_colon_push, before_colon_none}
use Rattle.console.specs.Numeral.{capped, number_in}
use Rattle.console.specs.Reading.{before_colon}
use Rattle.console.proofs.command.read_name.Goals as goal
use Rattle.std.proofs.lemmas.Bool.Decides.{Decides-eqb}

pub returns-in_err-strip_suffix : goal.returns-in_err-strip_suffix
returns-in_err-strip_suffix c =
    let none = rw c.in_err-strip_suffix.was at (strip_suffix_is Decides-eqb c.args.word.now (58 ∷ []) c.strip_suffix.result c.strip_suffix.ensures.cases) in
    c.from_residual.ensures ∙ sym (ap (λ o. option_map capped (option_and_then number_in o)) (before_colon_none _ none))

pub returns : goal.returns
returns c =
    let front = rw c.in_ok-strip_suffix.was at (strip_suffix_is Decides-eqb c.args.word.now (58 ∷ []) c.strip_suffix.result c.strip_suffix.ensures.cases) in
    c.read_number.ensures ∙ sym (ap (λ o. option_map capped (option_and_then number_in o)) (ap before_colon front ∙ before_colon_push _))
