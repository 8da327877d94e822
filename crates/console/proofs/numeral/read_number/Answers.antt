-- A digit more makes the number ten times as large and adds the digit; another byte makes it no number.
use Rattle.std.proofs.Common.{sym, ap, arith, true-eqb, false-eqb}
use Rattle.std.specs.Option.{option_map}
use Rattle.console.proofs.NumeralLaws.{number_in_none, reads_none, reads_more, reads_other, reads_end}
use Rattle.console.specs.Numeral.{capped}
use Rattle.console.proofs.numeral.read_number.Goals as goal

pub returns-then-is_empty : goal.returns-then-is_empty
returns-then-is_empty c = sym (ap (option_map capped) (number_in_none _ (true-eqb _ 0 c.if-is_empty.ensures)))

pub loop-b-init : goal.loop-b-init
loop-b-init c = reads_none _ (false-eqb _ 0 c.if-is_empty.ensures)

pub returns-then-not-is_ascii_digit : goal.returns-then-not-is_ascii_digit
returns-then-not-is_ascii_digit c = reads_other _ _ _ c.loop-b.invariant (omega arith) (sym c.if-not-is_ascii_digit.ensures.value)

pub loop-b-preserved : goal.loop-b-preserved
loop-b-preserved c =
    reads_more _ _ _ c.loop-b.invariant _ (omega arith) (sym c.if-not-is_ascii_digit.ensures.value)
    (omega (arith, c.saturating_add-number.ensures, c.saturating_mul.ensures, c.from.ensures))

pub returns : goal.returns
returns c = reads_end _ _ _ c.loop-b.invariant (omega arith)
