-- What becomes of each sort of line.
use Rattle.std.proofs.Common.{◌≡◌, Some, None, arith}
use Rattle.console.proofs.SessionLaws.{after_blank, after_line, after_unreadable}
use Rattle.console.specs.declared.command.Command.TheVariants.{Blank, Letter, Line}
use Rattle.console.proofs.session.Session.answer.Goals as goal

pub returns-in_default : goal.returns-in_default
returns-in_default c =
    let none : c.read_command.result ≡ None = grind arith in
    let so = after_unreadable c.args.place _ _ (rw none at c.read_command.ensures) in
    record { answer = so.answered; kept = so.kept }

pub returns-in-Blank : goal.returns-in-Blank
returns-in-Blank c =
    let is : c.read_command.result ≡ Some Blank = grind arith in
    let so = after_blank c.args.place _ _ (rw is at c.read_command.ensures) in
    record { answer = so.answered; kept = so.kept }

pub returns-in-Letter : goal.returns-in-Letter
returns-in-Letter c =
    let is : c.read_command.result ≡ Some (Letter c.in-Letter.letter) = grind arith in
    let says = rw is at c.read_command.ensures in
    record { answer = c.letter.ensures.answer c.args.place _ says; kept = c.letter.ensures.kept _ says }

pub returns-in-Line : goal.returns-in-Line
returns-in-Line c =
    let is : c.read_command.result ≡ Some Line = grind arith in
    let so = after_line c.args.place _ _ c.line.result (rw is at c.read_command.ensures) c.line.ensures in
    record { answer = so.answered; kept = so.kept }
