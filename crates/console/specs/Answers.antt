-- What is answered to a line, and the text of an answer.
-- Assumes nothing: these are definitions.
--
--   Reply              what is answered: nothing, bits, or a refusal
--   reply a            what the answer a of the code says: a line of bits, or none, or a refusal
--   reply_of x         the reply to a line with the refusal x, if it has one, and which says nothing else
--   line_reply p f     the reply to `line` in the line with the place p, if f is the current letter
--   answer p r k       the reply to what was read as r in the line with the place p, where k is kept
--   reply_text a       what is printed: nothing, a digit for each bit, or `refused 1 at 0`, with a line feed
use Rattle.std.specs.Prelude.{ℕ, Bool, List, [], ◌++◌, Some, None, Ok, Err, codes, decimal, Option, Result}
use Rattle.frame.specs.Contents.{line_bits}
use Rattle.frame.specs.Digits.{digits}
use Rattle.frame.specs.Line.{line}
use Rattle.frame.specs.declared.line.Line.{Line}
use Rattle.console.specs.Reading.{Reading, blank, letter, current_line, unreadable}
use Rattle.console.specs.Refusals.{bad_letter, refusal_number, refusal_place}
use Rattle.console.specs.Sessions.{State, current_letter}
use Rattle.console.specs.declared.refusal.Refusal.{Refusal}
use Rattle.console.specs.declared.refusal.Refusal.TheVariants.{Unreadable}

pub data Reply : Type 0 where
  nothing : Reply
  bits : List Bool → Reply
  refused : Refusal → Reply

abbrev pub reply : Result (Option Line) Refusal → Reply
reply (Ok None) = nothing
reply (Ok (Some l)) = bits (line_bits l)
reply (Err x) = refused x

abbrev pub reply_of : Option Refusal → Reply
reply_of None = nothing
reply_of (Some x) = refused x

abbrev pub line_reply : ℕ → Option (ℕ × List ℕ) → Reply
line_reply p None = refused (Unreadable p)
line_reply p (Some f) = bits (line f.0 f.1)

unfoldable pub answer : ℕ → Reading → State → Reply
answer p blank k = nothing
answer p (letter n bs) k = reply_of (bad_letter n bs)
answer p current_line k = line_reply p (current_letter k)
answer p unreadable k = refused (Unreadable p)

abbrev pub reply_text : Reply → List ℕ
reply_text nothing = []
reply_text (bits bs) = digits bs ++ codes "\n"
reply_text (refused x) = codes "refused " ++ (decimal (refusal_number x) ++ (codes " at " ++ (decimal (refusal_place x) ++ codes "\n")))
