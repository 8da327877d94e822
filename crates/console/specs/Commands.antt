-- What the code's commands say. A command holds numbers of 64 bits, the largest of which stands for each larger one; and of
-- the numbers behind a letter's name it holds how many there are, and the first eight.
-- Assumes nothing: these are definitions.
--
--   capped_reading r   what was read as r, with its numbers capped
--   Holds x ns         x holds the numbers ns, as far as it goes
--   SaysLetter o r     the letter o is what was read as r, which can't be read where there is none
--   Says o r           the command o says what was read as r, which can't be read where there is none
use Rattle.std.specs.Prelude.{◌≡◌, ℕ, List, map, length, take, Some, None, Option}
use Rattle.console.specs.Numeral.{capped}
use Rattle.console.specs.Reading.{Reading, blank, letter, current_line, unreadable}
use Rattle.console.specs.declared.command.Command.{Command}
use Rattle.console.specs.declared.command.Command.TheVariants.{Blank, Letter, Line}
use Rattle.console.specs.declared.letter.Letter as Declared
use Rattle.console.specs.declared.numbers.Numbers.{Numbers}
use Rattle.row.specs.Items.{items}

abbrev pub capped_reading : Reading → Reading
capped_reading blank = blank
capped_reading (letter name bytes) = letter (capped name) (map capped bytes)
capped_reading current_line = current_line
capped_reading unreadable = unreadable

pub record Holds (x : Numbers) (ns : List ℕ) : Type 0 where
  pub count : x.count ≡ length ns
  pub first : items x.first ≡ take 8 ns

abbrev pub SaysLetter : Option Declared.Letter → Reading → Type 0
SaysLetter None r = r ≡ unreadable
SaysLetter (Some x) r = (ns : List ℕ) × (r ≡ letter x.name ns) × Holds x.bytes ns

abbrev pub Says : Option Command → Reading → Type 0
Says None r = r ≡ unreadable
Says (Some Blank) r = r ≡ blank
Says (Some (Letter x)) r = SaysLetter (Some x) r
Says (Some Line) r = r ≡ current_line
