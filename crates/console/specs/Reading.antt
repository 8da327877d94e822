-- What a line of text says to the console. A line is blank, or it is a command; any other line can't be read. The command
-- `letter`, as in `letter 5: 1 2 3`, has a name with a colon and any number of bytes: whether such a letter is good is asked
-- later. The command `line` has nothing behind it.
-- Assumes nothing: these are definitions.
--
--   Reading            what a line says
--   reading t          what the line t says
--   command_words ws   what a line with the words ws says
--   letter_words ws    what the words ws say behind the word `letter`
--   line_words ws      what the words ws say behind the word `line`
--   letter_of n bs     the letter with the name n and the bytes bs, if both could be read
--   before_colon w     what stands before the colon that ends the word w, or nothing where no colon ends it
--   numbers ws         the numbers that the words ws are, or nothing where one of them is no number
--   in_front n ns      the number n in front of the numbers ns, if both could be read
use Rattle.std.specs.Prelude.{ℕ, cond, List, [], ◌∷◌, Some, None, codes, Option, ◌==◌}
use Rattle.std.specs.Option.{option_and_then, option_map}
use Rattle.std.specs.Str.{bytes_eq}
use Rattle.console.specs.Numeral.{number_in}
use Rattle.console.specs.Words.{words}

pub data Reading : Type 0 where
  blank : Reading
  letter : (name : ℕ) → (bytes : List ℕ) → Reading
  current_line : Reading
  unreadable : Reading

unfoldable pub before_colon : List ℕ → Option (List ℕ)
before_colon [] = None
before_colon (c ∷ []) = cond (c == 58) (Some []) None
before_colon (c ∷ d ∷ w) = option_map (λ front. c ∷ front) (before_colon (d ∷ w))

unfoldable pub in_front : Option ℕ → Option (List ℕ) → Option (List ℕ)
in_front None ns = None
in_front (Some n) ns = option_map (λ rest. n ∷ rest) ns

unfoldable pub numbers : List (List ℕ) → Option (List ℕ)
numbers [] = Some []
numbers (w ∷ ws) = in_front (number_in w) (numbers ws)

unfoldable pub letter_of : Option ℕ → Option (List ℕ) → Reading
letter_of None bytes = unreadable
letter_of (Some name) None = unreadable
letter_of (Some name) (Some bytes) = letter name bytes

unfoldable pub letter_words : List (List ℕ) → Reading
letter_words [] = unreadable
letter_words (w ∷ ws) = letter_of (option_and_then number_in (before_colon w)) (numbers ws)

unfoldable pub line_words : List (List ℕ) → Reading
line_words [] = current_line
line_words (w ∷ ws) = unreadable

unfoldable pub command_words : List (List ℕ) → Reading
command_words [] = unreadable
command_words (w ∷ ws) =
    cond (bytes_eq w (codes "letter")) (letter_words ws) (cond (bytes_eq w (codes "line")) (line_words ws) unreadable)

unfoldable pub reading : List ℕ → Reading
reading [] = blank
reading (c ∷ cs) = command_words (words (c ∷ cs))
