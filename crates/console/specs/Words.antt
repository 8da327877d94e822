-- A text's words, which single spaces keep apart. Every space counts, so that two spaces in a row have an empty word between
-- them, and a space at an end of the text an empty word beyond it: no such word is a number or a command.
-- Assumes nothing: these are definitions.
--
--   words t            the words of the text t, one at least
--   spaced ws          the words ws with a single space between each two
use Rattle.std.specs.Prelude.{ℕ, List, ◌==◌}
use Rattle.std.specs.List.{join_with_byte, slice_split}

abbrev pub words : List ℕ → List (List ℕ)
words t = slice_split (λ c. c == 32) t

abbrev pub spaced : List (List ℕ) → List ℕ
spaced ws = join_with_byte 32 ws
