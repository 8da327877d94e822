-- What a session keeps, and how a line changes it: a good letter is kept under its name, in place of an earlier one, and is
-- the current one. What is refused changes nothing.
-- Assumes nothing: these are definitions.
--
--   State              what a session keeps: at the place of each name the letter of that name, its name and its bytes, if
--                      there is one; and the name of the current letter, if there is one
--   state s            what the session s keeps
--   no_letters         what a session keeps at first
--   current_letter k   the current letter, its name and its bytes, if k has one
--   letter_at n ls     of the letters ls the one at the place n, if there is such a place and a letter stands there
--   kept_letter n bs k what is kept once the good letter with the name n and the bytes bs is kept besides k
--   unless_refused x   the first of two, or the second where there is a refusal x
--   after r k          what is kept after a line that was read as r, where k was kept
use Rattle.std.specs.Prelude.{ℕ, List, map, replicate, Some, None, vec_items, Option, slice_index_or, slice_set}
use Rattle.std.specs.Option.{option_map}
use Rattle.frame.specs.Contents.{contents}
use Rattle.console.specs.Reading.{Reading, blank, letter, current_line, unreadable}
use Rattle.console.specs.Refusals.{bad_letter}
use Rattle.console.specs.declared.refusal.Refusal.{Refusal}
use Rattle.console.specs.declared.session.Session.{Session}

pub record State : Type 0 where
  pub kept : List (Option (ℕ × List ℕ))
  pub current : Option ℕ

abbrev pub state : Session → State
state s = record { kept = map (option_map contents) (vec_items s.kept); current = s.current }

abbrev pub no_letters : State
no_letters = record { kept = replicate 2048 None; current = None }

abbrev pub letter_at : Option ℕ → List (Option (ℕ × List ℕ)) → Option (ℕ × List ℕ)
letter_at None ls = None
letter_at (Some n) ls = slice_index_or ls n None

abbrev pub current_letter : State → Option (ℕ × List ℕ)
current_letter k = letter_at k.current k.kept

abbrev pub kept_letter : ℕ → List ℕ → State → State
kept_letter n bs k = record { kept = slice_set k.kept n (Some (n, bs)); current = Some n }

abbrev pub unless_refused : {A : Type 0} → Option Refusal → A → A → A
unless_refused None new old = new
unless_refused (Some x) new old = old

unfoldable pub after : Reading → State → State
after blank k = k
after (letter n bs) k = unless_refused (bad_letter n bs) (kept_letter n bs k) k
after current_line k = k
after unreadable k = k
