-- What holds of texts, refusals and sessions, in the words of whoever types them. Each is a statement, a type; src/laws.rt has a
-- function for each, whose contract is that statement, so that the crate is accepted only with its proof. Assumes nothing.
--
--   SpacedWords        a text's words with single spaces between them are the text
--   WordsSpaced        words without a space in them, with single spaces between them, are cut apart into these words
--   Unspaced w         the word w has no space in it
--   typed d ds         the command `letter` as it is typed, with the digits d for the name and the digits ds for the bytes
--   IsNumeral w        the word w is a number in digits
--   BlankIsEmpty       only a line without any byte is blank
--   TypedIsRead        a letter that is typed, with any digits, is read as the letter of the numbers that they write
--   ReadWasTyped       what is read as a letter was typed so
--   LineWasTyped       only the text `line` is read as that command
--   EachHolds          whatever the code holds of the numbers behind a name stands for some numbers, so that what is said of these
--                      is said of every letter
--   Good n bs          a letter of which a good frame can be made, and none of its bytes is above 255
--   GoodOrRefused      a letter is good if and only if it is not refused
--   RefusedAt p n bs   the letter with the name n and the bytes bs is refused at the place p
--   InOrder n bs       what is refused of a letter, and at which place, in the order of the questions
--   RefusedInOrder     a name that is too large is refused first, at 0; else too many bytes, with how many they are; else the first
--                      byte that is too large, with its place
--   RefusedSame        what is refused changes nothing
--   after_all rs k     what is kept after lines that were read as rs, where k was kept
--   newer r o          the last good letter once r was read, where it was o
--   last_good rs o     the last good letter once rs were read, where it was o
--   LineOfLast         after any lines, `line` is answered by the line of the last good letter among them, and refused if there
--                      was none
--   Examples           some lines, and what they say or why they are refused
use Rattle.std.specs.Prelude.{◌≡◌, ℕ, ◌<◌, ◌≤◌, true, List, [], ◌∷◌, ◌++◌, map, length, Some, None, codes, Option, ◌≢◌, slice_index}
use Rattle.std.specs.List.{AllByRecursion}
use Rattle.std.specs.Option.{option_map}
use Rattle.frame.specs.Good.{good}
use Rattle.console.specs.Answers.{answer, line_reply, refused, reply_text}
use Rattle.console.specs.Commands.{Holds}
use Rattle.console.specs.Numeral.{numeral, value}
use Rattle.console.specs.Reading.{Reading, reading, blank, letter, current_line, unreadable}
use Rattle.console.specs.Refusals.{bad_letter, refusal_place}
use Rattle.console.specs.Sessions.{State, no_letters, unless_refused, after}
use Rattle.console.specs.Words.{words, spaced}
use Rattle.console.specs.declared.numbers.Numbers.{Numbers}
use Rattle.console.specs.declared.refusal.Refusal.{Refusal}
use Rattle.console.specs.declared.refusal.Refusal.TheVariants.{Name, Count, Byte, Unreadable}

abbrev pub SpacedWords : Type 0
SpacedWords = (t : List ℕ) → spaced (words t) ≡ t

abbrev pub Unspaced : List ℕ → Type 0
Unspaced w = AllByRecursion (λ c. c ≢ 32) w

abbrev pub WordsSpaced : Type 0
WordsSpaced = (w : List ℕ) (ws : List (List ℕ)) → Unspaced w → AllByRecursion Unspaced ws → words (spaced (w ∷ ws)) ≡ w ∷ ws

unfoldable pub typed : List ℕ → List (List ℕ) → List ℕ
typed d ds = spaced (codes "letter" ∷ ((d ++ codes ":") ∷ ds))

abbrev pub IsNumeral : List ℕ → Type 0
IsNumeral w = numeral w ≡ true

abbrev pub BlankIsEmpty : Type 0
BlankIsEmpty = (t : List ℕ) → reading t ≡ blank → t ≡ []

abbrev pub TypedIsRead : Type 0
TypedIsRead = (d : List ℕ) (ds : List (List ℕ)) → IsNumeral d → AllByRecursion IsNumeral ds → reading (typed d ds) ≡ letter (value d) (map value ds)

abbrev pub ReadWasTyped : Type 0
ReadWasTyped =
    (t : List ℕ) (n : ℕ) (bs : List ℕ) → reading t ≡ letter n bs →
    (d : List ℕ) × (ds : List (List ℕ)) × IsNumeral d × AllByRecursion IsNumeral ds × (t ≡ typed d ds) × (n ≡ value d) × (bs ≡ map value ds)

abbrev pub LineWasTyped : Type 0
LineWasTyped = (t : List ℕ) → reading t ≡ current_line → t ≡ codes "line"

abbrev pub EachHolds : Type 0
EachHolds = (x : Numbers) → (ns : List ℕ) × Holds x ns

pub record Good (n : ℕ) (bs : List ℕ) : Type 0 where
  pub frame : good n bs ≡ true
  pub bytes : AllByRecursion (λ x. x ≤ 255) bs

abbrev pub GoodOrRefused : Type 0
GoodOrRefused = (n : ℕ) (bs : List ℕ) → (Good n bs → bad_letter n bs ≡ None) × (bad_letter n bs ≡ None → Good n bs)

abbrev pub RefusedAt : ℕ → ℕ → List ℕ → Type 0
RefusedAt p n bs = option_map refusal_place (bad_letter n bs) ≡ Some p

pub record InOrder (n : ℕ) (bs : List ℕ) : Type 0 where
  pub name : 2047 < n → (bad_letter n bs ≡ Some Name) × RefusedAt 0 n bs
  pub many : n ≤ 2047 → 8 < length bs → (bad_letter n bs ≡ Some (Count (length bs))) × RefusedAt (length bs) n bs
  pub byte : (i : ℕ) → n ≤ 2047 → length bs ≤ 8 → i < length bs → 255 < slice_index bs i → ((j : ℕ) → j < i → slice_index bs j ≤ 255) → (bad_letter n bs ≡ Some (Byte i)) × RefusedAt i n bs

abbrev pub RefusedInOrder : Type 0
RefusedInOrder = (n : ℕ) (bs : List ℕ) → InOrder n bs

abbrev pub RefusedSame : Type 0
RefusedSame = (p : ℕ) (r : Reading) (k : State) (x : Refusal) → answer p r k ≡ refused x → after r k ≡ k

unfoldable pub after_all : List Reading → State → State
after_all [] k = k
after_all (r ∷ rs) k = after_all rs (after r k)

unfoldable pub newer : Reading → Option (ℕ × List ℕ) → Option (ℕ × List ℕ)
newer blank o = o
newer (letter n bs) o = unless_refused (bad_letter n bs) (Some (n, bs)) o
newer current_line o = o
newer unreadable o = o

unfoldable pub last_good : List Reading → Option (ℕ × List ℕ) → Option (ℕ × List ℕ)
last_good [] o = o
last_good (r ∷ rs) o = last_good rs (newer r o)

abbrev pub LineOfLast : Type 0
LineOfLast = (p : ℕ) (rs : List Reading) → answer p current_line (after_all rs no_letters) ≡ line_reply p (last_good rs None)

pub record Examples : Type 0 where
  pub empty : reading [] ≡ blank
  pub plain : reading (codes "letter 5: 1") ≡ letter 5 (1 ∷ [])
  pub no_bytes : reading (codes "letter 0:") ≡ letter 0 []
  pub zeros : reading (codes "letter 0005: 007 255") ≡ letter 5 (7 ∷ 255 ∷ [])
  pub two_spaces : reading (codes "letter 5:  1") ≡ unreadable
  pub space_behind : reading (codes "letter 5: ") ≡ unreadable
  pub spaces : reading (codes "  ") ≡ unreadable
  pub no_colon : reading (codes "letter 5 1") ≡ unreadable
  pub line : reading (codes "line") ≡ current_line
  pub line_space : reading (codes "line ") ≡ unreadable
  pub line_name : reading (codes "line 5") ≡ unreadable
  pub large_name : answer 7 (reading (codes "letter 2048: 256")) no_letters ≡ refused Name
  pub nine_bytes : answer 7 (reading (codes "letter 2047: 1 2 3 4 5 6 7 8 256")) no_letters ≡ refused (Count 9)
  pub large_name_text : reply_text (answer 7 (reading (codes "letter 2048: 256")) no_letters) ≡ codes "refused 1 at 0\n"
  pub large_byte : answer 7 (reading (codes "letter 5: 1 256 257")) no_letters ≡ refused (Byte 1)
  pub no_command : answer 7 (reading (codes "lettre 5: 1")) no_letters ≡ refused (Unreadable 7)
  pub no_command_text : reply_text (answer 7 (reading (codes "lettre 5: 1")) no_letters) ≡ codes "refused 4 at 7\n"
  pub line_at_first : answer 7 (reading (codes "line")) no_letters ≡ refused (Unreadable 7)
  pub line_of_5 :
      reply_text (answer 1 (reading (codes "line")) (after (reading (codes "letter 5: 1")) no_letters))
      ≡ codes "000001000010100010000010010101011110111011111111\n"
