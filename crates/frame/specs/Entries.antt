-- What the entries answer and leave behind, over numbers and lent memory. Each answer has a number and values of its own.
-- Assumes nothing: these are definitions.
--
--   outcome d          the number and the values of the answer d
--   made n             a line of n bits was made
--   short n            the room is too short for the line, which has n bits
--   read n k e         a line was read: the letter's name n, how many bytes it has, k, and where its line ends, e
--   nothing            no line stands there
--   refused k          refused, by the number k
--   refusal_number r   the number of the refusal r
--   make_answer n bs k what making the line of the letter with the name n and the bytes bs answers, for a room of k places
--   make_room n bs r   what a room that held r holds afterwards
use Rattle.std.specs.Prelude.{ℕ, cond, ◌&&◌, List, [], ◌∷◌, ◌++◌, map, length, drop, nat_le}
use Rattle.bits.specs.Bits.{bit}
use Rattle.frame.specs.Good.{good}
use Rattle.frame.specs.Line.{line}
use Rattle.frame.specs.declared.done.Done.{Done}
use Rattle.frame.specs.declared.done.Done.TheVariants.{Made, Short, Read, Nothing, Refused}
use Rattle.frame.specs.declared.refusal.Refusal.{Refusal}
use Rattle.frame.specs.declared.refusal.Refusal.TheVariants.{BadLetter, BadBit, BadRoom}

abbrev pub made : ℕ → ℕ × List ℕ
made n = (0, n ∷ [])

abbrev pub short : ℕ → ℕ × List ℕ
short n = (1, n ∷ [])

abbrev pub read : ℕ → ℕ → ℕ → ℕ × List ℕ
read n k e = (2, n ∷ k ∷ e ∷ [])

abbrev pub nothing : ℕ × List ℕ
nothing = (3, [])

abbrev pub refused : ℕ → ℕ × List ℕ
refused k = (4, k ∷ [])

abbrev pub refusal_number : Refusal → ℕ
refusal_number BadLetter = 1
refusal_number BadBit = 2
refusal_number BadRoom = 3

abbrev pub outcome : Done → ℕ × List ℕ
outcome (Made n) = made n
outcome (Short n) = short n
outcome (Read n k e) = read n k e
outcome Nothing = nothing
outcome (Refused k) = refused k

abbrev pub make_answer : ℕ → List ℕ → ℕ → ℕ × List ℕ
make_answer n bs k =
    cond (good n bs) (cond (nat_le (length (line n bs)) k) (made (length (line n bs))) (short (length (line n bs)))) (refused 1)

abbrev pub make_room : ℕ → List ℕ → List ℕ → List ℕ
make_room n bs r =
    cond (good n bs && nat_le (length (line n bs)) (length r)) (map bit (line n bs) ++ drop (length (line n bs)) r) r
