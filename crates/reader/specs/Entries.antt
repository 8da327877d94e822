-- What the entry that reads lines answers and leaves behind, over numbers and lent memory.
-- Assumes nothing: these are definitions.
--
--   Reads id xs bs     the line of the good frame with the identifier id and the bytes xs stands at the beginning of the numbers bs
--   read_answer f      what is answered of what was found
--   read_room f r      what a room that held r holds then: the letter's bytes in front, if one was found
--   read_refusal bs r  the number by which reading bs to a room that holds r is refused: 2 if one of bs is above 1, else 3 if the
--                      room isn't eight bytes; else 0, for none
--   ReadFrame bs r o s the answer o has the frame whose line stands at the beginning of bs, and where the line ends; s is r with the
--                      frame's bytes in front
--   ReadNothing ..     no good frame's line stands at the beginning of bs, which is what o says, and s is r
--   ReadRefused k ..   refused by k, which is what o says, and s is r
--   ReadBy k bs r o s  one of these if k is 0; else refused by k, and s is r
--   ReadSays bs r o s  o is what reading bs to a room answers, and s what the room holds then, where it held r
use Rattle.std.specs.Prelude.{◌≡◌, ℕ, zero, suc, true, cond, ◌⊎◌, List, ◌++◌, map, length, drop, is_some, Some, None, Option, ◌==◌}
use Rattle.bits.specs.Bits.{bit}
use Rattle.frame.specs.Entries.{read, nothing, refused}
use Rattle.frame.specs.Good.{good_frame}
use Rattle.frame.specs.Line.{line}
use Rattle.reader.specs.Places.{first_above}

pub record Reads (id : ℕ) (xs bs : List ℕ) : Type 0 where
  pub is_good : good_frame id xs ≡ true
  pub behind : List ℕ
  pub these : bs ≡ map bit (line id xs) ++ behind

abbrev pub read_answer : Option (ℕ × List ℕ × ℕ) → ℕ × List ℕ
read_answer None = nothing
read_answer (Some f) = read f.0 (length f.1) f.2

abbrev pub read_room : Option (ℕ × List ℕ × ℕ) → List ℕ → List ℕ
read_room None r = r
read_room (Some f) r = f.1 ++ drop (length f.1) r

abbrev pub read_refusal : List ℕ → List ℕ → ℕ
read_refusal bs r = cond (is_some (first_above 1 bs)) 2 (cond (length r == 8) 0 3)

pub record ReadFrame (bs r : List ℕ) (o : ℕ × List ℕ) (s : List ℕ) : Type 0 where
  pub id : ℕ
  pub bytes : List ℕ
  pub stands : Reads id bytes bs
  pub answer : o ≡ read id (length bytes) (length (line id bytes))
  pub written : s ≡ bytes ++ drop (length bytes) r

pub record ReadNothing (bs r : List ℕ) (o : ℕ × List ℕ) (s : List ℕ) : Type 0 where
  pub none : (id : ℕ) (xs : List ℕ) → Reads id xs bs → ⊥
  pub answer : o ≡ nothing
  pub same : s ≡ r

pub record ReadRefused (k : ℕ) (r : List ℕ) (o : ℕ × List ℕ) (s : List ℕ) : Type 0 where
  pub answer : o ≡ refused k
  pub same : s ≡ r

abbrev pub ReadBy : ℕ → List ℕ → List ℕ → ℕ × List ℕ → List ℕ → Type 0
ReadBy zero bs r o s = ReadFrame bs r o s ⊎ ReadNothing bs r o s
ReadBy (suc k) bs r o s = ReadRefused (suc k) r o s

abbrev pub ReadSays : List ℕ → List ℕ → ℕ × List ℕ → List ℕ → Type 0
ReadSays bs r o s = ReadBy (read_refusal bs r) bs r o s
