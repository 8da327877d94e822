-- What holds of reading. Each is a statement, a type; src/laws.rt has a function for each, whose contract is that statement, so that
-- the crate is accepted only with its proof. Assumes nothing.
--
--   OneReading           of two lines of good frames with something behind, which are the same, both are of one frame, with the same
--                        behind it
--   WideByte             why a good frame's bytes have to be bytes: of two frames that are good but for that, 0 with 0 and 0 with 256, both
--                        have the same line, so that it would be read in two ways
--   NoLineBeginsAnother  where a good frame's line begins with another's, they are one line of one frame
--   MadeIsRead           the line of a good frame, with anything behind it, is read as that frame, and ends where it ends
--   ReadWasMade          whatever is read is a good frame, and the bits up to the end that is read are its line
--   Found bs             what is found at the beginning of bs, and what it is for nothing to be found
--   FoundStands          a frame is found just if it is good and its line stands there, and nothing just if no such line does
--   SevenWithin          a frame whose line has seven high bits together before its end: it is read at the end, and not where these stand
--   LineOf5_1Read        the line of the frame 5 with the byte 1, read from its digits
--   NineBytes            bits whose length says nine, with a check that fits, are read as nothing
--   StillWithin          as long as a reader goes on, what it has heard begins the line of some good frame, and more of the line is to come
--   ReadThenMade         what the entry reads, the maker's entry makes again: the same number of bits, and the same bits
--   MadeThenRead         what the maker's entry makes, the reader's entry reads again: the same name, and the same bytes
--   First m xs           what it is for a number to be the first above m, and for none to be
--   FirstAbove           the place that is given is that of the first number that is too large
--   BytesInRow           where a letter stands in a row behind i others, its bytes are what is handed back of i
use Rattle.std.specs.Prelude.{◌≡◌, ℕ, ◌*◌, ◌<◌, ◌≤◌, Bool, true, List, [], ◌∷◌, ◌++◌, map, length, take, drop, Some, None, codes, ◌≢◌, slice_index}
use Rattle.frame.specs.Entries.{made, make_answer, make_room, read}
use Rattle.frame.specs.Good.{good, good_frame}
use Rattle.frame.specs.Line.{line}
use Rattle.reader.specs.Entries.{ReadSays}
use Rattle.reader.specs.Hearing.{Has}
use Rattle.reader.specs.Places.{first_above}
use Rattle.reader.specs.Reading.{Stands, found}
use Rattle.reader.specs.Rows.{bytes_at}
use Rattle.reader.specs.Seen.{lowest}
use Rattle.reader.specs.declared.reader.Reader.{Reader}

-- ---- lines

abbrev pub OneReading : Type 0
OneReading =
    (m n : ℕ) (xs ys : List ℕ) (u v : List Bool) → good_frame m xs ≡ true → good_frame n ys ≡ true → line m xs ++ u ≡ line n ys ++ v →
    (m ≡ n) × (xs ≡ ys) × (u ≡ v)

pub record WideByte : Type 0 where
  pub narrow : good 0 (0 ∷ []) ≡ true
  pub wide : good 0 (256 ∷ []) ≡ true
  pub same : line 0 (0 ∷ []) ≡ line 0 (256 ∷ [])

abbrev pub NoLineBeginsAnother : Type 0
NoLineBeginsAnother =
    (m n : ℕ) (xs ys : List ℕ) (u : List Bool) → good_frame m xs ≡ true → good_frame n ys ≡ true → line m xs ++ u ≡ line n ys → (m ≡ n) × (xs ≡ ys) × (u ≡ [])

abbrev pub MadeIsRead : Type 0
MadeIsRead = (n : ℕ) (xs : List ℕ) (w : List Bool) → good_frame n xs ≡ true → found (line n xs ++ w) ≡ Some (n, xs, length (line n xs))

abbrev pub ReadWasMade : Type 0
ReadWasMade = (bs : List Bool) (n : ℕ) (xs : List ℕ) (e : ℕ) → found bs ≡ Some (n, xs, e) → (good_frame n xs ≡ true) × (take e bs ≡ line n xs) × (e ≡ length (line n xs))

pub record Found (bs : List Bool) : Type 0 where
  pub standing : (n : ℕ) (xs : List ℕ) → Stands n xs bs → found bs ≡ Some (n, xs, length (line n xs))
  pub stands : (n : ℕ) (xs : List ℕ) (e : ℕ) → found bs ≡ Some (n, xs, e) → Stands n xs bs
  pub nothing : ((n : ℕ) (xs : List ℕ) → Stands n xs bs → ⊥) → found bs ≡ None
  pub none : found bs ≡ None → (n : ℕ) (xs : List ℕ) → Stands n xs bs → ⊥

abbrev pub FoundStands : Type 0
FoundStands = (bs : List Bool) → Found bs

pub record SevenWithin : Type 0 where
  pub sevens : drop 29 (take 36 (map lowest (codes "0000010001111000001100111011011111111111"))) ≡ map lowest (codes "1111111")
  pub there : found (take 36 (map lowest (codes "0000010001111000001100111011011111111111"))) ≡ None
  pub whole : found (map lowest (codes "0000010001111000001100111011011111111111")) ≡ Some (15, [], 40)

abbrev pub LineOf5_1Read : Type 0
LineOf5_1Read = found (map lowest (codes "00000100001010001000001001010101111011101111111101")) ≡ Some (5, 1 ∷ [], 48)

abbrev pub NineBytes : Type 0
NineBytes =
    found (map lowest (codes "000001000010110010000010010000010010000010010000010010000010010000010010000010010000010010000010010100001111010011111111")) ≡ None

abbrev pub StillWithin : Type 0
StillWithin =
    (u : List Bool) (r : Reader) → Has u r →
    (n : ℕ) × (xs : List ℕ) × (w : List Bool) × (good_frame n xs ≡ true) × (line n xs ≡ u ++ w) × (w ≢ [])

-- ---- the entries

abbrev pub ReadThenMade : Type 0
ReadThenMade =
    (bs r s : List ℕ) (n k e : ℕ) (room : List ℕ) → ReadSays bs r (read n k e) s → e ≤ length room →
    (make_answer n (take k s) (length room) ≡ made e) × (make_room n (take k s) room ≡ take e bs ++ drop e room)

abbrev pub MadeThenRead : Type 0
MadeThenRead =
    (n : ℕ) (xs room r : List ℕ) (o : ℕ × List ℕ) (s : List ℕ) → good_frame n xs ≡ true → length (line n xs) ≤ length room → length r ≡ 8 →
    first_above 1 (make_room n xs room) ≡ None → ReadSays (make_room n xs room) r o s →
    (o ≡ read n (length xs) (length (line n xs))) × (s ≡ xs ++ drop (length xs) r)

pub record First (m : ℕ) (xs : List ℕ) : Type 0 where
  pub none : first_above m xs ≡ None → (i : ℕ) → i < length xs → slice_index xs i ≤ m
  pub some : (i : ℕ) → first_above m xs ≡ Some i → (i < length xs) × (m < slice_index xs i) × ((j : ℕ) → j < i → slice_index xs j ≤ m)

abbrev pub FirstAbove : Type 0
FirstAbove = (m : ℕ) (xs : List ℕ) → First m xs

abbrev pub BytesInRow : Type 0
BytesInRow =
    (before : List ℕ) (i n : ℕ) (xs pad behind : List ℕ) → length before ≡ 10 * i → length (xs ++ pad) ≡ 8 →
    bytes_at (before ++ (n ∷ length xs ∷ (xs ++ (pad ++ behind)))) i ≡ xs
