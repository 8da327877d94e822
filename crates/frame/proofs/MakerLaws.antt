-- What holds of a maker: what it still puts is a bit, and then what it still puts once it has put that bit.
-- Rests on the laws of stuff bits. Assumes nothing else.
use Rattle.std.proofs.Common.{◌≡◌, ◌+◌, ◌<◌, ◌≤◌, Bool, true, false, not, List, [], ◌∷◌, ◌++◌, length, sym, ap, ◌∙◌, ap₂, arith}
use Rattle.std.proofs.lemmas.List.{append_assoc, append-nil, length-append}
use Rattle.bits.specs.Bits.{bits_of}
use Rattle.frame.specs.Contents.{frame_data}
use Rattle.frame.specs.Fields.{fields}
use Rattle.frame.specs.Line.{line, start, end}
use Rattle.frame.specs.Making.{Started, left, rest, rest_due, HasPut, Fits, Puts}
use Rattle.frame.specs.Stuffing.{due, run, stuff, stuff_due}
use Rattle.frame.specs.declared.frame.Frame.{Frame}
use Rattle.frame.specs.declared.maker.Maker.{Maker}
use Rattle.frame.proofs.FieldLaws.{few_bytes}
use Rattle.frame.proofs.LineLaws.{length-line, length_of_line}
use Rattle.frame.proofs.StuffLaws.{not-due, run_most, run_other}
use Rattle.row.specs.Items.{items}

pub puts_none : (m : Maker) (new : List Bool) → new ≡ [] → Puts m new m
puts_none m new e = sym (ap (λ r. items m.bits ++ r) e ∙ append-nil (items m.bits))

-- what is put behind the bit b is put behind what was there before it
puts_more :
    (m n : Maker) (b : Bool) (new all : List Bool) (after : Maker) → items n.bits ≡ items m.bits ++ b ∷ [] → all ≡ b ∷ new → Puts n new after → Puts m all after
puts_more m n b new all after one these puts =
    puts ∙ ap (λ r. r ++ new) one ∙ append_assoc (items m.bits) (b ∷ []) new ∙ ap (λ r. items m.bits ++ r) (sym these)

-- a bit that is put takes one place
one_place : (m n : Maker) (b : Bool) → items n.bits ≡ items m.bits ++ b ∷ [] → length (items n.bits) ≡ length (items m.bits) + 1
one_place m n b one = ap length one ∙ length-append (items m.bits) (b ∷ [])

-- ---- the maker of rows

-- the maker taken is m without the first bit b of its fields, and n has put that bit
module _ (m taken n : Maker) (b : Bool) (first : left m ≡ b ∷ left taken) (run_same : taken.run ≡ m.run) (bits_same : taken.bits ≡ m.bits) (put : HasPut b taken n) where
  counted : n.run.count ≡ run m.run.bit m.run.count b
  counted = put.count ∙ ap (λ r. run r.bit r.count b) run_same

  rest_first : rest m ≡ b ∷ rest_due n
  unfolding stuff
  rest_first =
      let same : left taken ≡ left n = sym (ap (λ f. bits_of f.width f.number) put.fields) in
      ap (stuff m.run.bit m.run.count) (first ∙ ap (λ r. b ∷ r) same) ∙ ap₂ (λ c k. b ∷ stuff_due c k (left n)) (sym put.bit) (sym counted)

  one_more : items n.bits ≡ items m.bits ++ b ∷ []
  one_more = put.bits ∙ ap (λ r. items r ++ b ∷ []) bits_same

  -- what is left fits the room, and goes on fitting once a bit is put
  pub row_fits : m.run.count ≤ 4 → length (items m.bits) + length (rest m) ≤ 125 → Fits 5 n (rest_due n)
  row_fits few fits =
      (omega (arith, counted, run_most m.run.bit m.run.count b), omega (arith, ap length rest_first, one_place m n b one_more))

  pub row_puts : (after : Maker) → Puts n (rest_due n) after → Puts m (rest m) after
  row_puts after puts = puts_more m n b (rest_due n) (rest m) after one_more rest_first puts

pub row_none : (m : Maker) → left m ≡ [] → rest m ≡ []
unfolding stuff
row_none m e = ap (stuff m.run.bit m.run.count) e

pub row_place : (m : Maker) (b : Bool) (l : List Bool) → left m ≡ b ∷ l → length (items m.bits) + length (rest m) ≤ 125 → length (items m.bits) < 125
unfolding stuff
row_place m b l first fits = omega (arith, ap (λ r. length (stuff m.run.bit m.run.count r)) first)

-- ---- the maker of stuff bits, where one is due

module _ (m n : Maker) (five : due m.run.count ≡ true) (put : HasPut (not m.run.bit) m n) where
  rest_five : rest_due m ≡ not m.run.bit ∷ rest n
  rest_five =
      let count : 1 ≡ n.run.count = sym (put.count ∙ run_other m.run.bit m.run.count) in
      let same : left m ≡ left n = sym (ap (λ f. bits_of f.width f.number) put.fields) in
      rw five (ap₂ (λ c k. not m.run.bit ∷ stuff c k (left m)) (sym put.bit) count ∙ ap (λ l. not m.run.bit ∷ stuff n.run.bit n.run.count l) same)

  pub five_fits : length (items m.bits) + length (rest_due m) ≤ 125 → Fits 4 n (rest n)
  five_fits fits =
      (omega (arith, put.count, run_other m.run.bit m.run.count), omega (arith, ap length rest_five, one_place m n (not m.run.bit) put.bits))

  pub five_puts : (after : Maker) → Puts n (rest n) after → Puts m (rest_due m) after
  five_puts after puts = puts_more m n (not m.run.bit) (rest n) (rest_due m) after put.bits rest_five puts

-- ---- and where none is

rest_other : (m : Maker) → due m.run.count ≡ false → rest_due m ≡ rest m
rest_other m other = rw other

pub other_fits : (m : Maker) → due m.run.count ≡ false → Fits 5 m (rest_due m) → Fits 4 m (rest m)
other_fits m other (few, fits) = (omega (arith, not-due m.run.count other), omega (arith, ap length (rest_other m other)))

pub other_puts : (m after : Maker) → due m.run.count ≡ false → Puts m (rest m) after → Puts m (rest_due m) after
other_puts m after other puts = puts ∙ ap (λ r. items m.bits ++ r) (sym (rest_other m other))

-- ---- the whole line

module _ (f : Frame) (m : Maker) (started : Started f m) where
  rest_started : rest m ≡ stuff start 1 (fields f.id (frame_data f))
  rest_started = ap₂ (λ c k. stuff c k (left m)) started.bit started.count ∙ ap (stuff start 1) started.fields

  -- with the start in front, and the end behind, it is no longer than a line may be
  length_started : 8 + length (rest m) ≤ 125
  length_started =
      omega (arith, ap length rest_started, length-line f.id (frame_data f), (length_of_line f.id (frame_data f)).most, few_bytes f)

  pub started_fits : Fits 4 m (rest m)
  started_fits = (omega (arith, started.count), omega (arith, ap length started.bits, length_started))

  pub line_fits : (after : Maker) → Puts m (rest m) after → length (items after.bits) + 7 ≤ 125
  line_fits after puts = omega (arith, ap length puts, length-append (items m.bits) (rest m), ap length started.bits, length_started)

  pub line_made : (after : Maker) → Puts m (rest m) after → items after.bits ++ end ≡ line f.id (frame_data f)
  unfolding line
  line_made after puts = ap (λ r. r ++ end) (puts ∙ ap₂ (λ l r. l ++ r) started.bits rest_started)
