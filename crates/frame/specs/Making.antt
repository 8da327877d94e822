-- How a line is made: what the maker holds, and what it does with one bit. Only the maker's own contracts cite this, and no promise
-- of the crate does.
-- Assumes nothing: these are definitions.
--
--   bits_left f        the bits of fields that f still has
--   left m             those that the maker m still has
--   Started f m        the maker m has put the start of the line of the frame f, and has all of its fields
--   rest m             what the maker m still puts, if no stuff bit is due
--   rest_due m         the same if one may be due
--   Ready m            the maker m may put one bit
--   HasPut b m after   after is the maker m once it has put the bit b
--   Fits k m new       the maker m may put the row new: there is room, and no more than k like bits stand at the end
--   Puts m new after   from m to after the row new was put
use Rattle.std.specs.Prelude.{◌≡◌, ℕ, ◌+◌, ◌<◌, ◌≤◌, Bool, List, [], ◌∷◌, ◌++◌, length}
use Rattle.bits.specs.Bits.{bits_of}
use Rattle.frame.specs.Contents.{frame_data}
use Rattle.frame.specs.Fields.{fields}
use Rattle.frame.specs.Line.{start}
use Rattle.frame.specs.Stuffing.{run, stuff, stuff_due}
use Rattle.frame.specs.declared.fields.Fields.{Fields}
use Rattle.frame.specs.declared.frame.Frame.{Frame}
use Rattle.frame.specs.declared.maker.Maker.{Maker}
use Rattle.row.specs.Items.{items}

abbrev pub bits_left : Fields → List Bool
bits_left f = bits_of f.width f.number

abbrev pub left : Maker → List Bool
left m = bits_left m.fields

pub record Started (f : Frame) (m : Maker) : Type 0 where
  pub fields : left m ≡ fields f.id (frame_data f)
  pub bit : m.run.bit ≡ start
  pub count : m.run.count ≡ 1
  pub bits : items m.bits ≡ start ∷ []

abbrev pub rest : Maker → List Bool
rest m = stuff m.run.bit m.run.count (left m)

abbrev pub rest_due : Maker → List Bool
rest_due m = stuff_due m.run.bit m.run.count (left m)

abbrev pub Ready : Maker → Type 0
Ready m = (m.run.count ≤ 5) × (length (items m.bits) < 125)

pub record HasPut (b : Bool) (m after : Maker) : Type 0 where
  pub bits : items after.bits ≡ items m.bits ++ b ∷ []
  pub bit : after.run.bit ≡ b
  pub count : after.run.count ≡ run m.run.bit m.run.count b
  pub fields : after.fields ≡ m.fields

abbrev pub Fits : ℕ → Maker → List Bool → Type 0
Fits k m new = (m.run.count ≤ k) × (length (items m.bits) + length new ≤ 125)

abbrev pub Puts : Maker → List Bool → Maker → Type 0
Puts m new after = items after.bits ≡ items m.bits ++ new
