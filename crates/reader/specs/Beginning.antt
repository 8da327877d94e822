-- Bits that begin the fields of a good frame. Only the reader's own contracts cite this, and no promise of the crate does.
-- Rests on frames and their fields. Assumes nothing: these are definitions.
--
--   Begins d           the bits d begin the fields of some good frame
--   least_length d     the least number of bytes that a frame can have whose fields begin with the bits d: as if only low bits came
use Rattle.std.specs.Prelude.{◌≡◌, ℕ, Bool, true, false, List, ◌++◌, replicate}
use Rattle.frame.specs.Fields.{fields}
use Rattle.frame.specs.Good.{good_frame}
use Rattle.reader.specs.Reading.{length_in}

pub record Begins (d : List Bool) : Type 0 where
  pub id : ℕ
  pub bytes : List ℕ
  pub rest : List Bool
  pub is_good : good_frame id bytes ≡ true
  pub these : fields id bytes ≡ d ++ rest

abbrev pub least_length : List Bool → ℕ
least_length d = length_in (d ++ replicate 15 false)
