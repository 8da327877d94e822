-- What the code's reading says, and which bits it was read from. Assumes nothing: these are definitions.
--
--   lowest x           the lowest bit of the number x
--   seen r             what the reading r has, if there is one: the identifier and the bytes of a frame, and where its line ends
use Rattle.std.specs.Prelude.{ℕ, Bool, List, Option}
use Rattle.std.specs.Option.{option_map}
use Rattle.bits.specs.Bits.{bit_at}
use Rattle.frame.specs.Contents.{frame_data}
use Rattle.reader.specs.declared.reading.Reading.{Reading}

abbrev pub lowest : ℕ → Bool
lowest x = bit_at x 0

abbrev pub seen : Option Reading → Option (ℕ × List ℕ × ℕ)
seen r = option_map (λ x. (x.frame.id, frame_data x.frame, x.end)) r
