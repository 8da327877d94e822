-- Letters in a table with a place for each name: whatever stands at a place has that name.
-- Assumes nothing: these are definitions.
--
--   named n f          whether the frame f, if there is one, has the identifier n
--   InPlace fs         each of the frames fs stands at the place of its identifier
use Rattle.std.specs.Prelude.{◌≡◌, ℕ, Bool, true, List, Some, None, Option, ◌==◌, slice_index_or}
use Rattle.frame.specs.declared.frame.Frame.{Frame}

abbrev pub named : ℕ → Option Frame → Bool
named n None = true
named n (Some f) = f.id == n

abbrev pub InPlace : List (Option Frame) → Type 0
InPlace fs = (n : ℕ) → named n (slice_index_or fs n None) ≡ true
