-- What the code's frames and lines hold. A frame holds its identifier and the row of its bytes; a line holds the row of its bits.
-- Assumes nothing: these are definitions.
--
--   frame_data f       the bytes of the frame f
--   contents f         the identifier and the bytes of the frame f
--   line_bits l        the bits of the line l
--   frame_eq f g       whether the frames f and g have one identifier and the same bytes
--   line_eq l m        whether the lines l and m have the same bits
use mathlib.Core.Bool.{beq}
use Rattle.std.specs.Prelude.{ℕ, Bool, List, nat_eq}
use Rattle.std.specs.Cmp.Lexicographic.{pointwise}
use Rattle.std.specs.Ordering.{eq_of_both, on}
use Rattle.frame.specs.declared.frame.Frame.{Frame}
use Rattle.frame.specs.declared.line.Line.{Line}
use Rattle.row.specs.Items.{items}

abbrev pub frame_data : Frame → List ℕ
frame_data f = items f.bytes

abbrev pub contents : Frame → ℕ × List ℕ
contents f = (f.id, frame_data f)

abbrev pub line_bits : Line → List Bool
line_bits l = items l.bits

abbrev pub frame_eq : Frame → Frame → Bool
frame_eq = eq_of_both (on frame_data (pointwise nat_eq)) (on (λ f. f.id) nat_eq)

abbrev pub line_eq : Line → Line → Bool
line_eq = on line_bits (pointwise beq)
