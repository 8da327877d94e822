-- What comparing decides (`line_eq_decides`): bits are compared one by one, and are a line's own. Rests on the library's comparison of lists.
-- Assumes nothing else.
use Rattle.std.specs.Prelude.{◌≡◌, ◌↔◌, IsTrue}
use Rattle.std.specs.Cmp.{booleans_Decides}
use Rattle.std.specs.Cmp.Lexicographic.{pointwise_decides}
use Rattle.frame.specs.Contents.{line_bits, line_eq}
use Rattle.frame.specs.declared.line.Line.{Line}

pub line_eq_decides : (a b : Line) → IsTrue (line_eq a b) ↔ (line_bits a ≡ line_bits b)
line_eq_decides a b = pointwise_decides booleans_Decides (line_bits a) (line_bits b)
