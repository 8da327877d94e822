-- Stuff bits. Behind five like bits one of the other kind is put in, which then counts too; it comes as soon as the fifth like
-- bit has, so also at a row's end. What stands in front of a row counts with it, and is told by its last bit b and by how many bits
-- like that one, n, stand there together.
-- Assumes nothing: these are definitions.
--
--   run b n c          how many like bits stand at the end, the bit c among them, if n bits like b stood there before it
--   due n              whether a stuff bit comes next, where n like bits stand at the end
--   stuff b n cs       the row cs with stuff bits put in, if n bits like b stand in front of it and no stuff bit is due
--   stuff_due b n cs   the same if one may be due
--   unstuff b n cs     the row cs with each bit taken out that stands where a stuff bit is due
use Rattle.std.specs.Prelude.{ℕ, suc, Bool, cond, not, List, [], ◌∷◌, ◌==◌}
use Rattle.bits.specs.Bits.{differ}

unfoldable pub run : Bool → ℕ → Bool → ℕ
run b n c = cond (differ b c) 1 (suc n)

abbrev pub due : ℕ → Bool
due n = n == 5

unfoldable pub stuff : Bool → ℕ → List Bool → List Bool
stuff b n [] = []
stuff b n (c ∷ cs) = c ∷ cond (due (run b n c)) (not c ∷ stuff (not c) 1 cs) (stuff c (run b n c) cs)

abbrev pub stuff_due : Bool → ℕ → List Bool → List Bool
stuff_due b n cs = cond (due n) (not b ∷ stuff (not b) 1 cs) (stuff b n cs)

unfoldable pub unstuff : Bool → ℕ → List Bool → List Bool
unstuff b n [] = []
unstuff b n (c ∷ cs) = cond (due n) (unstuff c (run b n c) cs) (c ∷ unstuff c (run b n c) cs)
