-- The table of the checks of the 256 bytes: that each entry is right is one test over the whole table, which antt computes
-- (`table_right`), and a test that came out true says so of each entry (`table_at`).
-- Rests on the definitions of the check alone. Assumes nothing.
use Rattle.std.proofs.Common.{◌≡◌, ℕ, zero, suc, ◌+◌, ◌<◌, Bool, true, ◌&&◌, eqb, List, [], ◌∷◌, length, get_or, add-zero, add-suc, suc-add, zero-add, arith}
use Rattle.std.proofs.lemmas.Bool.{and_parts, eqb-true}
use Rattle.bits.specs.Bits.{bits_of}
use Rattle.bits.specs.Crc.{crc}

-- each entry is the check of its place, where the first place is i
abbrev pub table_right : ℕ → List ℕ → Bool
table_right i [] = true
table_right i (x ∷ xs) = eqb x (crc (bits_of 8 i)) && table_right (suc i) xs

from : (xs : List ℕ) (i : ℕ) → table_right i xs ≡ true → (k : ℕ) → k < length xs → get_or xs k 0 ≡ crc (bits_of 8 (i + k))
from [] i t k h = absurd (omega arith)
from (x ∷ xs) i t zero h = rw (add-zero i) (eqb-true x _ (and_parts _ _ t).0)
from (x ∷ xs) i t (suc k) h = rw (add-suc i k, ← suc-add i k) (from xs (suc i) (and_parts _ _ t).1 k (omega arith))

pub table_at : (xs : List ℕ) → table_right 0 xs ≡ true → (k : ℕ) → k < length xs → get_or xs k 0 ≡ crc (bits_of 8 k)
table_at xs t k h = rw (zero-add k) at (from xs 0 t k h)
