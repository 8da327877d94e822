-- What is refused, by which number, and at which place. Places count from 0.
-- Assumes nothing: these are definitions.
--
--   bad_byte i bs      the refusal of the first of the bytes bs that is above 255, where i bytes stand before them
--   bad_letter n bs    the refusal of the letter with the name n and the bytes bs, or nothing if it is good: a name above
--                      2047 first, then more than eight bytes, then a byte above 255
--   Judged n bs r      r is the frame of the letter with the name n and the bytes bs, if it is good, else its refusal
--   refusal_number x   1 for a letter that isn't good, 4 for a text that can't be read or asks for what isn't there
--   refusal_place x    where: 0 for a name, else how many bytes there are, else the byte's place; for a text its line
use Rattle.std.specs.Prelude.{◌≡◌, ℕ, suc, cond, List, [], ◌∷◌, length, Some, None, Ok, Err, Option, Result, nat_lt}
use Rattle.frame.specs.Contents.{contents}
use Rattle.frame.specs.declared.frame.Frame.{Frame}
use Rattle.console.specs.declared.refusal.Refusal.{Refusal}
use Rattle.console.specs.declared.refusal.Refusal.TheVariants.{Name, Count, Byte, Unreadable}

unfoldable pub bad_byte : ℕ → List ℕ → Option Refusal
bad_byte i [] = None
bad_byte i (x ∷ xs) = cond (nat_lt 255 x) (Some (Byte i)) (bad_byte (suc i) xs)

unfoldable pub bad_letter : ℕ → List ℕ → Option Refusal
bad_letter n bs =
    cond (nat_lt 2047 n) (Some Name) (cond (nat_lt 8 (length bs)) (Some (Count (length bs))) (bad_byte 0 bs))

abbrev pub Judged : ℕ → List ℕ → Result Frame Refusal → Type 0
Judged n bs (Ok f) = (bad_letter n bs ≡ None) × (contents f ≡ (n, bs))
Judged n bs (Err x) = bad_letter n bs ≡ Some x

abbrev pub refusal_number : Refusal → ℕ
refusal_number Name = 1
refusal_number (Count n) = 1
refusal_number (Byte i) = 1
refusal_number (Unreadable line) = 4

abbrev pub refusal_place : Refusal → ℕ
refusal_place Name = 0
refusal_place (Count n) = n
refusal_place (Byte i) = i
refusal_place (Unreadable line) = line
