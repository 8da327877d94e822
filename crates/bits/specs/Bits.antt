-- Bits of numbers, by quotient and remainder, the highest bit first. A low bit is false, a high one true.
-- Assumes nothing: these are definitions.
--
--   bit b              the number 0 or 1 that a bit is
--   bit_at x k         the bit of x that counts 2 ^ k
--   bits_of n x        the n lowest bits of x, the highest of them first
--   bytes_bits xs      the bits of bytes, eight of each, one byte behind the other
--   differ a b         whether two bits are unlike
--   turned us vs       the bits us, each turned where vs has a high bit; as long as the shorter
use Rattle.std.specs.Prelude.{ℕ, zero, suc, ◌/◌, ◌%◌, ◌^◌, Bool, true, false, not, List, [], ◌∷◌, ◌++◌, ◌==◌}

unfoldable pub bit : Bool → ℕ
bit true = 1
bit false = 0

unfoldable pub bit_at : ℕ → ℕ → Bool
bit_at x k = x / 2 ^ k % 2 == 1

unfoldable pub bits_of : ℕ → ℕ → List Bool
bits_of zero x = []
bits_of (suc n) x = bit_at x n ∷ bits_of n x

unfoldable pub bytes_bits : List ℕ → List Bool
bytes_bits [] = []
bytes_bits (x ∷ xs) = bits_of 8 x ++ bytes_bits xs

unfoldable pub differ : Bool → Bool → Bool
differ true b = not b
differ false b = b

unfoldable pub turned : List Bool → List Bool → List Bool
turned [] vs = []
turned (u ∷ us) [] = []
turned (u ∷ us) (v ∷ vs) = differ u v ∷ turned us vs
