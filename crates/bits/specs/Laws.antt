-- What holds of bits, numbers and checks. Each is a statement, a type; src/laws.rt has a function for each, whose contract
-- is that statement, so that the crate is accepted only with its proof. Assumes nothing.
--
--   NumberOfBits       the number of the n lowest bits of x is x modulo 2 ^ n
--   BitsOfNumber       the bits of the number that bits write are these bits
--   XorTurns           adding numbers bit by bit without carrying turns the bits of one where the other has a high one
--   CrcOfOwnCheck      the check of a row with its own check's 15 bits behind it is 0
--   CrcLinear          turning bits of a row turns the check by the check of what is turned
--   CrcByBytes         from any check of 15 bits on, going byte by byte over a table gives what going bit by bit gives
--   CrcOfLowFront      a low bit in front of a row changes nothing
--   CrcOf5_1           the check of the frame 5 with the byte 1 is 11229
--   CrcOf0             the check of the frame 0 without bytes is 0
use Rattle.std.specs.Prelude.{◌≡◌, ℕ, ◌%◌, ◌^◌, ◌<◌, Bool, false, List, [], ◌∷◌, ◌++◌, length, bit_xor}
use Rattle.bits.specs.Bits.{bits_of, bytes_bits, turned}
use Rattle.bits.specs.Crc.{crc, crc_from, crc_bytes, covered}
use Rattle.bits.specs.Number.{number}

abbrev pub NumberOfBits : Type 0
NumberOfBits = (n x : ℕ) → number (bits_of n x) ≡ x % 2 ^ n

abbrev pub BitsOfNumber : Type 0
BitsOfNumber = (bs : List Bool) → bits_of (length bs) (number bs) ≡ bs

abbrev pub XorTurns : Type 0
XorTurns = (n x y : ℕ) → bits_of n (bit_xor x y) ≡ turned (bits_of n x) (bits_of n y)

abbrev pub CrcOfOwnCheck : Type 0
CrcOfOwnCheck = (bs : List Bool) → crc (bs ++ bits_of 15 (crc bs)) ≡ 0

abbrev pub CrcLinear : Type 0
CrcLinear = (us vs : List Bool) → length us ≡ length vs → crc (turned us vs) ≡ bit_xor (crc us) (crc vs)

abbrev pub CrcByBytes : Type 0
CrcByBytes = (c : ℕ) (xs : List ℕ) → c < 2 ^ 15 → crc_bytes c xs ≡ crc_from c (bytes_bits xs)

abbrev pub CrcOfLowFront : Type 0
CrcOfLowFront = (bs : List Bool) → crc (false ∷ bs) ≡ crc bs

abbrev pub CrcOf5_1 : Type 0
CrcOf5_1 = crc (covered 5 (1 ∷ [])) ≡ 11229

abbrev pub CrcOf0 : Type 0
CrcOf0 = crc (covered 0 []) ≡ 0
