-- The check of a row of bits, 15 bits: the cyclic redundancy check that CAN has, CRC-15.
-- Assumes nothing: these are definitions.
--
--   polynomial         17817, in bits 100010110011001: what is left of CRC-15's polynomial without its highest bit
--   doubled c          a check doubled, without what is then above 15 bits
--   crc_step c b       the check c after one bit more: b is compared with the check's highest bit; the check is doubled,
--                      and if the two were unlike, the polynomial is added bit by bit without carrying
--   crc_from c bs      the check c after the bits bs
--   crc bs             the check of the bits bs, from 0 on
--   covered id xs      what a frame's check covers: its identifier in 11 bits, how many bytes it has in 4, and the bytes
--   byte_step c x      the check c after a byte x, in one step: by the check of a single byte, of which a table has 256
--   crc_bytes c xs     the check c after bytes, a step for each
use Rattle.std.specs.Prelude.{ℕ, ◌*◌, ◌/◌, ◌%◌, ◌^◌, Bool, cond, List, [], ◌∷◌, ◌++◌, length, bit_xor}
use Rattle.bits.specs.Bits.{bit_at, bits_of, bytes_bits, differ}

abbrev pub polynomial : ℕ
polynomial = 17817

unfoldable pub doubled : ℕ → ℕ
doubled c = 2 * c % 2 ^ 15

unfoldable pub crc_step : ℕ → Bool → ℕ
crc_step c b = cond (differ b (bit_at c 14)) (bit_xor (doubled c) polynomial) (doubled c)

unfoldable pub crc_from : ℕ → List Bool → ℕ
crc_from c [] = c
crc_from c (b ∷ bs) = crc_from (crc_step c b) bs

abbrev pub crc : List Bool → ℕ
crc bs = crc_from 0 bs

unfoldable pub covered : ℕ → List ℕ → List Bool
covered id xs = bits_of 11 id ++ (bits_of 4 (length xs) ++ bytes_bits xs)

unfoldable pub byte_step : ℕ → ℕ → ℕ
byte_step c x = bit_xor (c * 2 ^ 8 % 2 ^ 15) (crc (bits_of 8 (bit_xor (c / 2 ^ 7) x)))

unfoldable pub crc_bytes : ℕ → List ℕ → ℕ
crc_bytes c [] = c
crc_bytes c (x ∷ xs) = crc_bytes (byte_step c x) xs
