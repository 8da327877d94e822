-- The two bytes in front have a low bit, the identifier's 11 bits and the length's 4 (`header`), and the low bit changes nothing.
use Rattle.std.proofs.Common.{◌≡◌, ℕ, ◌+◌, ◌*◌, ◌/◌, ◌%◌, Bool, false, List, ◌∷◌, ◌++◌, length, sym, ap, ◌∙◌, ap₂, append_assoc, arith}
use Rattle.bits.proofs.BitLaws.{bits_of-add, bits_of-mod, bits_of_join, bits_of-suc}
use Rattle.bits.proofs.CrcLaws.{crc_from-++, crc_low_front}
use Rattle.bits.specs.Bits.{bits_of, bytes_bits}
use Rattle.bits.specs.Crc.{crc, crc_from, covered}
use Rattle.bits.proofs.crc.frame_crc.Goals as goal

regroup : (a b c d : List Bool) → a ++ ((b ++ c) ++ d) ≡ (a ++ b) ++ (c ++ d)
regroup a b c d = simp append_assoc

header : (id n : ℕ) (bs : List Bool)
    → bits_of 8 (id % 2048 / 16) ++ (bits_of 8 (id % 2048 % 16 * 16 + n % 16) ++ bs) ≡ false ∷ (bits_of 11 id ++ (bits_of 4 n ++ bs))
header id n bs =
    ap (λ cs. bits_of 8 (id % 2048 / 16) ++ (cs ++ bs)) second
    ∙ regroup (bits_of 8 (id % 2048 / 16)) (bits_of 4 (id % 2048)) (bits_of 4 n) bs
    ∙ ap (λ cs. cs ++ (bits_of 4 n ++ bs)) front
  where
    second : bits_of 8 (id % 2048 % 16 * 16 + n % 16) ≡ bits_of 4 (id % 2048) ++ bits_of 4 n
    second = bits_of_join 4 4 (id % 2048 % 16) (n % 16) (omega arith) ∙ ap₂ ◌++◌ (bits_of-mod 4 (id % 2048)) (bits_of-mod 4 n)

    front : bits_of 8 (id % 2048 / 16) ++ bits_of 4 (id % 2048) ≡ false ∷ bits_of 11 id
    front = sym (bits_of-add 8 4 (id % 2048)) ∙ bits_of-suc 11 (id % 2048) (omega arith) ∙ ap (λ cs. false ∷ cs) (bits_of-mod 11 id)

pub returns : goal.returns
unfolding covered
returns c =
    c.push_bytes.ensures
    ∙ ap (λ x. crc_from x bytes) c.push_byte-2.ensures
    ∙ ap (λ x. crc_from (crc_from x second) bytes) c.push_byte.ensures
    ∙ ap (λ x. crc_from (crc_from (crc_from x first) second) bytes) c.new.ensures
    ∙ sym (crc_from-++ 0 first (second ++ bytes) ∙ crc_from-++ (crc_from 0 first) second bytes)
    ∙ ap crc (header c.args.id (length c.args.data.now) bytes)
    ∙ crc_low_front _
  where
    first : List Bool
    first = bits_of 8 (c.args.id % 2048 / 16)

    second : List Bool
    second = bits_of 8 (c.args.id % 2048 % 16 * 16 + length c.args.data.now % 16)

    bytes : List Bool
    bytes = bytes_bits c.args.data.now
