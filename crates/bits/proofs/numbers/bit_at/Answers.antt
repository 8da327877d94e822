-- A shift by a place below 128 loses nothing; at any other place the number, being below 2 ^ 128, has a low bit.
use Rattle.std.proofs.Common.{sym, ◌∙◌, lt_of_lt_of_le, pow_mono}
use Rattle.std.proofs.lemmas.Nat.{one_shl}
use Rattle.std.proofs.lemmas.Bool.{le-ltb}
use Rattle.bits.proofs.BitLaws.{bit_at_past}
use Rattle.bits.specs.Bits.{bit_at}
use Rattle.bits.proofs.numbers.bit_at.Goals as goal

pub returns-then-place-lt-BITS : goal.returns-then-place-lt-BITS
unfolding bit_at
returns-then-place-lt-BITS c = rw (one_shl c.args.place 128 c.if-place-lt-BITS.true)

pub returns-else-place-lt-BITS : goal.returns-else-place-lt-BITS
returns-else-place-lt-BITS c =
    le-ltb c.args.place 128 c.if-place-lt-BITS.false
    ∙ sym (bit_at_past c.args.x c.args.place (lt_of_lt_of_le c.ranges.x.fits (pow_mono c.if-place-lt-BITS.false)))
