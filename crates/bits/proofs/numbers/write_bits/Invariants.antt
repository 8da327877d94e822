-- The places from i on have the lowest bits of x, and the rest of x is what counts above them.
use Rattle.std.proofs.Common.{◌≡◌, ◌-◌, ◌/◌, ◌^◌, length, drop}
use Rattle.bits.specs.Bits.{bits_of}
use Rattle.bits.proofs.numbers.write_bits.Given as goal

abbrev pub invariant-loop-i : goal.invariant-loop-i
invariant-loop-i l =
    (drop l.i l.out ≡ bits_of (length l.initial.out - l.i) l.x)
    × (l.rest ≡ l.x / 2 ^ (length l.initial.out - l.i))
