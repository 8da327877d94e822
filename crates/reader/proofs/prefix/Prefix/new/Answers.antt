-- No bits are the bits of 0, and have the check 0.
use Rattle.std.proofs.Common.{refl, arith}
use Rattle.bits.specs.Bits.{bits_of}
use Rattle.bits.specs.Crc.{crc_from}
use Rattle.bits.specs.Number.{number_from}
use Rattle.reader.proofs.prefix.Prefix.new.Goals as goal

pub invariant_of-result : goal.invariant_of-result
unfolding bits_of crc_from number_from
invariant_of-result c = record { narrow = omega arith; short = omega arith; few = omega arith; counted = refl; checked = c.new.ensures }

pub returns : goal.returns
unfolding bits_of
returns c = refl
