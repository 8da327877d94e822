-- Reading back the bits of a number gives its remainder.
use Rattle.bits.proofs.NumberLaws.{number-bits_of}
use Rattle.bits.proofs.laws.number_of_bits.Goals as goal

pub returns : goal.returns
returns c = number-bits_of
