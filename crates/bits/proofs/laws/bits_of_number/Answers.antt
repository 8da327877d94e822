-- The bits of a number that was read are those that were read, with nothing read before them.
use Rattle.bits.proofs.NumberLaws.{bits_of-number_from}
use Rattle.bits.proofs.laws.bits_of_number.Goals as goal

pub returns : goal.returns
returns c = bits_of-number_from 0
