-- Adding without carrying turns bits.
use Rattle.bits.proofs.BitLaws.{bits_of-xor}
use Rattle.bits.proofs.laws.xor_turns.Goals as goal

pub returns : goal.returns
returns c = bits_of-xor
