-- The test in the code is the definition.
use Rattle.std.proofs.Common.{refl}
use Rattle.bits.specs.Bits.{bit_at}
use Rattle.bits.proofs.crc.Crc.highest.Goals as goal

pub returns : goal.returns
unfolding bit_at
returns c = refl
