-- A quotient by one is the number itself.
use Rattle.std.proofs.Common.{◌%◌, eqb, sym, ap, div-one}
use Rattle.bits.specs.Bits.{bit_at}
use Rattle.reader.proofs.reading.is_high.Goals as goal

pub returns : goal.returns
unfolding bit_at
returns c = ap (λ x. eqb (x % 2) 1) (sym (div-one c.args.bit))
