-- What is left of the bits brings the number, which fits 64 bits, to what all of them write.
use Rattle.std.proofs.Common.{◌≡◌, ◌^◌, ◌<◌, drop}
use Rattle.bits.specs.Number.{number, number_from}
use Rattle.bits.proofs.numbers.number_of.Given as goal

abbrev pub invariant-loop-b : goal.invariant-loop-b
invariant-loop-b l = (number_from l.number (drop l.b-index l.bits) ≡ number l.bits) × (l.number < 2 ^ 64)
