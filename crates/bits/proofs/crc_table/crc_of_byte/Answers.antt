-- The search takes the table from the code, and the test over it (`table_right`) computes to `true`.
use Rattle.bits.proofs.ByteTable.{table_at}
use Rattle.bits.specs.Bits.{bit_at, bits_of, differ}
use Rattle.bits.specs.Crc.{doubled, crc_step, crc_from}
use Rattle.std.proofs.Common.{rules}
use Rattle.bits.proofs.crc_table.crc_of_byte.Goals as goal

pub returns : goal.returns
unfolding bits_of crc_from crc_step doubled differ bit_at
returns c = search (rules, table_at)
