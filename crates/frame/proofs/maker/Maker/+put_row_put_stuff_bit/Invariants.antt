-- Each bit of the fields is put by one call of the maker of rows, and followed by one of the maker of stuff bits.
use Rattle.std.proofs.Common.{◌+◌, ◌*◌, length}
use Rattle.frame.specs.Making.{left}
use Rattle.frame.proofs.maker.Maker.+put_row_put_stuff_bit.Given as goal

abbrev pub decreases-put_row : goal.decreases-put_row
decreases-put_row l = 2 * length (left l.self.now)

abbrev pub decreases-put_stuff_bit : goal.decreases-put_stuff_bit
decreases-put_stuff_bit l = 2 * length (left l.self.now) + 1
