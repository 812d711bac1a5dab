-- The bit is that of the frame in its row. Assumes nothing.
use Rattle.base.specs.Bits.{bit_is}
use Rattle.stats.proofs.is_clear.Goals as goal

pub returns : goal.returns
unfolding bit_is
returns c = rw (c.frame_row.ensures, c.frame_bit.ensures)
