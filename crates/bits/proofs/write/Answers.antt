-- A row is written from the parts of a and e that lie in it; past the last row nothing is left.
use Rattle.std.proofs.Common.{arith}
use Rattle.bits.proofs.Writing.{write_more, write_end}
use Rattle.bits.proofs.write.Goals as goal

pub loop-row-preserved : goal.loop-row-preserved
loop-row-preserved c = write_more c.loop-row.invariant (omega arith) c.min-lo.ensures c.min-hi.ensures c.overlay_row.ensures

pub returns : goal.returns
returns c = write_end c.loop-row.invariant (omega arith)
