-- The rows before this one are written, and a and e are counted from it on.
use Rattle.base.specs.Bits.{with_bits}
use Rattle.bits.proofs.Writing.{WriteAt}
use Rattle.bits.proofs.write.Given as goal

abbrev pub invariant-loop-row : goal.invariant-loop-row
invariant-loop-row l = WriteAt l.b (with_bits l.b l.fn.rows l.start l.end) l.rows l.a l.e l.row-index
