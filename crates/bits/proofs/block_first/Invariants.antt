-- No row before row j has such a bit.
use Rattle.std.proofs.Common.{◌*◌}
use Rattle.base.specs.Bits.{bit_is}
use Rattle.base.proofs.Walks.{FirstFrom}
use Rattle.bits.proofs.block_first.Given as goal

abbrev pub invariant-loop-j : goal.invariant-loop-j
invariant-loop-j l = FirstFrom (bit_is l.b l.rows) l.end l.place (l.j * 64)
