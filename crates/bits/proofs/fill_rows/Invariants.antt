-- The rows before this one are x, and the others are as they were.
use Rattle.std.proofs.Common.{◌≡◌, ◌++◌, drop, replicate}
use Rattle.bits.proofs.fill_rows.Given as goal

abbrev pub invariant-loop-row : goal.invariant-loop-row
invariant-loop-row l = l.rows ≡ replicate l.row-index l.x ++ drop l.row-index l.fn.rows
