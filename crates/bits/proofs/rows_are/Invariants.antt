-- Each row before this one is x.
use Rattle.std.proofs.Common.{eqb, length, get_or}
use Rattle.base.proofs.Walks.{AllAt}
use Rattle.bits.proofs.rows_are.Given as goal

abbrev pub invariant-loop-row : goal.invariant-loop-row
invariant-loop-row l = AllAt (λ j. eqb (get_or l.rows j 0) l.x) (length l.rows) l.row-index
