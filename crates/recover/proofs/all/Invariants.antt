-- The huge frames before x are recovered, the others are as they were, and the totals are those that differ. Assumes nothing.
use Rattle.rules.specs.State.{mem}
use Rattle.recover.proofs.Totals.{MendAt}
use Rattle.recover.proofs.all.Given as goal

abbrev pub invariant-loop-x : goal.invariant-loop-x
invariant-loop-x l = MendAt l.h.order (mem l.fn.rows l.fn.entries) l.x-end l.rows l.entries l.total.entries l.total.bitfields l.x
