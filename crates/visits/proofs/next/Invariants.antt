-- No visit from the one after j others up to that after i has an eligible entry.
use Rattle.base.proofs.Walks.{FirstFrom}
use Rattle.visits.proofs.Skips.{eligible_at}
use Rattle.visits.proofs.next.Given as goal

abbrev pub invariant-loop-i : goal.invariant-loop-i
invariant-loop-i l = FirstFrom (eligible_at l.t.huge l.entries l.x l.order) l.t.huge l.j l.i
