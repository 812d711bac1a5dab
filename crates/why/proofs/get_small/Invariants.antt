-- The cause is that of the entries passed, and none of them has a block. Assumes nothing.
use Rattle.rules.specs.State.{mem}
use Rattle.why.proofs.Searches.{SmallAt}
use Rattle.why.proofs.get_small.Given as goal

abbrev pub invariant-loop-x : goal.invariant-loop-x
invariant-loop-x l = SmallAt l.h.order l.fn.t.huge (mem l.rows l.entries) l.first l.order l.cause l.x
