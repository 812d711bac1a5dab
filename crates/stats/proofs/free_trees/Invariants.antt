-- The sum counts the free trees below y. Assumes nothing.
use Rattle.std.proofs.Common.{◌*◌, eqb}
use Rattle.base.proofs.Walks.{CountAt}
use Rattle.rules.specs.Queries.{free_in}
use Rattle.stats.proofs.free_trees.Given as goal

abbrev pub invariant-loop-y : goal.invariant-loop-y
invariant-loop-y l = CountAt (λ i. eqb (free_in l.entries l.t (i * l.t)) l.frames) l.k l.y l.sum
