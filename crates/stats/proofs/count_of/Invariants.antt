-- The sum counts the entries so far. Assumes nothing.
use Rattle.std.proofs.Common.{eqb}
use Rattle.base.proofs.Walks.{CountAt}
use Rattle.rules.specs.State.{entry_of}
use Rattle.stats.proofs.count_of.Given as goal

abbrev pub invariant-loop-x : goal.invariant-loop-x
invariant-loop-x l = CountAt (λ i. eqb (entry_of l.entries i) l.v) l.k l.x l.sum
