-- An entry that is v is one more. Assumes nothing.
use borrow.Author.Tests.{eq-eqb, ne_eqb}
use Rattle.base.proofs.Walks.{count_start, count_hit, count_miss}
use Rattle.stats.proofs.count_of.Goals as goal
use Rattle.stats.proofs.count_of.Goals.{then-entries-x, else-entries-x}

pub loop-x-init : goal.loop-x-init
loop-x-init c = count_start

pub loop-x-preserved : goal.loop-x-preserved
loop-x-preserved c =
    elim c.if-entries-x.branch [
      | then-entries-x w ↦ rw w.sum-is (count_hit c.loop-x.invariant c.loop-x-test.true (eq-eqb _ _ w.if-entries-x.true))
      | else-entries-x w ↦ rw w.sum-is (count_miss c.loop-x.invariant c.loop-x-test.true (ne_eqb _ _ w.if-entries-x.false))
    ]
