-- The loop is the walk `all` over the rows.
use Rattle.std.proofs.Common.{eq-eqb}
use borrow.Author.Tests.{ne_eqb}
use Rattle.base.proofs.Walks.{all_start, all_broken, all_more, all_end}
use Rattle.bits.proofs.rows_are.Goals as goal

pub loop-row-init : goal.loop-row-init
loop-row-init c = all_start _ _

pub returns-then-row-x : goal.returns-then-row-x
returns-then-row-x c = all_broken _ _ _ c.loop-row.invariant c.loop-row-test.true (ne_eqb _ _ c.if-row-x.true)

pub loop-row-preserved : goal.loop-row-preserved
loop-row-preserved c = all_more _ _ _ c.loop-row.invariant c.loop-row-test.true (eq-eqb _ _ c.if-row-x.false)

pub returns : goal.returns
returns c = all_end _ _ _ c.loop-row.invariant c.loop-row-test.false
