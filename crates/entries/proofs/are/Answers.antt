-- An entry that is not v ends the walk, and where there is none all of them are.
use Rattle.std.proofs.Common.{sym, arith, eq-eqb}
use borrow.Author.Count.{below_more}
use borrow.Author.Tests.{ne_eqb}
use Rattle.base.proofs.Walks.{all_of, all_not}
use Rattle.entries.proofs.are.Goals as goal

pub returns-then-entries-i : goal.returns-then-entries-i
returns-then-entries-i c = sym (all_not _ _ _ c.loop-i.i (omega arith) c.loop-i-test.true (ne_eqb _ _ c.if-entries-i.true))

pub loop-i-preserved : goal.loop-i-preserved
loop-i-preserved c = below_more _ _ c.loop-i.invariant (λ a. c.if-entries-i.false)

pub returns : goal.returns
returns c = sym (all_of _ _ _ (λ k lo hi. eq-eqb _ _ (c.loop-i.invariant k (omega arith) lo)))
