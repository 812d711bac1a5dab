-- A turn recovers one more huge frame, and past the last one all is recovered. Assumes nothing.
use Rattle.std.proofs.Common.{arith}
use Rattle.rules.specs.State.{mem}
use Rattle.rules.proofs.Present.{last_low}
use Rattle.recover.proofs.Totals.{mend_start, mend_more, mend_asked, totals_low, recovers, refuses}
use Rattle.recover.proofs.all.Goals as goal

pub returns-then-is_blocked : goal.returns-then-is_blocked
returns-then-is_blocked c = refuses _ _ _ _ _ c.is_blocked.ensures c.if-is_blocked.true

pub loop-x-init : goal.loop-x-init
loop-x-init c = mend_start (mem _ _)

pub mend-mended-requires : goal.mend-mended-requires
mend-mended-requires c =
    mend_asked c.args.h.within _ _ c.requires c.frame_huge-x-end.ensures c.loop-x.invariant c.loop-x-test.true

-- after a turn the totals are still at most the huge frames passed
pub overflow_add-total : goal.overflow_add-total
overflow_add-total c =
    let low = totals_low _ (mend_more _ c.loop-x.invariant c.args.h.within c.loop-x-test.true c.mend-mended.ensures) in
    omega (arith, last_low c.requires c.frame_huge-x-end.ensures, low.0)

pub overflow_add-total-in-loop-x : goal.overflow_add-total-in-loop-x
overflow_add-total-in-loop-x c =
    let low = totals_low _ (mend_more _ c.loop-x.invariant c.args.h.within c.loop-x-test.true c.mend-mended.ensures) in
    omega (arith, last_low c.requires c.frame_huge-x-end.ensures, low.1)

pub loop-x-preserved : goal.loop-x-preserved
loop-x-preserved c = mend_more _ c.loop-x.invariant c.args.h.within c.loop-x-test.true c.mend-mended.ensures

pub returns : goal.returns
returns c =
    recovers c.args.h.within _ _ c.requires c.frame_huge-x-end.ensures c.is_blocked.ensures c.if-is_blocked.false c.loop-x.invariant
    c.loop-x-test.false
