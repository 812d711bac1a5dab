-- Each order's rule, in their order. Assumes nothing.
use Rattle.std.proofs.Common.{arith}
use Rattle.rules.proofs.Numbers.{rows_cover}
use Rattle.rules.proofs.Lent.{frame_entry, frame_tree}
use Rattle.stats.proofs.Cases.{by_frame, by_huge, by_tree, by_none}
use Rattle.stats.proofs.at.Goals as goal

pub at_frame-requires : goal.at_frame-requires
at_frame-requires c =
    let b = c.requires.1 in
    (frame_entry c.args.h.within b, omega (arith, b.sized.rows, rows_cover _ _ c.args.h.within b.below))

pub free_of-frames-requires : goal.free_of-frames-requires
free_of-frames-requires c = frame_entry c.args.h.within c.requires.1

pub at_tree_by_size-requires : goal.at_tree_by_size-requires
at_tree_by_size-requires c = frame_tree c.args.h.within c.requires.1

pub returns-then-order-eq0 : goal.returns-then-order-eq0
returns-then-order-eq0 c = by_frame _ _ _ _ _ c.if-order-eq0.true c.at_frame.ensures

pub returns-then-order-h : goal.returns-then-order-h
returns-then-order-h c = by_huge c.args.h.order _ _ _ _ c.if-order-eq0.false c.if-order-h.true c.free_of-frames.ensures

pub returns-then-order-top_order : goal.returns-then-order-top_order
returns-then-order-top_order c =
    by_tree _ _ _ _ _ c.if-order-eq0.false c.if-order-h.false c.top_order.ensures c.if-order-top_order.true (c.at_tree_by_size.ensures c.args.rows.now)

pub returns-else-order-top_order : goal.returns-else-order-top_order
returns-else-order-top_order c =
    by_none _ _ _ _ _ c.if-order-eq0.false c.if-order-h.false c.top_order.ensures c.if-order-top_order.false
