-- Each order has its place. Assumes nothing.
use Rattle.std.proofs.Common.{refl, arith}
use Rattle.std.proofs.Math.Nat.{zero-add}
use Rattle.base.specs.Walk.{written}
use Rattle.base.proofs.Written.{written_more}
use Rattle.rules.proofs.Lent.{frame_tree}
use Rattle.rules.specs.Room as spec
use Rattle.room.proofs.Rooms.{room_filled}
use Rattle.room.proofs.counts.Goals as goal

pub at_order-requires : goal.at_order-requires
at_order-requires c = (c.top_order-top.ensures, rw c.tree_first-at.ensures (frame_tree c.args.h.within c.requires.0.2))

pub loop-order-init : goal.loop-order-init
unfolding written
loop-order-init c = refl

pub loop-order-preserved : goal.loop-order-preserved
loop-order-preserved c =
    let s = c.args in
    rw (c.loop-order.invariant, c.at_order.ensures)
    (rw zero-add at (written_more (spec.room_at s.h.order s.t.huge s.entries.now c.tree_first-at.result) s.counts.now 0 c.loop-order.order))

pub returns : goal.returns
returns c = room_filled _ _ _ _ c.requires.1 c.tree_first-at.ensures c.loop-order.invariant (omega arith)
