-- The entries of the frame's tree are lent. Assumes nothing.
use Rattle.std.proofs.Common.{refl, arith}
use Rattle.rules.proofs.Numbers.{tree_high}
use Rattle.rules.proofs.Trees.{top_low}
use Rattle.stats.proofs.Cases.{tree_counted}
use Rattle.stats.proofs.at_tree.Goals as goal

pub blocks-frames-requires : goal.blocks-frames-requires
blocks-frames-requires c =
    (rw c.tree_first-first.ensures c.requires, omega (arith, tree_high _ c.args.t.within), omega arith)

pub blocks-requires : goal.blocks-requires
blocks-requires c =
    (rw c.tree_first-first.ensures c.requires, omega (arith, tree_high _ c.args.t.within), omega (arith, c.args.h.within.high))

pub overflow_shr-result : goal.overflow_shr-result
overflow_shr-result c = omega (arith, c.top_order.ensures, top_low _ c.args.t.within refl c.args.h.within)

pub returns : goal.returns
returns c =
    tree_counted _ _ _ c.args.t.within c.tree_first-first.ensures c.top_order.ensures c.args.entries.now c.blocks-frames.ensures c.blocks-2.ensures
