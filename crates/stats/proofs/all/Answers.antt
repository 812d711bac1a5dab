-- Trees of more than one huge frame are summed each, others counted as huge frames. Assumes nothing.
use Rattle.std.proofs.Common.{◌∙◌, ◌^◌, ℕ, ap, arith}
use Rattle.rules.proofs.Numbers.{tree_high}
use Rattle.rules.proofs.Needed.{needed_trees, trees_lent, entries_few}
use Rattle.stats.proofs.Cases.{all_of_trees, all_of_one}
use Rattle.stats.proofs.all.Goals as goal

-- the needed entries are lent, and few enough to be summed in 32 bits and counted in 16
pub blocks-frames-requires : goal.blocks-frames-requires
blocks-frames-requires c =
    let needed = c.entries_needed-needed.ensures in
    (omega (arith, needed, c.requires.1.entries), omega (arith, needed, entries_few c.requires.1 c.args.h.within), omega arith)

pub count_of-huge-requires : goal.count_of-huge-requires
count_of-huge-requires c = rw c.entries_needed-needed.ensures (c.requires.1.entries, entries_few c.requires.1 c.args.h.within)

pub free_trees_by_size-trees-requires : goal.free_trees_by_size-trees-requires
free_trees_by_size-trees-requires c =
    let s = c.requires.1 in
    (trees_lent s c.log.ensures c.entries_needed-needed.ensures c.huge_tree.ensures, tree_high _ s.tree)

pub returns-then-t-eq1 : goal.returns-then-t-eq1
returns-then-t-eq1 c =
    all_of_one c.requires.1 c.entries_needed-needed.ensures c.args.entries.now c.blocks-frames.ensures c.count_of-huge.ensures c.whole.ensures
    c.args.h.within c.if-t-eq1.true

pub returns-else-t-eq1 : goal.returns-else-t-eq1
returns-else-t-eq1 c =
    all_of_trees c.requires.1 c.entries_needed-needed.ensures c.args.entries.now c.blocks-frames.ensures c.count_of-huge.ensures c.whole.ensures
    c.free_trees_by_size-trees.ensures (c.size.ensures ∙ ap (λ (o : ℕ). 2 ^ o) c.top_order.ensures)
    (needed_trees c.requires.1 c.log.ensures c.entries_needed-needed.ensures c.huge_tree.ensures)
