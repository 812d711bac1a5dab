-- The groups of the start row's tree are visited in turn, and the test on each tells whether it is the first that is free. Assumes nothing.
use mathlib.Core.Path.{refl, sym, ◌∙◌}
use native.Mathlib.Omega.{arith}
use Rattle.base.proofs.Walks.{first_start, first_found, first_more, first_none}
use Rattle.rules.proofs.Numbers.{huge_by_rows}
use Rattle.rules.proofs.GroupSteps.{tree_low, tree_groups, groups_are, group_starts, group_ends, group_next, group_wraps}
use Rattle.rules.proofs.GroupCases.{get_found, get_none}
use Rattle.huge.proofs.get.Goals as goal
use Rattle.huge.proofs.get.Goals.{then-at-end, else-at-end}

pub overflow_add-end : goal.overflow_add-end
overflow_add-end c =
    omega (arith, tree_low c.args.h.within c.requires.1.1 _ _ _ _ c.log-k.ensures c.row_huge-x.ensures c.huge_tree.ensures c.tree_huge-first.ensures)

pub loop-j-init : goal.loop-j-init
loop-j-init c =
    let wide = c.size-g.ensures in
    let tree = tree_groups c.args.h.within c.requires.1.1 _ _ _ _ c.log-k.ensures c.row_huge-x.ensures c.huge_tree.ensures c.tree_huge-first.ensures c.requires.0 _ _ wide c.size-groups.ensures in
    record {
      wide = wide;
      huge = c.row_huge-x.ensures ∙ huge_by_rows _ c.args.h.within;
      tree = tree;
      kept = refl;
      here = rw (c.huge_child.ensures, ← wide) (group_starts tree);
      passed = first_start _ _;
    }

-- each group ends in the tree, so its entries are lent
pub are-requires : goal.are-requires
are-requires c = let i = c.loop-j.invariant in rw i.kept (omega (arith, group_ends i.tree _ _ i.here, i.tree.ends))

pub take-requires : goal.take-requires
take-requires c =
    let i = c.loop-j.invariant in
    let ends = group_ends i.tree _ _ i.here in
    (rw i.kept (omega (arith, ends, i.tree.ends)), omega (arith, ends, i.tree.low))

pub returns-then-are : goal.returns-then-are
returns-then-are c =
    let i = c.loop-j.invariant in
    let free = sym (rw (c.whole-free.ensures, i.kept, i.here) at c.are.ensures) ∙ c.if-are.true in
    get_found _ _ _ _ _ _ _ _ _ _ i.wide i.huge (groups_are i.tree) (first_found _ _ _ i.passed c.loop-j-test.true free) c.loop-j-test.true
    (rw (i.kept, i.here) at c.take.ensures)

pub loop-j-preserved : goal.loop-j-preserved
loop-j-preserved c =
    let i = c.loop-j.invariant in
    let taken = sym (rw (c.whole-free.ensures, i.kept, i.here) at c.are.ensures) ∙ c.if-are.false in
    record {
      wide = i.wide;
      huge = i.huge;
      tree = i.tree;
      kept = i.kept;
      here =
          elim c.if-at-end.branch [
            | then-at-end w ↦ rw w.at-is (group_wraps i.tree _ _ i.here w.if-at-end.true)
            | else-at-end w ↦ rw w.at-is (group_next i.tree _ _ i.here w.if-at-end.false)
          ];
      passed = first_more _ _ _ i.passed c.loop-j-test.true taken;
    }

pub returns : goal.returns
returns c =
    let i = c.loop-j.invariant in
    rw i.kept
    (get_none _ _ _ _ _ _ _ _ _ _ i.wide i.huge (groups_are i.tree) (first_none _ _ _ i.passed c.loop-j-test.false) c.loop-j-test.false)
