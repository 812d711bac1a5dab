-- The rows and the entries that N needs, told by the last huge frame. Assumes nothing.
use Rattle.rules.proofs.Numbers.{tree_pos}
use Rattle.refuse.proofs.Refusals.{rows_short, entries_short, both_lent}
use Rattle.refuse.proofs.lent.Goals as goal
use Rattle.refuse.proofs.lent.Goals.{then-row_huge-last-via-then-row_huge-last, then-row_huge-last-via-else-row_huge-last+then-entries-last}

pub overflow_sub-t : goal.overflow_sub-t
overflow_sub-t c = tree_pos _ c.args.t.within

pub returns-then-row_huge-last : goal.returns-then-row_huge-last
returns-then-row_huge-last c =
    elim c.then-row_huge-last.branch [
      | then-row_huge-last-via-then-row_huge-last w ↦ rows_short _ _ _ _ c.args.h.within c.requires c.args.t.within c.frame_huge-last.ensures c.row_huge.ensures w.if-row_huge-last.true
      | then-row_huge-last-via-else-row_huge-last+then-entries-last w ↦
          entries_short _ _ _ _ c.args.h.within c.requires c.args.t.within c.frame_huge-last.ensures c.row_huge.ensures w.if-row_huge-last.false w.if-entries-last.true
    ]

pub returns : goal.returns
returns c =
    both_lent _ _ _ _ c.args.h.within c.requires c.args.t.within c.frame_huge-last.ensures c.row_huge.ensures c.if-row_huge-last.false c.if-entries-last.false
