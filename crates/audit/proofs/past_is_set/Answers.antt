-- A huge frame that ends by N has no bit past it, and another's end with its rows. Assumes nothing.
use Rattle.std.proofs.Common.{sym, ◌∙◌}
use Rattle.std.proofs.Math.Nat.{sub-zero}
use borrow.Author.Tests.{le-leb}
use Rattle.rules.proofs.ClearBits.{none_past, past_asked, past_by_rows}
use Rattle.audit.proofs.past_is_set.Goals as goal

pub rest_is_set-requires : goal.rest_is_set-requires
rest_is_set-requires c =
    rw sub-zero at
    (past_asked c.args.h.within c.args.rows.now c.args.n c.args.x _ c.requires.1 c.huge_row.ensures c.requires.0
    (rw c.huge_frame.ensures at c.if-huge_frame-n.false))

pub returns-then-huge_frame-n : goal.returns-then-huge_frame-n
returns-then-huge_frame-n c =
    let l = c.if-huge_frame-n.true in
    le-leb _ _ l ∙ sym (none_past _ _ _ (rw c.huge_frame.ensures at l))

pub returns-else-huge_frame-n : goal.returns-else-huge_frame-n
returns-else-huge_frame-n c =
    c.rest_is_set.ensures
    ∙ rw sub-zero at
    (past_by_rows c.args.h.within c.args.rows.now c.args.n c.args.x _ c.requires.1 c.huge_row.ensures
    (rw c.huge_frame.ensures at c.if-huge_frame-n.false))
