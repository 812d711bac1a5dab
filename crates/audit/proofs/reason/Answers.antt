-- Absent, with the mark, or with a count. Assumes nothing.
use Rattle.std.proofs.Common.{arith}
use Rattle.rules.proofs.Lent.{present_rows}
use Rattle.rules.proofs.Needed.{frames_word, entry_low}
use Rattle.audit.proofs.Cases.{absent_told, present_marked, present_counted}
use Rattle.audit.proofs.reason.Goals as goal

pub huge_frame-requires : goal.huge_frame-requires
huge_frame-requires c =
    let low = entry_low c.requires.1.0 c.args.h.within c.requires.1.1 in
    frames_word c.args.h.within (omega arith)

pub marked_reason-requires : goal.marked_reason-requires
marked_reason-requires c =
    (entry_low c.requires.1.0 c.args.h.within c.requires.1.1, present_rows c.args.h.within c.requires.1.0 c.args.x (rw c.huge_frame.ensures at c.if-n-huge_frame.false))

pub counted_reason-requires : goal.counted_reason-requires
counted_reason-requires c =
    (entry_low c.requires.1.0 c.args.h.within c.requires.1.1, present_rows c.args.h.within c.requires.1.0 c.args.x (rw c.huge_frame.ensures at c.if-n-huge_frame.false))

pub returns-then-n-huge_frame : goal.returns-then-n-huge_frame
returns-then-n-huge_frame c = absent_told _ _ _ _ c.huge_frame.ensures c.if-n-huge_frame.true c.then_some.ensures

pub returns-then-entry : goal.returns-then-entry
returns-then-entry c =
    present_marked _ _ _ _ c.huge_frame.ensures c.if-n-huge_frame.false c.if-entry.true c.marked_reason.ensures

pub returns-else-entry : goal.returns-else-entry
returns-else-entry c =
    present_counted _ _ _ _ c.huge_frame.ensures c.if-n-huge_frame.false c.if-entry.false c.counted_reason.ensures
