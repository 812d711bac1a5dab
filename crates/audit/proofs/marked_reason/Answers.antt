-- All bits are clear exactly if the clear ones are as many as the huge frame has. Assumes nothing.
use Rattle.audit.proofs.Cases.{marked_torn, marked_clear}
use Rattle.audit.proofs.marked_reason.Goals as goal

pub returns-then-zeros-frames : goal.returns-then-zeros-frames
returns-then-zeros-frames c =
    marked_torn _ _ _ _ c.huge_frame.ensures c.if-n-huge_frame.false c.zeros.ensures c.frames.ensures c.if-zeros-frames.true

pub returns-else-zeros-frames : goal.returns-else-zeros-frames
returns-else-zeros-frames c =
    marked_clear _ _ _ _ c.huge_frame.ensures c.if-n-huge_frame.false c.zeros.ensures c.frames.ensures c.if-zeros-frames.false
