-- Some frame of the block is free; all are held, from the huge order up singly or whole. Assumes nothing.
use Rattle.rules.proofs.GroupSteps.{group_lent}
use Rattle.why.proofs.Cases.{put_free, put_small, put_single, put_whole}
use Rattle.why.proofs.put.Goals as goal

pub returns-in-Some : goal.returns-in-Some
returns-in-Some c n l = put_free _ n _ _ _ l c.in-Some.ensures

pub returns-then-order-h : goal.returns-then-order-h
returns-then-order-h c n l = put_small _ n _ _ _ l c.in_default.ensures c.if-order-h.true

pub first_unmarked-requires : goal.first_unmarked-requires
first_unmarked-requires c = group_lent c.args.h.within c.if-order-h.false c.requires.2 c.frame_huge.ensures c.size.ensures

pub returns-in_err-x : goal.returns-in_err-x
returns-in_err-x c n l =
    rw c.from_residual.ensures
    (put_whole _ n _ _ _ l c.in_default.ensures c.if-order-h.false c.frame_huge.ensures c.size.ensures c.in_err-x.ensures)

pub returns : goal.returns
returns c n l =
    put_single _ n _ _ _ l c.in_default.ensures c.if-order-h.false c.frame_huge.ensures c.size.ensures c.in_ok-x.ensures c.huge_frame.ensures
