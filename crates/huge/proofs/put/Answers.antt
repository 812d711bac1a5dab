-- The entries of the group are lent. Assumes nothing.
use Rattle.rules.proofs.GroupSteps.{group_lent}
use Rattle.huge.proofs.put.Goals as goal

pub are-requires : goal.are-requires
are-requires c = group_lent c.args.h.within c.requires.0 c.requires.1.3 c.frame_huge-at.ensures c.size-g.ensures

pub fill-requires : goal.fill-requires
fill-requires c = group_lent c.args.h.within c.requires.0 c.requires.1.3 c.frame_huge-at.ensures c.size-g.ensures
