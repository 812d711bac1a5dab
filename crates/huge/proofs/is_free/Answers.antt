-- The entries of the group are lent. Assumes nothing.
use Rattle.rules.proofs.GroupSteps.{group_lent}
use Rattle.huge.proofs.is_free.Goals as goal

pub are-requires : goal.are-requires
are-requires c = group_lent c.args.h.within c.requires.0 c.requires.1.3 c.frame_huge.ensures c.size.ensures
