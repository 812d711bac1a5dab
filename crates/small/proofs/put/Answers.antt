-- The block's entry is lent. Assumes nothing.
use Rattle.rules.proofs.Below.{entry_lent}
use Rattle.small.proofs.put.Goals as goal

pub bounds-entries-frame_huge : goal.bounds-entries-frame_huge
bounds-entries-frame_huge c = entry_lent c.args.h.within c.requires.0 c.requires.1.2 c.frame_huge.ensures
