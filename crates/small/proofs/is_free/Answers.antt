-- The block's entry is lent, and its bits may be asked. Assumes nothing.
use mathlib.Core.Path.{refl}
use Rattle.rules.proofs.Below.{entry_lent, block_asked}
use Rattle.small.proofs.is_free.Goals as goal

pub bounds-entries-frame_huge : goal.bounds-entries-frame_huge
bounds-entries-frame_huge c = entry_lent c.args.h.within c.requires.0 c.requires.1.2 c.frame_huge.ensures

pub block_is-requires : goal.block_is-requires
block_is-requires c = block_asked c.args.h.within c.requires.0 c.requires.1.2 refl
