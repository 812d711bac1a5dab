-- The block's entry is lent, and its bits may be turned. Assumes nothing.
use native.Mathlib.Omega.{arith}
use borrow.Author.Rules.{rules}
use Rattle.rules.proofs.Below.{entry_lent, turn_asked}
use Rattle.small.proofs.get_at.Goals as goal

pub bounds-entries-x : goal.bounds-entries-x
bounds-entries-x c = entry_lent c.args.h.within c.requires.0 c.requires.1.2 c.frame_huge-x.ensures

pub toggle-requires : goal.toggle-requires
toggle-requires c = turn_asked c.args.h.within c.requires.0 c.requires.1.2

pub lower-requires : goal.lower-requires
lower-requires c = (search rules, entry_lent c.args.h.within c.requires.0 c.requires.1.2 c.frame_huge-x.ensures, omega (arith, c.size.ensures, c.if-entry-size.false))
