-- The block's entry is lent, and its bits may be turned. Assumes nothing.
use native.Mathlib.Omega.{arith}
use lib.Pow.{pow-lt}
use borrow.Author.Rules.{rules}
use Rattle.base.proofs.Sizes.{frames_fit}
use Rattle.rules.proofs.Below.{entry_lent, turn_asked}
use Rattle.small.proofs.put_counted.Goals as goal

pub overflow_sub-whole : goal.overflow_sub-whole
overflow_sub-whole c = omega (arith, c.size.ensures, c.whole.ensures, pow-lt c.requires.0)

pub bounds-entries-x : goal.bounds-entries-x
bounds-entries-x c = entry_lent c.args.h.within c.requires.0 c.requires.1.2 c.frame_huge-x.ensures

pub toggle-requires : goal.toggle-requires
toggle-requires c = turn_asked c.args.h.within c.requires.0 c.requires.1.2

pub raise-requires : goal.raise-requires
raise-requires c =
    (search rules, entry_lent c.args.h.within c.requires.0 c.requires.1.2 c.frame_huge-x.ensures, omega (arith, c.if-whole-size.false, c.size.ensures, c.whole.ensures, pow-lt c.requires.0, frames_fit c.args.h.within))
