-- T is a power of 2, so a mask takes the rest by it. Assumes nothing.
use Rattle.rules.proofs.Numbers.{tree_pos}
use Rattle.rules.proofs.GetSteps.{entry_masked}
use Rattle.visits.proofs.entry_at.Goals as goal

pub overflow_sub-child : goal.overflow_sub-child
overflow_sub-child c = tree_pos c.args.t.huge c.args.t.within

pub overflow_sub-result-2 : goal.overflow_sub-result-2
overflow_sub-result-2 c = tree_pos c.args.t.huge c.args.t.within

pub returns : goal.returns
returns c = entry_masked c.args.t.huge c.args.x c.args.t.within c.args.j
