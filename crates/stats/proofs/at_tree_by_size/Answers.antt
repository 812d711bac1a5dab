-- The number that is given is T. Assumes nothing.
use Rattle.stats.proofs.at_tree_by_size.Goals as goal

pub returns-in-2 : goal.returns-in-2
returns-in-2 c = rw c.in-2.is c.at_tree.ensures
