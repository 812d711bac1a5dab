use Rattle.rules.proofs.Trees.{tree_trailing}
use Rattle.shape.proofs.TreeSize.log.Goals as goal

pub returns : goal.returns
returns c = tree_trailing _ c.args.self.within
