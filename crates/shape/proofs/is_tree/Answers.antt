use mathlib.Core.Path.{sym}
use native.Mathlib.Omega.{arith}
use Rattle.rules.proofs.Trees.{tree_test, no_tree}
use Rattle.shape.proofs.is_tree.Goals as goal

pub returns-then-t-eq0 : goal.returns-then-t-eq0
returns-then-t-eq0 c = sym (no_tree _ (λ p. omega (arith, c.then-t-eq0.either)))

pub returns : goal.returns
returns c = tree_test _ (omega arith) (omega arith)
