use mathlib.Core.Path.{ap₂, ◌∙◌}
use Prim.Native.Nat.{ℕ, ◌+◌, ◌*◌, ◌/◌, ◌^◌}
use native.Mathlib.Nat.{div-mul-le_self, mul-le-mul_left}
use native.Mathlib.Omega.{arith}
use lib.Pow.{pow_mono}
use Rattle.rules.proofs.Trees.{log_low, log_pow, tree_frames}
use Rattle.shape.proofs.tree_first.Goals as goal

pub tree_huge-requires : goal.tree_huge-requires
tree_huge-requires c =
    let frame = c.args.frame in
    let log = c.log-k.result in
    let tree = c.args.h.order + log in
    (log_low _ c.args.t.within c.log-k.ensures, omega (arith, div-mul-le_self frame (2 ^ tree), mul-le-mul_left (frame / 2 ^ tree) (pow_mono {i = log} {j = tree} (omega arith))))

pub returns : goal.returns
returns c =
    let tree = c.args.t.within in
    c.tree_huge.ensures ∙ ap₂ (λ (f g : ℕ). c.args.frame / f * g) (tree_frames _ tree c.log-k.ensures _) (log_pow _ tree c.log-k.ensures)
