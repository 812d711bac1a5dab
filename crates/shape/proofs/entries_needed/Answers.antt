use mathlib.Core.Path.{refl, ap, ap₂, ◌∙◌}
use Prim.Native.Nat.{ℕ, ◌*◌, ◌^◌}
use Rattle.rules.specs.Numbers.{ceil}
use Rattle.rules.proofs.Trees.{log_low, log_pow, top_low, tree_frames}
use Rattle.shape.proofs.Ceils.{ceil_shifted}
use Rattle.shape.proofs.entries_needed.Goals as goal

pub returns : goal.returns
returns c =
    let tree = c.args.t.within in
    ceil_shifted _ _ _ c.size.ensures c.requires (rw c.top_order-order.ensures (top_low _ tree refl c.args.h.within)) (log_low _ tree c.log.ensures)
    ∙ ap₂ (λ (g f : ℕ). g * ceil c.args.n f) (log_pow _ tree c.log.ensures) (ap (λ (k : ℕ). 2 ^ k) c.top_order-order.ensures ∙ tree_frames _ tree refl _)
