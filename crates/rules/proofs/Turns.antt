-- The search order of a get is strict: no two blocks that it may take have the same turn. Assumes nothing.
use mathlib.Core.Path.{◌≡◌, sym, ap, ◌∙◌}
use mathlib.Core.Bool.{true}
use Prim.Native.Nat.{ℕ, ◌*◌, ◌/◌, ◌%◌, ◌^◌, ◌<◌}
use native.Mathlib.Nat.{div-div-eq-div-mul}
use lib.Arith.{digits_div, digits_mod}
use lib.Pow.{pow_pos}
use Rattle.base.specs.Size.{rows_per}
use Rattle.rules.specs.Numbers.{huge_of, is_tree, block_at, group_of}
use Rattle.rules.proofs.Numbers.{tree_pos}
use Rattle.rules.specs.Exact.{steps_to, round, rank, Candidate}
use Rattle.rules.proofs.Rings.{steps_low, steps_same}

pub turns_differ : (h n t row o f g : ℕ) → is_tree t ≡ true → Candidate h n t row o f → Candidate h n t row o g → rank h t row o f ≡ rank h t row o g → f ≡ g
turns_differ h n t row o f g T a b e =
    let s = block_at o (row * 64) in
    let base = row / rows_per h / group_of h o * group_of h o in
    let i = round h t row o f in
    let j = round h t row o g in
    let u : steps_to (2 ^ h) s f < 2 ^ h = steps_low (2 ^ h) s (pow_pos h) f in
    let v : steps_to (2 ^ h) s g < 2 ^ h = steps_low (2 ^ h) s (pow_pos h) g in
    let rounds : i ≡ j = sym (digits_div i u) ∙ ap (λ (x : ℕ). x / 2 ^ h) e ∙ digits_div j v in
    let places : steps_to (2 ^ h) s f ≡ steps_to (2 ^ h) s g = sym (digits_mod i u) ∙ ap (λ (x : ℕ). x % 2 ^ h) e ∙ digits_mod j v in
    let tree : huge_of h f / t ≡ huge_of h g / t = div-div-eq-div-mul f (2 ^ h) t ∙ a.tree ∙ sym b.tree ∙ sym (div-div-eq-div-mul g (2 ^ h) t) in
    let huge : huge_of h f ≡ huge_of h g = steps_same t base (tree_pos t T) (huge_of h f) (huge_of h g) tree rounds in
    steps_same (2 ^ h) s (pow_pos h) f g huge places
