-- Blocks from the huge order up are groups of huge frames: where each comes in the ring of its tree, and so in the order of a get's search. Assumes nothing.
use mathlib.Core.Path.{◌≡◌, sym, ap, ◌∙◌}
use Prim.Native.Nat.{ℕ, ◌+◌, ◌*◌, ◌/◌, ◌%◌, ◌^◌, ◌≤◌, ◌<◌}
use native.Mathlib.Nat.{add-zero, zero-mod, mul-mod_left, mul-add-mod_self_right, mul-lt-mul_of_pos_right, div-add-mod'}
use native.Mathlib.Omega.{arith}
use lib.Arith.{digits_div, digits_mod}
use lib.Pow.{pow_pos}
use Rattle.base.proofs.Sizes.{rest_by_less}
use Rattle.rules.specs.Numbers.{block_at}
use Rattle.rules.specs.Get.{group_at, entry_at}
use Rattle.rules.proofs.GroupSteps.{Tree, tree_some, rest_by_group, own_group, own_low}
use Rattle.rules.specs.Exact.{steps_to, round, rank}
use Rattle.rules.proofs.Rings.{steps_rest, steps_own, ahead_steps, visited_steps, steps_visited}

module _ {t g x first c lent : ℕ} (T : Tree t g x first c lent) where
  -- the group that holds x is one of the tree of x
  own_tree : x / g * g / t ≡ x / t
  own_tree = rw (own_group T) (digits_div (x / t) (own_low T))

  -- from it on, the groups are visited around the tree
  group_visited : (j : ℕ) → group_at t g x j ≡ entry_at t (x / g * g) (j * g)
  group_visited j = rw (own_group T, digits_div (x / t) (own_low T), digits_mod (x / t) (own_low T))

  pub group_steps : (j : ℕ) → j < c → steps_to t (x / g * g) (group_at t g x j) ≡ j * g
  group_steps j l = rw (group_visited j) (visited_steps t (x / g * g) (tree_some T) (j * g) (rw (← T.whole) (mul-lt-mul_of_pos_right l T.wide)))

  -- and each of them is
  module _ (y : ℕ) (even : y % g ≡ 0) where
    steps_even : steps_to t (x / g * g) y % g ≡ 0
    steps_even =
        let d = steps_to t (x / g * g) y in
        sym (mul-add-mod_self_right (x / g) g d) ∙ sym (rest_by_group T (x / g * g + d)) ∙ ap (λ (r : ℕ). r % g) (ahead_steps t (x / g * g) (tree_some T) y)
        ∙ rest_by_group T y ∙ even

    pub group_is : y / t ≡ x / t → group_at t g x (steps_to t (x / g * g) y / g) ≡ y
    group_is e =
        let d = steps_to t (x / g * g) y in
        let q : steps_to t (x / g * g) y / g * g ≡ steps_to t (x / g * g) y = omega (arith, div-add-mod' d g, steps_even) in
        group_visited (d / g) ∙ rw q (steps_visited t (x / g * g) (tree_some T) y (e ∙ sym own_tree))

-- a block's turn is by its huge frame alone
pub turn_above : {h : ℕ} (t row o at : ℕ) → h ≤ o → rank h t row o (at * 2 ^ h) ≡ round h t row o (at * 2 ^ h) * 2 ^ h
turn_above {h} t row o at l =
    let s = block_at o (row * 64) in
    let whole : s % 2 ^ h ≡ 0 = sym (rest_by_less s h o l) ∙ ap (λ (r : ℕ). r % 2 ^ h) (mul-mod_left (row * 64 / 2 ^ o) (2 ^ o)) ∙ zero-mod (2 ^ h) in
    rw (steps_rest (2 ^ h) s (at * 2 ^ h) s (mul-mod_left at (2 ^ h) ∙ sym whole), steps_own (2 ^ h) s (pow_pos h))
    (add-zero (round h t row o (at * 2 ^ h) * 2 ^ h))
