-- The counts of a tree's room, order by order, as the loops make them. Assumes nothing.
use mathlib.Core.Path.{◌≡◌, ap, ◌∙◌}
use mathlib.Core.Bool.{true}
use mathlib.Core.List.{List}
use Prim.Native.Nat.{ℕ, ◌+◌, ◌-◌, ◌*◌, ◌/◌, ◌^◌, ◌≤◌, ◌<◌}
use native.Mathlib.Nat.{mul-div_cancel}
use native.Mathlib.Omega.{arith}
use lib.ListN.{length, replicate, length-replicate}
use lib.Pow.{pow_pos}
use borrow.Author.Tests.{lt-ltb, le-ltb, le-leb, lt-leb}
use Rattle.base.specs.Walk.{count, written}
use Rattle.base.proofs.Sizes.{pow_divides}
use Rattle.rules.specs.Numbers.{tree_at, tree_log, is_tree, top_order}
use Rattle.rules.proofs.Numbers.{tree_pow}
use Rattle.rules.specs.State.{entries_are, blocks_in}
use Rattle.rules.specs.Room.{room_at, orders, room_of}

-- ---- an order

module _ (h t : ℕ) {top : ℕ} (es : List ℕ) (at o : ℕ) (tree : is_tree t ≡ true) (top_is : top ≡ top_order h t) where
  pub at_blocks : o < h → {r : ℕ} → r ≡ blocks_in es t at o → r ≡ room_at h t es at o
  unfolding room_at
  at_blocks l e = rw (lt-ltb o h l) e

  -- up to the top order c groups of g entries fill the tree
  module _ (low : h ≤ o) (high : o ≤ top) {g c : ℕ} (g_is : g ≡ 2 ^ (o - h)) (c_is : c ≡ 2 ^ (top - o)) where
    pub groups_fill : c * g ≡ t
    groups_fill =
        let e : top - o ≡ tree_log t - (o - h) = omega arith in
        rw (c_is, g_is, e) (pow_divides (o - h) (tree_log t) (omega arith) ∙ tree_pow t tree)

    pub at_groups : {r : ℕ} → r ≡ count (λ j. entries_are (2 ^ h) es (at + j * g) g) c 0 → r ≡ room_at h t es at o
    unfolding room_at
    at_groups e =
        let all : t / g ≡ c = rw (← groups_fill) (mul-div_cancel c (rw g_is (pow_pos (o - h)))) in
        rw (le-ltb o h low, ← top_is, le-leb o top high, ← g_is, all) e

  pub at_none : h ≤ o → top < o → 0 ≡ room_at h t es at o
  unfolding room_at
  at_none low past = rw (le-ltb o h low, ← top_is, lt-leb o top past)

-- ---- all orders

-- counts that were 0, filled in up to their end
pub room_filled : (h t : ℕ) (es : List ℕ) (f : ℕ) {before after : List ℕ} {at o : ℕ} → before ≡ replicate (orders h) 0 → at ≡ tree_at h t f
    → after ≡ written (room_at h t es at) before 0 o → o ≡ length before → after ≡ room_of h t es f
unfolding room_of
room_filled h t es f {o = o} z a e l =
    let all : o ≡ orders h = l ∙ ap length z ∙ length-replicate (orders h) 0 in
    rw (a, z, all) at e
