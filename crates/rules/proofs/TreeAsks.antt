-- The queries of a tree: two states that agree on it answer alike. Assumes nothing.
use mathlib.Core.Path.{◌≡◌, sym, ap, ◌∙◌}
use mathlib.Core.Bool.{false}
use Prim.Native.Nat.{ℕ, ◌+◌, ◌*◌, ◌/◌, ◌^◌, ◌≤◌, ◌<◌}
use native.Mathlib.Nat.{div-mul-le_self, mul-le-mul_right}
use native.Mathlib.Omega.{arith}
use lib.ListN.{replicate}
use Rattle.base.specs.Walk.{sum}
use Rattle.base.proofs.Walks.{count_same}
use Rattle.base.proofs.Sums.{sum_same}
use Rattle.base.proofs.Written.{written_same}
use Rattle.base.proofs.Parts.{part_same}
use Rattle.rules.specs.Numbers.{huge_of, tree_of, group_of}
use Rattle.rules.specs.State.{Mem, entry_of, free_of}
use Rattle.rules.proofs.Numbers.{tree_of_huge}
use Rattle.rules.proofs.Lent.{frame_tree}
use Rattle.rules.specs.Queries.{at_order}
use Rattle.rules.specs.Room.{groups, orders, room_at, room_of, run_of}
use Rattle.rules.proofs.TreeParts.{Agreeing, bit_alike, entry_alike, entries_alike}

module _ {h n t y : ℕ} {a b : Mem} (w : Agreeing h n t y a b) where
  -- a sum over the tree's entries
  sum_alike : (v : ℕ → ℕ) → sum (λ i. v (entry_of a.entries i)) t (y * t) ≡ sum (λ i. v (entry_of b.entries i)) t (y * t)
  sum_alike v = sum_same _ _ t (y * t) (λ x l u. ap v (entry_alike w x l u))

  -- how many of its groups of g entries are free
  groups_alike : (g : ℕ) → groups h a.entries t (y * t) g ≡ groups h b.entries t (y * t) g
  groups_alike g =
      count_same _ _ (t / g) 0 (λ j _ l. entries_alike w (2 ^ h) (y * t + j * g) g (omega arith) (inside j (omega arith)))
    where
      inside : (j : ℕ) → j < t / g → y * t + j * g + g ≤ y * t + t
      inside j l = omega (arith, mul-le-mul_right g l, div-mul-le_self t g)

  room_at_alike : (o : ℕ) → room_at h t a.entries (y * t) o ≡ room_at h t b.entries (y * t) o
  unfolding room_at
  room_at_alike o = rw (sum_alike (λ e. free_of e / 2 ^ o), groups_alike (group_of h o))

  module _ (f : ℕ) (here : tree_of h t f ≡ y) (low : f < n) where
    pub at_order_alike : (o : ℕ) → at_order h t a f o ≡ at_order h t b f o
    unfolding at_order
    at_order_alike o =
        let x : huge_of h f / t ≡ y = sym (tree_of_huge h t f) ∙ here in
        rw (
          w.agree.entries (huge_of h f) x,
          bit_alike w false f x (omega (arith, div-mul-le_self f (2 ^ h))),
          here,
          sum_alike free_of,
          sum_alike (λ e. free_of e / 2 ^ h),
        )

    pub room_alike : room_of h t a.entries f ≡ room_of h t b.entries f
    unfolding room_of
    room_alike = rw here (written_same _ _ (replicate (orders h) 0) 0 (orders h) (λ o _ _. room_at_alike o))

    pub run_alike : run_of h t a.entries f ≡ run_of h t b.entries f
    run_alike =
        let first : tree_of h t f * t ≡ y * t = ap (λ (k : ℕ). k * t) here in
        part_same a.entries b.entries (tree_of h t f * t) t (omega (arith, frame_tree w.huge (record { sized = w.sized; below = low })))
        (omega (arith, frame_tree w.huge (record { sized = w.other; below = low })))
        (λ i l. entry_alike w (tree_of h t f * t + i) (omega arith) (omega arith))
