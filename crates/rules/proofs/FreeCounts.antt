-- Stats on a consistent state, and stats_at in a consistent tree, count exactly the frames, huge frames and trees that are free. Assumes nothing.
use mathlib.Core.Path.{◌≡◌, refl, sym, ◌∙◌}
use mathlib.Core.Bool.{false, ◌&&◌}
use mathlib.Core.Logic.{⊎_elim}
use Prim.Native.Nat.{ℕ, ◌+◌, ◌*◌, ◌/◌, ◌^◌, ◌≤◌, ◌<◌}
use native.Mathlib.Nat.{mul_comm, mul-pos, mul-le-mul_right, zero-mul}
use native.Mathlib.Omega.{arith}
use lib.Dec.{eqb, ltb}
use lib.Pow.{pow_pos}
use borrow.Author.Tests.{lt-ltb}
use Rattle.base.specs.Walk.{pick, count}
use Rattle.base.specs.Bits.{bit_is}
use Rattle.base.specs.Size.{Huge}
use Rattle.base.proofs.Sums.{sum_same}
use Rattle.base.proofs.Walks.{all_not, count_same}
use Rattle.base.proofs.Counting.{count_ones, count_runs, count_short, count_some, count_tells_all, quotient_tells_all}
use Rattle.base.proofs.Rests.{quotient_is}
use Rattle.base.proofs.Tests.{second_tells}
use Rattle.rules.specs.Numbers.{huge_of, tree_of, top_order, ceil, trees_needed, entries_needed}
use Rattle.rules.specs.State.{Mem, entry_of, free_of, blocks_in}
use Rattle.rules.specs.Refusals.{frame_refusal}
use Rattle.rules.specs.Queries.{statistics, free_in, tree_free as sum_free, stats_all, at_order, stats, stats_at}
use Rattle.rules.proofs.Entries.{free_mark}
use Rattle.rules.proofs.Numbers.{tree_pos, tree_of_huge, ceil_covers, ceil_least, entries_cover}
use Rattle.rules.proofs.Lent.{sized_passes, framed}
use Rattle.rules.proofs.Present.{huge_ends}
use Rattle.rules.proofs.Needed.{tree_covers, tree_needed, needed_cover}
use Rattle.rules.specs.Consistent.{ByMark, ByCount, ConsistentIn, Consistent, free, entirely, free_frames}
use Rattle.rules.proofs.Frees.{counted_free, held_mark, held_past}
use Rattle.rules.proofs.HugeFrames.{entry_counts, entry_tells}

-- an absent huge frame is not free
absent_held : (h n : ℕ) (m : Mem) (x : ℕ) → ceil n (2 ^ h) ≤ x → entirely h n m (2 ^ h) x ≡ false
absent_held h n m x l =
    let past : ceil n (2 ^ h) * 2 ^ h ≤ x * 2 ^ h = mul-le-mul_right (2 ^ h) l in
    all_not (free h n m) (2 ^ h) (x * 2 ^ h) (x * 2 ^ h) (omega arith) (omega (arith, pow_pos h))
    (held_past h n m (x * 2 ^ h) (omega (arith, ceil_covers n (2 ^ h) (pow_pos h))))

-- in a consistent tree the quotient of an entry's free count tells whether its huge frame is entirely free
entry_quotient : {h n t : ℕ} {m : Mem} {y : ℕ} → Huge h → ConsistentIn h n t m y → (x : ℕ) → x / t ≡ y → x < entries_needed h n t
    → free_of (entry_of m.entries x) / 2 ^ h ≡ pick (entirely h n m (2 ^ h) x) 1 0
entry_quotient {h} {n} {m = m} H c x own u = rw (entry_counts H c x own u) (quotient_tells_all (free h n m) (2 ^ h) (x * 2 ^ h) (pow_pos h))

-- so where the trees of k entries are, their free counts sum to their free frames, and the quotients to their free huge frames
module _ {h n t : ℕ} {m : Mem} (H : Huge h) (k at : ℕ) (l : at + k ≤ entries_needed h n t) (each : (x : ℕ) → at ≤ x → x < at + k → ConsistentIn h n t m (x / t)) where
  entries_count : free_in m.entries k at ≡ count (free h n m) (k * 2 ^ h) (at * 2 ^ h)
  entries_count =
      sum_same (λ i. free_of (entry_of m.entries i)) (λ x. count (free h n m) (2 ^ h) (x * 2 ^ h)) k at (λ x a u. entry_counts H (each x a u) x refl (omega arith))
      ∙ sym (count_runs (free h n m) (2 ^ h) k at)

  entries_quotients : blocks_in m.entries k at h ≡ count (entirely h n m (2 ^ h)) k at
  entries_quotients =
      sum_same (λ i. free_of (entry_of m.entries i) / 2 ^ h) (λ x. pick (entirely h n m (2 ^ h) x) 1 0) k at (λ x a u. entry_quotient H (each x a u) x refl (omega arith))
      ∙ sym (count_ones (entirely h n m (2 ^ h)) k at)

module _ {h n t : ℕ} {m : Mem} {y : ℕ} (H : Huge h) (c : ConsistentIn h n t m y) where
  some_tree : 0 < t
  some_tree = tree_pos t c.sized.tree

  -- ---- one tree

  its_entries : (x : ℕ) → y * t ≤ x → x < y * t + t → ConsistentIn h n t m (x / t)
  its_entries x a u = rw (quotient_is t y x a u) c

  module _ (l : y < trees_needed h n t) where
    pub tree_counts : free_in m.entries t (y * t) ≡ free_frames h n m (2 ^ h * t) y
    tree_counts =
        let first : y * t * 2 ^ h ≡ y * (2 ^ h * t) = omega arith in
        entries_count H t (y * t) (tree_needed h n t y l) its_entries ∙ rw (first, mul_comm t (2 ^ h))

    tree_tells : sum_free h t m.entries y ≡ entirely h n m (2 ^ h * t) y
    tree_tells = rw tree_counts (count_tells_all (free h n m) (2 ^ h * t) (y * (2 ^ h * t)))

    tree_quotient : free_in m.entries t (y * t) / (2 ^ h * t) ≡ pick (entirely h n m (2 ^ h * t) y) 1 0
    tree_quotient = rw tree_counts (quotient_tells_all (free h n m) (2 ^ h * t) (y * (2 ^ h * t)) (mul-pos (pow_pos h) some_tree))

    tree_huge : blocks_in m.entries t (y * t) h ≡ count (entirely h n m (2 ^ h)) t (y * t)
    tree_huge = entries_quotients H t (y * t) (tree_needed h n t y l) its_entries

  -- ---- one frame

  -- it is free exactly if its entry counts some and its bit is clear
  frame_tells : (f : ℕ) → huge_of h f / t ≡ y → f < n → (ltb 0 (free_of (entry_of m.entries (huge_of h f))) && bit_is false m.rows f) ≡ free h n m f
  frame_tells f own l =
      let x = huge_of h f in
      let ends = huge_ends h f (huge_of h f) refl in
      let counts = entry_counts H c x own (entries_cover h n t f some_tree l) in
      ⊎_elim
      (λ (k : ByMark h n m x). rw (← free_mark k.marked) (sym (held_mark h n m f k.marked)))
      (λ (k : ByCount h n m x).
      let same = counted_free H k f ends.0 ends.1 in
      second_tells (ltb 0 (free_of (entry_of m.entries x))) (bit_is false m.rows f)
      (λ e. lt-ltb 0 (free_of (entry_of m.entries x)) (omega (arith, count_some (free h n m) (2 ^ h) (x * 2 ^ h) f ends.0 (omega (arith, ends.1)) (same ∙ e)))) ∙ sym same)
      (c.present x own (omega (arith, ends.0)))

-- ---- all of them

module _ {h n t : ℕ} {m : Mem} (H : Huge h) (c : Consistent h n t m) where
  all_frames : free_in m.entries (entries_needed h n t) 0 ≡ count (free h n m) n 0
  all_frames =
      entries_count H (entries_needed h n t) 0 (omega arith) (λ x _ _. c (x / t))
      ∙ rw (zero-mul (2 ^ h)) (count_short (free h n m) n (entries_needed h n t * 2 ^ h) 0 (needed_cover h n t (some_tree H (c 0))) (λ f l. held_past h n m f (omega arith)))

  all_huge : count (λ x. eqb (entry_of m.entries x) (2 ^ h)) (entries_needed h n t) 0 ≡ count (entirely h n m (2 ^ h)) (ceil n (2 ^ h)) 0
  all_huge =
      count_same (λ x. eqb (entry_of m.entries x) (2 ^ h)) (entirely h n m (2 ^ h)) (entries_needed h n t) 0 (λ x _ u. sym (entry_tells H (c (x / t)) x refl (omega arith)))
      ∙ count_short (entirely h n m (2 ^ h)) (ceil n (2 ^ h)) (entries_needed h n t) 0 (ceil_least n (2 ^ h) (entries_needed h n t) (pow_pos h) (needed_cover h n t (some_tree H (c 0))))
      (λ x l. absent_held h n m x (omega arith))

  all_trees : count (sum_free h t m.entries) (trees_needed h n t) 0 ≡ count (entirely h n m (2 ^ h * t)) (trees_needed h n t) 0
  all_trees = count_same (sum_free h t m.entries) (entirely h n m (2 ^ h * t)) (trees_needed h n t) 0 (λ y _ u. tree_tells H (c y) (omega arith))

pub stats_is_exact : (h n t : ℕ) (m : Mem) → Huge h → Consistent h n t m
    → stats h n t m ≡ statistics 0 (count (free h n m) n 0) (count (entirely h n m (2 ^ h)) (ceil n (2 ^ h)) 0) (count (entirely h n m (2 ^ h * t)) (trees_needed h n t) 0)
unfolding stats stats_all
stats_is_exact h n t m H c = rw (sized_passes (c 0).sized, all_frames H c, all_huge H c, all_trees H c)

-- what stats_at counts in tree y
pub stats_at_is_exact : {h n t : ℕ} {m : Mem} {y : ℕ} → Huge h → ConsistentIn h n t m y → (f o : ℕ) → tree_of h t f ≡ y → frame_refusal h n t m f ≡ 0
    → stats_at h n t m f o ≡ pick (eqb o 0) (statistics 0 (pick (free h n m f) 1 0) 0 0)
    (pick (eqb o h) (statistics 0 (free_frames h n m (2 ^ h) (huge_of h f)) (pick (entirely h n m (2 ^ h) (huge_of h f)) 1 0) 0)
    (pick (eqb o (top_order h t)) (statistics 0 (free_frames h n m (2 ^ h * t) y) (count (entirely h n m (2 ^ h)) t (y * t)) (pick (entirely h n m (2 ^ h * t) y) 1 0))
    (statistics 0 0 0 0)))
unfolding stats_at at_order
stats_at_is_exact {h} {n} {t} {m} {y} H c f o own e =
    let x = huge_of h f in
    let below = (framed h n t _ f e).below in
    let huge : huge_of h f / t ≡ y = sym (tree_of_huge h t f) ∙ own in
    let entry = entries_cover h n t f (some_tree H c) below in
    let tree : y < trees_needed h n t = rw own at (tree_covers h n t f (some_tree H c) below) in
    rw (
      e,
      own,
      frame_tells H c f huge below,
      entry_quotient H c x huge entry,
      entry_counts H c x huge entry,
      tree_quotient H c tree,
      tree_huge H c tree,
      tree_counts H c tree,
    )
