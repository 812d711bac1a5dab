-- The statistics by the orders and the tree sizes, in the code's words: a law for each answer. Assumes nothing.
use mathlib.Core.Path.{◌≡◌, refl, sym, ◌∙◌}
use mathlib.Core.Bool.{true}
use mathlib.Core.List.{List}
use Prim.Native.Nat.{ℕ, ◌*◌, ◌/◌, ◌^◌}
use native.Mathlib.Nat.{one-mul, mul-one}
use lib.Dec.{eqb}
use borrow.Author.Tests.{eq-eqb, ne_eqb}
use Rattle.base.specs.Size.{Huge}
use Rattle.base.specs.Walk.{count}
use Rattle.base.proofs.Walks.{count_same}
use Rattle.base.proofs.Sums.{sum_one}
use Rattle.rules.specs.Numbered.{Stats}
use Rattle.rules.specs.Refusals.{Sized}
use Rattle.rules.specs.Numbers.{huge_of, tree_at, is_tree, top_order, ceil, entries_needed}
use Rattle.rules.specs.State.{Mem, mem, entry_of, free_of, blocks_in, Lengths}
use Rattle.rules.specs.Queries.{statistics, free_in, tree_free, stats_all, at_frame, at_tree, at_order}
use Rattle.rules.proofs.Entries.{whole_free, frames_in}
use Rattle.rules.proofs.Trees.{tree_frames}

-- ---- all entries

-- a tree of one huge frame is free where that is
tree_of_one : {h : ℕ} → Huge h → (es : List ℕ) (k : ℕ) → count (λ x. eqb (entry_of es x) (2 ^ h)) k 0 ≡ count (tree_free h 1 es) k 0
tree_of_one {h} H es k =
    count_same (λ x. eqb (entry_of es x) (2 ^ h)) (tree_free h 1 es) k 0
    (λ y _ _. rw (sum_one (λ i. free_of (entry_of es i)) (y * 1), mul-one y, mul-one (2 ^ h)) (sym (whole_free (entry_of es y) H)))

module _ {h n t : ℕ} {len : Lengths} {needed free huge v : ℕ} (s : Sized h n t len) (all_is : needed ≡ entries_needed h n t) (es : List ℕ)
    (free_is : free ≡ blocks_in es needed 0 0) (huge_is : huge ≡ count (λ x. eqb (entry_of es x) v) needed 0) (v_is : v ≡ 2 ^ h) where
  pub all_of_trees : {trees frames k : ℕ} → trees ≡ count (λ y. eqb (free_in es t (y * t)) frames) k 0 → frames ≡ 2 ^ top_order h t → k ≡ ceil n (2 ^ h * t)
      → statistics 0 free huge trees ≡ stats_all h n t es
  unfolding stats_all
  all_of_trees e f q = rw (free_is, frames_in es needed 0, huge_is, e, v_is, f, q, tree_frames t s.tree refl h, all_is)

  pub all_of_one : Huge h → t ≡ 1 → statistics 0 free huge huge ≡ stats_all h n t es
  unfolding stats_all
  all_of_one H one =
      rw (free_is, frames_in es needed 0, huge_is, v_is, all_is, one, one-mul (ceil n (2 ^ h * 1)), tree_of_one H es (ceil n (2 ^ h * 1)))

-- ---- at a frame

module _ (h t : ℕ) (m : Mem) (f o : ℕ) where
  pub by_frame : {r : Stats} → o ≡ 0 → r ≡ at_frame h m f → r ≡ at_order h t m f o
  unfolding at_order
  by_frame z e = rw (eq-eqb o 0 z) e

  module _ (n : o ≡ 0 → ⊥) where
    pub by_huge : {free : ℕ} → o ≡ h → free ≡ free_of (entry_of m.entries (huge_of h f)) → statistics 0 free (free / 2 ^ h) 0 ≡ at_order h t m f o
    unfolding at_order
    by_huge z e = rw (ne_eqb o 0 n, eq-eqb o h z, e)

    module _ (l : o ≡ h → ⊥) {top : ℕ} (top_is : top ≡ top_order h t) where
      pub by_tree : {r : Stats} → o ≡ top → r ≡ at_tree h t m f → r ≡ at_order h t m f o
      unfolding at_order
      by_tree z e = rw (ne_eqb o 0 n, ne_eqb o h l, eq-eqb o (top_order h t) (z ∙ top_is)) e

      pub by_none : (o ≡ top → ⊥) → statistics 0 0 0 0 ≡ at_order h t m f o
      unfolding at_order
      by_none z = rw (ne_eqb o 0 n, ne_eqb o h l, ne_eqb o (top_order h t) (λ e. z (e ∙ sym top_is)))

-- the numbers of a frame's tree
pub tree_counted : (h t f : ℕ) {first top free huge : ℕ} → is_tree t ≡ true → first ≡ tree_at h t f → top ≡ top_order h t → (es : List ℕ)
    → free ≡ blocks_in es t first 0 → huge ≡ blocks_in es t first h → (rows : List ℕ) → statistics 0 free huge (free / 2 ^ top) ≡ at_tree h t (mem rows es) f
tree_counted h t f {first} T first_is top_is es e q rows = rw (e, frames_in es t first, q, first_is, top_is, tree_frames t T refl h)
