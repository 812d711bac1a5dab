-- The three tests of a get's reason: what each says of the start row's tree, and what a free block says of it. Assumes nothing.
use mathlib.Core.Path.{◌≡◌, refl, sym, ◌∙◌}
use mathlib.Core.Bool.{Bool, true, false}
use Prim.Native.Nat.{ℕ, ◌+◌, ◌*◌, ◌/◌, ◌^◌, ◌≤◌, ◌<◌}
use native.Mathlib.Nat.{div-mul-le_self}
use native.Mathlib.Omega.{arith}
use lib.Dec.{ltb}
use borrow.Author.Tests.{lt-ltb, ltb-true, ltb-false}
use Rattle.base.specs.Walk.{all}
use Rattle.base.proofs.Rests.{quotient_is}
use Rattle.base.proofs.Tests.{both}
use Rattle.base.proofs.Walks.{all_each, all_fails}
use Rattle.rules.specs.Numbers.{huge_of, tree_of, top_order}
use Rattle.rules.specs.State.{Mem, lengths_of}
use Rattle.rules.specs.Refusals.{Started}
use Rattle.rules.specs.Consistent.{free, free_frames}
use Rattle.rules.specs.Exact.{Candidate}
use Rattle.rules.specs.Why.{spread, no_block}
use Rattle.rules.proofs.Numbers.{tree_pos, tree_of_huge, tree_ends}
use Rattle.rules.proofs.Trees.{tree_frames}
use Rattle.rules.proofs.Present.{block_within}
use Rattle.rules.proofs.Lent.{block_in_tree}
use Rattle.rules.proofs.WhyBlocks.{free_counted, blockless_none, block_some}

-- a block that a get may take, and that is free
abbrev pub FreeBlock : ℕ → ℕ → ℕ → Mem → ℕ → ℕ → Type 0
FreeBlock h n t m row o = (f : ℕ) × (Candidate h n t row o f × (all (free h n m) (2 ^ o) f ≡ true))

-- no huge frame of tree y has enough free frames ..
abbrev pub FewEach : ℕ → ℕ → ℕ → Mem → ℕ → ℕ → Type 0
FewEach h n t m y o = (x : ℕ) → x / t ≡ y → free_frames h n m (2 ^ h) x < 2 ^ o

-- .. or one has
abbrev pub EnoughIn : ℕ → ℕ → ℕ → Mem → ℕ → ℕ → Type 0
EnoughIn h n t m y o = (x : ℕ) × ((x / t ≡ y) × (2 ^ o ≤ free_frames h n m (2 ^ h) x))

module _ (h n t : ℕ) (m : Mem) (row o : ℕ) (b : Started h n t (lengths_of m) row o) where
  abbrev y : ℕ
  y = tree_of h t (row * 64)

  -- ---- what a free block says

  -- the tree has enough free frames
  pub enough_free : FreeBlock h n t m row o → 2 ^ o ≤ free_frames h n m (2 ^ h * t) (tree_of h t (row * 64))
  enough_free (f, (c, e)) =
      let begins : y * (2 ^ h * t) ≤ f = rw (← c.tree) (div-mul-le_self f (2 ^ h * t)) in
      let ends : f + 2 ^ o ≤ (y + 1) * (2 ^ h * t) = rw (← c.tree) (block_in_tree (record { sized = b.sized; top = b.top; ends = c.ends; aligned = c.aligned })) in
      free_counted h n m (2 ^ o) f (2 ^ h * t) (y * (2 ^ h * t)) e begins (omega arith)

  -- and below the huge order so has its huge frame
  pub enough_here : o < h → FreeBlock h n t m row o → EnoughIn h n t m (tree_of h t (row * 64)) o
  enough_here l (f, (c, e)) =
      let within = block_within f o l c.aligned in
      (huge_of h f, (sym (tree_of_huge h t f) ∙ c.tree, free_counted h n m (2 ^ o) f (2 ^ h) (huge_of h f * 2 ^ h) e (div-mul-le_self f (2 ^ h)) (omega arith)))

  -- ---- what the tests say

  abbrev few : ℕ → Bool
  few x = ltb (free_frames h n m (2 ^ h) x) (2 ^ o)

  pub spread_each : spread h n t m (tree_of h t (row * 64)) o ≡ true → (o < h) × FewEach h n t m (tree_of h t (row * 64)) o
  spread_each e =
      let (l, each) = both (ltb o h) _ e in (
        ltb-true o h l,
        λ x own.
            let (low, high) = tree_ends t x y (tree_pos t b.sized.tree) own in
            ltb-true (free_frames h n m (2 ^ h) x) (2 ^ o) (all_each few t (y * t) each x low high),
      )

  pub spread_not : spread h n t m (tree_of h t (row * 64)) o ≡ false → o < h → EnoughIn h n t m (tree_of h t (row * 64)) o
  spread_not e l =
      let (x, low, high, q) = all_fails few t (y * t) (rw (lt-ltb o h l) at e) in
      (x, (quotient_is t y x low high, ltb-false (free_frames h n m (2 ^ h) x) (2 ^ o) q))

  -- a tree is a run of 2 to the power of the top order
  size : 2 ^ top_order h t ≡ 2 ^ h * t
  size = tree_frames t b.sized.tree refl h

  pub none_each : no_block h n t m (tree_of h t (row * 64)) o ≡ true → (f : ℕ) → Candidate h n t row o f → all (free h n m) (2 ^ o) f ≡ false
  none_each e f c = blockless_none h n m o (top_order h t) y b.top e f (record { aligned = c.aligned; run = rw size c.tree; ends = c.ends })

  pub none_not : no_block h n t m (tree_of h t (row * 64)) o ≡ false → FreeBlock h n t m row o
  none_not e =
      let (f, c, q) = block_some h n m o (top_order h t) y b.top e in
      (f, (record { aligned = c.aligned; tree = rw size at c.run; ends = c.ends }, q))
