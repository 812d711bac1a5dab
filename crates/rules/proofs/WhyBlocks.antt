-- The aligned blocks of a run of frames: by their numbers, and what a free one says of the run. Assumes nothing.
use mathlib.Core.Path.{◌≡◌, refl, sym, ap, ◌∙◌}
use mathlib.Core.Bool.{Bool, true, false, not, not-eq-not, true≢false}
use Prim.Native.Nat.{ℕ, ◌+◌, ◌-◌, ◌*◌, ◌/◌, ◌%◌, ◌^◌, ◌≤◌, ◌<◌}
use native.Mathlib.Nat.{mul-mod_left, div-add-mod'}
use native.Mathlib.Omega.{arith}
use lib.Dec.{ltb}
use lib.Pow.{pow_pos}
use borrow.Author.Tests.{ltb-true, not-true, not-false}
use Rattle.base.specs.Walk.{all, count}
use Rattle.base.proofs.Walks.{all_each, all_fails, count_of}
use Rattle.base.proofs.Counting.{count_run}
use Rattle.base.proofs.Sizes.{block_number, block_of_number}
use Rattle.base.proofs.Tests.{both}
use Rattle.rules.specs.State.{Mem}
use Rattle.rules.specs.Consistent.{free, entirely}

module _ (h n : ℕ) (m : Mem) where
  -- frames that are all free end at or before N
  pub free_ends : (s f : ℕ) → 0 < s → all (free h n m) s f ≡ true → f + s ≤ n
  free_ends s f p e =
      let last : free h n m (f + (s - 1)) ≡ true = all_each (free h n m) s f e (f + (s - 1)) (omega arith) (omega arith) in
      let below : f + (s - 1) < n = ltb-true (f + (s - 1)) n (both (ltb (f + (s - 1)) n) _ last).0 in
      omega arith

  -- and a run that they lie in has as many free
  pub free_counted : (s f k at : ℕ) → all (free h n m) s f ≡ true → at ≤ f → f + s ≤ at + k → s ≤ count (free h n m) k at
  free_counted s f k at e low high = omega (arith, count_of (free h n m) s f (all_each (free h n m) s f e), count_run (free h n m) k at f s low high)

-- the x-th run of 2 ^ k frames has no free block of order o: a huge frame with k = h, a tree with k the top order
abbrev pub blockless : ℕ → ℕ → Mem → ℕ → ℕ → ℕ → Bool
blockless h n m o k x = all (λ b. not (entirely h n m (2 ^ o) b)) (2 ^ (k - o)) (x * 2 ^ (k - o))

-- an aligned block of it that ends at or before N
pub record BlockIn (n o k x f : ℕ) : Type 0 where
  pub aligned : f % 2 ^ o ≡ 0
  pub run : f / 2 ^ k ≡ x
  pub ends : f + 2 ^ o ≤ n

module _ (h n : ℕ) (m : Mem) (o k x : ℕ) (l : o ≤ k) where
  -- none of these is free ..
  pub blockless_none : blockless h n m o k x ≡ true → (f : ℕ) → BlockIn n o k x f → all (free h n m) (2 ^ o) f ≡ false
  blockless_none e f b =
      let at : f / 2 ^ o * 2 ^ o ≡ f = omega (arith, div-add-mod' f (2 ^ o), b.aligned) in
      let (low, high) = block_number o k x l f b.run in
      ap (all (free h n m) (2 ^ o)) (sym at)
      ∙ not-true _ (all_each (λ b. not (entirely h n m (2 ^ o) b)) (2 ^ (k - o)) (x * 2 ^ (k - o)) e (f / 2 ^ o) low high)

  -- .. or one is
  pub block_some : blockless h n m o k x ≡ false → (f : ℕ) × BlockIn n o k x f × (all (free h n m) (2 ^ o) f ≡ true)
  block_some e =
      let (b, low, high, q) = all_fails (λ b. not (entirely h n m (2 ^ o) b)) (2 ^ (k - o)) (x * 2 ^ (k - o)) e in
      let whole = not-false (entirely h n m (2 ^ o) b) q in (
        b * 2 ^ o,
        record { aligned = mul-mod_left b (2 ^ o); run = block_of_number o k x l b low high; ends = free_ends h n m (2 ^ o) (b * 2 ^ o) (pow_pos o) whole },
        whole,
      )

  -- and so the other way round
  pub none_blockless : ((f : ℕ) → BlockIn n o k x f → all (free h n m) (2 ^ o) f ≡ false) → blockless h n m o k x ≡ true
  none_blockless none = go (blockless h n m o k x) block_some
    where
      go : (t : Bool) → (t ≡ false → (f : ℕ) × BlockIn n o k x f × (all (free h n m) (2 ^ o) f ≡ true)) → t ≡ true
      go true w = refl
      go false w = let (f, b, q) = w refl in absurd (true≢false (sym q ∙ none f b))

  pub some_not_blockless : (f : ℕ) → BlockIn n o k x f → all (free h n m) (2 ^ o) f ≡ true → blockless h n m o k x ≡ false
  some_not_blockless f b q = (not-eq-not {b = false}).0 (λ e. true≢false (sym q ∙ blockless_none e f b))
