-- What a call that takes or gives back a block does: every tree that was consistent stays so, and exactly the block's frames turn. And which frames are a block's.
-- Assumes nothing.
use mathlib.Core.Path.{◌≡◌}
use mathlib.Core.Bool.{true, false}
use mathlib.Core.Logic.{◌⊎◌, inl, inr, ⊎_elim}
use Prim.Native.Nat.{ℕ, ◌+◌, ◌^◌, ◌≤◌, ◌<◌}
use native.Mathlib.Decide.{dec_lt}
use native.Mathlib.Omega.{arith}
use borrow.Author.Tests.{le-leb, lt-leb, lt-ltb, le-ltb}
use Rattle.rules.specs.State.{Mem}
use Rattle.rules.specs.Consistent.{ConsistentIn, in_block}
use Rattle.rules.specs.Exact.{Taken, Given}

-- the block of order o at a was taken
pub record Took (h n t : ℕ) (m left : Mem) (a o : ℕ) : Type 0 where
  pub keeps : (y : ℕ) → ConsistentIn h n t m y → ConsistentIn h n t left y
  pub taken : Taken h n m left a o

-- the block was given back
pub record Gave (h n t : ℕ) (m left : Mem) (a o : ℕ) : Type 0 where
  pub keeps : (y : ℕ) → ConsistentIn h n t m y → ConsistentIn h n t left y
  pub given : Given h n m left a o

-- ---- a block's frames, and those beside it

module _ (a o : ℕ) where
  abbrev pub Beside : ℕ → Type 0
  Beside g = (g < a) ⊎ (a + 2 ^ o ≤ g)

  -- a law of each frame goes by these two cases
  pub by_place : (g : ℕ) {P : Type 0} → (a ≤ g → g < a + 2 ^ o → P) → (Beside g → P) → P
  by_place g inside beside = elim (dec_lt g a) [
    | yes l ↦ beside (inl l)
    | no l ↦ elim (dec_lt g (a + 2 ^ o)) [ yes u ↦ inside (omega arith) u | no u ↦ beside (inr (omega arith)) ]
  ]

  pub in_block_lem : (g : ℕ) → a ≤ g → g < a + 2 ^ o → in_block a o g ≡ true
  in_block_lem g l u = rw (le-leb a g l) (lt-ltb g (a + 2 ^ o) u)

  pub out_of_block : (g : ℕ) → Beside g → in_block a o g ≡ false
  out_of_block g = ⊎_elim (λ l. rw (lt-leb a g l)) (λ u. let l : a ≤ g = omega arith in rw (le-leb a g l) (le-ltb g (a + 2 ^ o) u))
