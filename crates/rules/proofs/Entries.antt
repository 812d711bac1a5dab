-- Entries: the free count of one, the entry of a huge frame that is free whole, and the free frames of a run. Assumes nothing.
use mathlib.Core.Path.{◌≡◌, sym, ◌∙◌}
use mathlib.Core.List.{List}
use Prim.Native.Nat.{ℕ, ◌^◌, ◌≤◌, ◌<◌, zero-le}
use native.Mathlib.Decide.{ℕ_discrete}
use native.Mathlib.Nat.{div-one}
use native.Mathlib.Omega.{arith}
use lib.Dec.{eqb}
use lib.Pow.{pow_pos}
use borrow.Author.Tests.{eq-eqb, ne_eqb}
use Rattle.base.specs.Size.{Huge}
use Rattle.base.proofs.Sizes.{frames_fit}
use Rattle.base.proofs.Sums.{sum_same}
use Rattle.base.proofs.Walks.{pick_case}
use Rattle.rules.specs.Numbers.{mark}
use Rattle.rules.specs.State.{free_of, entry_of, blocks_in}
use Rattle.rules.specs.Queries.{free_in}

-- the mark's free count is 0, and any other entry's is the entry
module _ {e : ℕ} where
  pub free_mark : e ≡ mark → 0 ≡ free_of e
  free_mark q = rw (eq-eqb e mark q)

  pub free_own : (e ≡ mark → ⊥) → e ≡ free_of e
  free_own q = rw (ne_eqb e mark q)

-- an entry has 16 bits, so its free count is at most what the mark is as a number
pub free_most : (e : ℕ) → e < 2 ^ 16 → free_of e ≤ mark
free_most e l = pick_case (λ (x : ℕ). x ≤ mark) (eqb e mark) (λ _. zero-le) (λ _. omega arith)

-- the entry of a huge frame that is free whole is not the mark
pub whole_not_mark : {h e : ℕ} → Huge h → e ≡ 2 ^ h → e ≡ mark → ⊥
whole_not_mark H q k = omega (arith, frames_fit H)

-- and is told by its free count
pub whole_free : {h : ℕ} (e : ℕ) → Huge h → eqb (free_of e) (2 ^ h) ≡ eqb e (2 ^ h)
whole_free {h} e H = elim (ℕ_discrete e mark) [
  | yes k ↦ rw (← free_mark k) (ne_eqb 0 (2 ^ h) (λ z. omega (arith, pow_pos h)) ∙ sym (ne_eqb e (2 ^ h) (λ q. whole_not_mark H q k)))
  | no k ↦ rw (← free_own k)
]

-- a block of order 0 is a frame
pub frames_in : (es : List ℕ) (k at : ℕ) → blocks_in es k at 0 ≡ free_in es k at
frames_in es k at = sum_same _ _ k at (λ i _ _. div-one (free_of (entry_of es i)))
