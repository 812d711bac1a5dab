-- What holds exactly where another fact does, and the lowest index that a search finds. Assumes nothing.
use mathlib.Core.Path.{◌≡◌, sym, ◌∙◌}
use mathlib.Core.Bool.{Bool, true, false, true≢false}
use Prim.Native.Nat.{ℕ, ◌+◌, ◌≤◌, ◌<◌}
use native.Mathlib.Omega.{arith}
use lib.Dec.{ltb}
use borrow.Author.Tests.{ltb-true, ltb-false}
use Rattle.base.specs.Walk.{first}
use Rattle.base.proofs.Walks.{first_from, first_hit, first_before}
use Rattle.rules.specs.Whys.{Exactly, Some, Lowest}

-- two facts that both hold, and two of which none does
pub always : {A B : Type 0} → A → B → Exactly A B
always a b = (λ _. b, λ _. a)

pub never : {A B : Type 0} → (A → ⊥) → (B → ⊥) → Exactly A B
never a b = (λ w. absurd (a w), λ w. absurd (b w))

module _ (p : ℕ → Bool) (n i : ℕ) where
  -- it finds the lowest index that passes
  pub search_lowest : ltb (first p n i) (i + n) ≡ true → Lowest p i (i + n) (first p n i)
  search_lowest e =
      let l = ltb-true (first p n i) (i + n) e in
      record { from = first_from p n i; below = l; has = first_hit p n i l; first = λ j a u. first_before p n i j a u }

  -- or none passes
  pub search_none : ltb (first p n i) (i + n) ≡ false → (j : ℕ) → i ≤ j → j < i + n → p j ≡ false
  search_none e j a u = first_before p n i j a (omega (arith, ltb-false (first p n i) (i + n) e))

pub lowest_some : {p : ℕ → Bool} {a e i : ℕ} → Lowest p a e i → Some p a e
lowest_some {i = i} w = (i, (w.from, (w.below, w.has)))

pub none_some : {p : ℕ → Bool} {a e : ℕ} → ((j : ℕ) → a ≤ j → j < e → p j ≡ false) → Some p a e → ⊥
none_some none (j, (a, (u, q))) = true≢false (sym q ∙ none j a u)
