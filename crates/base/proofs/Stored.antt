-- Calls that only store: refused with the memory as it was, or done. Assumes nothing.
use mathlib.Core.Path.{◌≡◌, refl, sym, ap}
use Prim.Native.Nat.{ℕ}
use lib.Dec.{eqb}
use Rattle.base.specs.Code.{Out, out, stored}
use Rattle.base.proofs.Walks.{pick_case}
use Rattle.base.proofs.Codes.{refuses, does_it, done as not_refused}

module _ {S : Type 0} (s after : S) where
  -- ---- what the code shows: a code that is not 0 with the memory, or 0 with what was stored
  pub refused : {c r : ℕ} → r ≡ c → (r ≡ 0 → ⊥) → out r s ≡ stored c s after
  refused e n = refuses s (out 0 after) (λ r. r) e n

  pub done : {c : ℕ} → 0 ≡ c → out 0 after ≡ stored c s after
  done {c} e = does_it s (out 0 after) c (sym e) refl

  -- ---- what a caller learns
  pub if_done : (c : ℕ) → (stored c s after).answer ≡ 0 → (c ≡ 0) × ((stored c s after).left ≡ after)
  if_done c e = let p = not_refused (out 0 after) (out c s) (λ (x : Out ℕ S). x.answer) refl e in (p.0, ap (λ (x : Out ℕ S). x.left) p.1)

  pub if_refused : (c : ℕ) → ((stored c s after).answer ≡ 0 → ⊥) → (stored c s after).left ≡ s
  if_refused c = pick_case (λ (x : Out ℕ S). (x.answer ≡ 0 → ⊥) → x.left ≡ s) (eqb c 0) (λ _ e. absurd (e refl)) (λ _ e. refl)
