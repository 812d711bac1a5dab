-- Codes checked in their order: a check that stops, one that passes, and what passing all of them means. Assumes nothing.
use mathlib.Core.Path.{◌≡◌, refl, sym, ◌∙◌}
use mathlib.Core.Bool.{Bool, true, false}
use Prim.Native.Nat.{ℕ, zero, suc}
use native.Mathlib.Omega.{arith}
use lib.Dec.{eqb}
use borrow.Author.Tests.{eq-eqb, ne_eqb, eqb-true, eqb-false}
use Rattle.base.specs.Walk.{pick}
use Rattle.base.specs.Code.{unless, or_else, Out, out, unrefused}
use Rattle.base.proofs.Walks.{pick_both}

-- a code that is not 0 is the answer
pub stops : {r a : ℕ} (b : ℕ) → r ≡ a → (r ≡ 0 → ⊥) → r ≡ or_else a b
unfolding or_else
stops {r} {a} b e n = rw (ne_eqb a 0 (λ z. n (e ∙ z))) e

-- a code that is 0 leaves the answer to the next check
pub passes : {x a b r : ℕ} → x ≡ a → x ≡ 0 → r ≡ b → r ≡ or_else a b
unfolding or_else
passes {x} {a} e z f = rw (eq-eqb a 0 (sym e ∙ z)) f

-- where both codes are 0, and only there, so is the first of them
pub none_of : (a b : ℕ) → or_else a b ≡ 0 → (a ≡ 0) × (b ≡ 0)
unfolding or_else
none_of a b e = go (eqb a 0) refl e
  where
    go : (t : Bool) → eqb a 0 ≡ t → pick t b a ≡ 0 → (a ≡ 0) × (b ≡ 0)
    go true q f = (eqb-true a 0 q, f)
    go false q f = (f, absurd (let z : ◌≡◌ {A = ℕ} 0 1 = cc (eq-eqb a 0 f) in omega arith))

-- a code that is not given shows its test
pub holds : (t : Bool) (c : ℕ) → unless t (suc c) ≡ 0 → t ≡ true
holds true c e = refl
holds false c e = absurd (omega arith)

-- the first of three codes that is not 0 is the same however they are grouped
pub regrouped : (a b c : ℕ) → or_else (or_else a b) c ≡ or_else a (or_else b c)
unfolding or_else
regrouped zero b c = refl
regrouped (suc a) b c = simp (ne_eqb (suc a) 0 (λ e. omega arith))

-- a code behind which there is none
pub or_none : (a : ℕ) → or_else a 0 ≡ a
unfolding or_else
or_none zero = refl
or_none (suc a) = rw (ne_eqb (suc a) 0 (λ e. omega arith))

-- a test that holds gives no code: r is what the code's own test answers
pub no_code : {r b : Bool} (c : ℕ) → r ≡ b → r ≡ true → 0 ≡ unless b c
no_code c e q = rw (sym e ∙ q)

-- and one that fails gives its code
pub its_code : {r b : Bool} (c : ℕ) → r ≡ b → r ≡ false → c ≡ unless b c
its_code c e q = rw (sym e ∙ q)

-- ---- a call refused with the memory as it was, or done

module _ {A S : Type 0} (m : S) (does : Out A S) where
  -- a code that is not 0 is the answer, as the call words it
  pub refuses : (word : ℕ → A) {c r : ℕ} → r ≡ c → (r ≡ 0 → ⊥) → out (word r) m ≡ unrefused c (word c) m does
  refuses word {c} e n = rw (ne_eqb c 0 (λ z. n (e ∙ z)), e)

  -- a code that is 0 lets the call be done
  pub does_it : {c : ℕ} (refusal : A) {x : Out A S} → c ≡ 0 → x ≡ does → x ≡ unrefused c refusal m does
  does_it {c} refusal z e = rw (eq-eqb c 0 z) e

-- the same of a call that answers alone
module _ {A : Type 0} (does : A) where
  pub refused : (word : ℕ → A) {c r : ℕ} → r ≡ c → (r ≡ 0 → ⊥) → word r ≡ pick (eqb c 0) does (word c)
  refused word {c} e n = rw (ne_eqb c 0 (λ z. n (e ∙ z)), e)

  pub answered : {c : ℕ} (refusal : A) {x : A} → c ≡ 0 → x ≡ does → x ≡ pick (eqb c 0) does refusal
  answered {c} refusal z e = rw (eq-eqb c 0 z) e

-- two calls that are refused by one code, or answer alike
pub answer_alike : {A : Type 0} (word : ℕ → A) {c d : ℕ} {x z : A} → c ≡ d → (c ≡ 0 → x ≡ z) → pick (eqb c 0) x (word c) ≡ pick (eqb d 0) z (word d)
answer_alike word {c} e f = rw (← e) (pick_both ◌≡◌ (eqb c 0) (λ q. f (eqb-true c 0 q)) (λ _. refl))

-- a call that answers the code 0 was not refused; c is the refusals' code
pub done : {A : Type 0} (does refusal : A) {c : ℕ} (code : A → ℕ) → code refusal ≡ c → code (pick (eqb c 0) does refusal) ≡ 0
    → (c ≡ 0) × (pick (eqb c 0) does refusal ≡ does)
done does refusal {c} code q e = go (eqb c 0) refl e
  where
    go : (t : Bool) → eqb c 0 ≡ t → code (pick t does refusal) ≡ 0 → (c ≡ 0) × (pick t does refusal ≡ does)
    go true p e = (eqb-true c 0 p, refl)
    go false p e = absurd (eqb-false c 0 p (sym q ∙ e))
