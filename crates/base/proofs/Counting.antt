-- Walks over runs of indices, and counts against sums and against walks over all indices: full counts and their quotients. Assumes nothing.
use mathlib.Core.Path.{◌≡◌, refl, sym, ap, ◌∙◌}
use mathlib.Core.Bool.{Bool, true, false, not, true≢false}
use Prim.Native.Nat.{ℕ, zero, suc, ◌+◌, ◌-◌, ◌*◌, ◌/◌, ◌≤◌, ◌<◌}
use native.Mathlib.Nat.{zero-mul, div_self, div-eq_of_lt}
use native.Mathlib.Omega.{arith}
use native.Mathlib.Numerals.{add-one}
use lib.Dec.{eqb}
use borrow.Author.Tests.{eq-eqb, ne_eqb, not-true, not-false}
use Rattle.base.specs.Walk.{pick, all, count, sum}
use Rattle.base.proofs.Walks.{all_each, all_of, all_fails, all_parts, count_le, count_full, count_of, count_none, count_parts, count_more}

module _ (p : ℕ → Bool) where
  -- a walk over g runs of s indices each
  pub all_runs : (s g at : ℕ) → all p (g * s) (at * s) ≡ all (λ x. all p s (x * s)) g at
  unfolding all
  all_runs s zero at = rw zero-mul
  all_runs s (suc g) at =
      let more : suc g * s ≡ s + g * s = omega arith in
      let next : at * s + s ≡ suc at * s = omega arith in
      ap (λ (k : ℕ). all p k (at * s)) more ∙ all_parts p s (g * s) (at * s) ∙ rw (next, all_runs s g (suc at))

  -- a count is a sum of ones
  pub count_ones : (n i : ℕ) → count p n i ≡ sum (λ j. pick (p j) 1 0) n i
  unfolding sum count
  count_ones zero i = refl
  count_ones (suc n) i = ap (λ (k : ℕ). count p k i) (sym (add-one n)) ∙ count_more p n i ∙ ap (λ (k : ℕ). k + pick (p (i + n)) 1 0) (count_ones n i)

  -- a count over g runs of s indices each is the sum of theirs
  pub count_runs : (s g at : ℕ) → count p (g * s) (at * s) ≡ sum (λ x. count p s (x * s)) g at
  unfolding sum count
  count_runs s zero at = rw (zero-mul s)
  count_runs s (suc g) at =
      let more : suc g * s ≡ g * s + s = omega arith in
      let next : (at + g) * s ≡ at * s + g * s = omega arith in
      rw (more, next, ← count_runs s g at) (count_parts p (g * s) s (at * s))

  -- indices of which none passes may be left out at the end
  pub count_short : (a b i : ℕ) → a ≤ b → ((j : ℕ) → i + a ≤ j → p j ≡ false) → count p b i ≡ count p a i
  count_short a b i l none =
      let whole : a + (b - a) ≡ b = omega arith in
      ap (λ (k : ℕ). count p k i) (sym whole) ∙ count_parts p a (b - a) i
      ∙ omega (arith, count_none p (b - a) (i + a) (λ j u _. none j u))

  -- an index that passes is counted
  pub count_some : (n i j : ℕ) → i ≤ j → j < i + n → p j ≡ true → 0 < count p n i
  count_some n i j a l e =
      let whole : j - i + 1 + (n - (j - i + 1)) ≡ n = omega arith in
      let here : i + (j - i) ≡ j = omega arith in
      rw (← whole)
      (omega (arith, count_parts p (j - i + 1) (n - (j - i + 1)) i, count_more p (j - i) i, ap {B = ℕ} (λ b. pick b 1 0) (ap p here ∙ e)))

  -- a count is at least that of a run within
  pub count_run : (n i a s : ℕ) → i ≤ a → a + s ≤ i + n → count p s a ≤ count p n i
  count_run n i a s l u =
      let front : i + (a - i) ≡ a = omega arith in
      let whole : n ≡ a - i + (s + (n - (a - i + s))) = omega arith in
      let e : count p n i ≡ count p (a - i) i + (count p s a + count p (n - (a - i + s)) (a + s)) =
      ap (λ (k : ℕ). count p k i) whole ∙ count_parts p (a - i) (s + (n - (a - i + s))) i ∙ rw (front, count_parts p s (n - (a - i + s)) a) in
      omega arith

  module _ (n i : ℕ) where
    -- where not all indices pass, the count is not full
    count_less : all p n i ≡ false → count p n i ≡ n → ⊥
    count_less e q = true≢false (sym (all_of p n i (count_full p n i q)) ∙ e)

    -- so a full count tells that all pass
    pub count_tells_all : eqb (count p n i) n ≡ all p n i
    count_tells_all = go (all p n i) refl
      where
        go : (b : Bool) → all p n i ≡ b → eqb (count p n i) n ≡ b
        go true e = eq-eqb (count p n i) n (count_of p n i (all_each p n i e))
        go false e = ne_eqb (count p n i) n (count_less e)

    -- as a count of 0 tells that none does
    pub count_tells_none : eqb (count p n i) 0 ≡ all (λ j. not (p j)) n i
    count_tells_none = go (all (λ j. not (p j)) n i) refl
      where
        go : (b : Bool) → all (λ j. not (p j)) n i ≡ b → eqb (count p n i) 0 ≡ b
        go true e = eq-eqb (count p n i) 0 (count_none p n i (λ j a l. not-true (p j) (all_each (λ j. not (p j)) n i e j a l)))
        go false e =
            let (j, a, l, q) = all_fails (λ j. not (p j)) n i e in
            ne_eqb (count p n i) 0 (λ z. omega (arith, count_some n i j a l (not-false (p j) q)))

    -- the quotient of a count by the number of indices tells that all pass
    pub quotient_tells_all : 0 < n → count p n i / n ≡ pick (all p n i) 1 0
    quotient_tells_all l = go (all p n i) refl
      where
        go : (b : Bool) → all p n i ≡ b → count p n i / n ≡ pick b 1 0
        go true e = rw (count_of p n i (all_each p n i e)) (div_self l)
        go false e = div-eq_of_lt (omega (arith, count_le p n i, count_less e))
