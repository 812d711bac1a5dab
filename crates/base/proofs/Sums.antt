-- Laws of sums over a range of indices: what a loop's turn does, and what the sum says. Assumes nothing.
use mathlib.Core.Path.{◌≡◌, refl, sym, ap}
use Prim.Native.Nat.{ℕ, zero, suc, ◌+◌, ◌*◌, ◌≤◌, ◌<◌, zero-le}
use native.Mathlib.Omega.{arith}
use native.Mathlib.Numerals.{add-one}
use native.Mathlib.Nat.{zero-add, add-zero, add-suc}
use Rattle.base.specs.Walk.{sum}

-- one index more
pub sum_more : (f : ℕ → ℕ) (n i : ℕ) → sum f (n + 1) i ≡ sum f n i + f (i + n)
unfolding sum
sum_more f n i = rw add-one

-- one index alone
pub sum_one : (f : ℕ → ℕ) (i : ℕ) → sum f 1 i ≡ f i
unfolding sum
sum_one f i = rw (add-zero i) (zero-add (f i))

-- what a loop knows after i of the k terms from at on, each of them at most b: their sum, which is at most i times b
pub record SumAt (f : ℕ → ℕ) (b at k i s : ℕ) : Type 0 where
  pub inside : i ≤ k
  pub low : s ≤ i * b
  pub sum_is : s ≡ sum f i at

module _ {f : ℕ → ℕ} {b at k : ℕ} where
  pub sum_start : SumAt f b at k 0 0
  unfolding sum
  sum_start = record { inside = zero-le; low = zero-le; sum_is = refl }

  -- a turn adds one term
  pub sum_turn : {i s x : ℕ} → SumAt f b at k i s → i < k → x ≡ f (at + i) → x ≤ b → SumAt f b at k (i + 1) (s + x)
  sum_turn {i} {s} {x} a l e m = record { inside = omega arith; low = omega (arith, a.low); sum_is = rw (sum_more f i at, ← e) (ap (λ (y : ℕ). y + x) a.sum_is) }

  pub sum_end : {i s : ℕ} → SumAt f b at k i s → k ≤ i → s ≡ sum f k at
  sum_end {i} a l = let last : i ≡ k = omega (arith, a.inside) in rw last at a.sum_is

-- a sum sees its terms at the walked indices alone
pub sum_same : (f g : ℕ → ℕ) (n i : ℕ) → ((j : ℕ) → i ≤ j → j < i + n → f j ≡ g j) → sum f n i ≡ sum g n i
unfolding sum
sum_same f g zero i e = refl
sum_same f g (suc n) i e = rw (sum, e (i + n) (omega arith) (omega arith), sum_same f g n i (λ j a b. e j a (omega arith)))

-- terms of at most b sum to at most n times b
pub sum_most : (f : ℕ → ℕ) (b : ℕ) → ((j : ℕ) → f j ≤ b) → (n i : ℕ) → sum f n i ≤ n * b
unfolding sum
sum_most f b e zero i = omega arith
sum_most f b e (suc n) i = omega (arith, sum_most f b e n i, e (i + n))

-- a sum in two parts
pub sum_parts : (f : ℕ → ℕ) (a b i : ℕ) → sum f (a + b) i ≡ sum f a i + sum f b (i + a)
unfolding sum
sum_parts f a zero i = rw (add-zero a) (sym (add-zero (sum f a i)))
sum_parts f a (suc b) i =
    let same : i + (a + b) ≡ i + a + b = omega arith in
    rw (add-suc, same) (omega (arith, sum_parts f a b i))

-- a sum over the indices moved by a
pub sum_shift : (f : ℕ → ℕ) (a n i : ℕ) → sum (λ j. f (a + j)) n i ≡ sum f n (a + i)
unfolding sum
sum_shift f a zero i = refl
sum_shift f a (suc n) i =
    let same : a + (i + n) ≡ a + i + n = omega arith in
    rw (sum_shift f a n i, same)
