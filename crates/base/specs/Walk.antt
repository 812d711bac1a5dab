-- Walks over a range of indices. A search is `first`, a test of a run `all`, a statistic `count` or `sum`, a store at each index `written`.
-- Not so: runs of bits are written by `with_bits` of Bits and `replicate`, and the text of `trace` has definitions of its own.
use Rattle.std.specs.Prelude.{Bool, true, false, List, ℕ, zero, suc, ◌+◌, set}

-- if, for any answer
abbrev pub pick {ℓ} : {A : Type ℓ} → Bool → A → A → A
pick true a b = a
pick false a b = b

-- the first of the n indices from i that p holds of, or i + n where it holds of none
unfoldable pub first : (ℕ → Bool) → ℕ → ℕ → ℕ
first p zero i = i
first p (suc n) i = pick (p i) i (first p n (suc i))

-- whether p holds of each of the n indices from i
unfoldable pub all : (ℕ → Bool) → ℕ → ℕ → Bool
all p zero i = true
all p (suc n) i = pick (p i) (all p n (suc i)) false

-- how many of the n indices from i p holds of
unfoldable pub count : (ℕ → Bool) → ℕ → ℕ → ℕ
count p zero i = 0
count p (suc n) i = pick (p i) (suc (count p n (suc i))) (count p n (suc i))

-- the list with f i at each of the n indices i from at
unfoldable pub written : (ℕ → ℕ) → List ℕ → ℕ → ℕ → List ℕ
written f l at zero = l
written f l at (suc n) = set (written f l at n) (at + n) (f (at + n))

-- the sum of f over the n indices from i
unfoldable pub sum : (ℕ → ℕ) → ℕ → ℕ → ℕ
sum f zero i = 0
sum f (suc n) i = sum f n i + f (i + n)
