-- Sums over indices, said of a list's items as std's iterators go over them. Assumes nothing.
use mathlib.Core.Path.{◌≡◌, refl, sym, ap, ◌∙◌}
use mathlib.Core.Bool.{Bool, false}
use mathlib.Core.List.{List}
use Prim.Native.Nat.{ℕ, zero, suc, ◌+◌, ◌-◌, ◌*◌, ◌/◌, ◌^◌, ◌≤◌, ◌<◌}
use native.Mathlib.Nat.{zero-add, add-zero}
use native.Mathlib.Numerals.{add-one}
use native.Mathlib.Omega.{arith}
use lib.Count.{ones, ones_step, ones-ones}
use lib.ListN.{length, get_or, take, drop, length-drop}
use lib.Seq.{length-take-le, get_or-take, get_or-drop, take_all}
use Rattle.std.specs.List.{sum_by}
use Rattle.std.proofs.lemmas.List.Sums.{sum_by_more}
use Rattle.base.specs.Walk.{count, sum}
use Rattle.base.specs.Bits.{bit_is}
use Rattle.base.proofs.Walks.{count_parts}
use Rattle.base.proofs.Rows.{zeros_row}
use Rattle.base.proofs.Sums.{sum_same, sum_shift}

-- the sum of the items is that over the indices
sum_front : (f : ℕ → ℕ) (xs : List ℕ) (n : ℕ) → n ≤ length xs → sum_by f (take n xs) ≡ sum (λ i. f (get_or xs i 0)) n 0
unfolding sum
sum_front f xs zero h = refl
sum_front f xs (suc n) h =
    rw add-one at (sum_by_more f xs n 0 (omega arith)) ∙ ap (λ (s : ℕ). s + f (get_or xs n 0)) (sum_front f xs n (omega arith))
    ∙ ap (λ (i : ℕ). sum (λ i. f (get_or xs i 0)) n 0 + f (get_or xs i 0)) (sym (zero-add n))

pub sum_items : (f : ℕ → ℕ) (xs : List ℕ) → sum_by f xs ≡ sum (λ i. f (get_or xs i 0)) (length xs) 0
sum_items f xs = let whole : length xs ≤ length xs = omega arith in rw take_all at (sum_front f xs (length xs) whole)

-- ---- of g items from at on

module _ (xs : List ℕ) (at g : ℕ) (inside : at + g ≤ length xs) where
  many : length (take g (drop at xs)) ≡ g
  many = length-take-le g (drop at xs) (omega (arith, length-drop at xs))

  item : (j : ℕ) → j < g → get_or (take g (drop at xs)) j 0 ≡ get_or xs (at + j) 0
  item j l = rw (get_or-take, get_or-drop)

  pub sum_part : (f : ℕ → ℕ) → sum_by f (take g (drop at xs)) ≡ sum (λ i. f (get_or xs i 0)) g at
  sum_part f =
      sum_items f (take g (drop at xs))
      ∙ rw many (sum_same _ (λ j. f (get_or xs (at + j) 0)) g 0 (λ j _ l. ap f (item j (omega arith))))
      ∙ sum_shift (λ i. f (get_or xs i 0)) at g 0 ∙ ap (sum (λ i. f (get_or xs i 0)) g) (add-zero at)

-- ---- clear bits

-- a number's bits and its complement's are all
ones_other : (n v : ℕ) → v < 2 ^ n → ones (2 ^ n - 1 - v) + ones v ≡ n
ones_other zero v l =
    let z : v ≡ 0 = omega arith in
    rw (z, ones-ones 0)
ones_other (suc n) v l =
    let half : (2 ^ suc n - 1 - v) / 2 ≡ 2 ^ n - 1 - v / 2 = omega arith in
    let rest : ones ((2 ^ suc n - 1 - v) / 2) + ones (v / 2) ≡ n = rw half (ones_other n (v / 2) (omega arith)) in
    omega (arith, ones_step (2 ^ suc n - 1 - v), ones_step v)

none : (p : ℕ → Bool) → 0 ≡ count p 0 0
unfolding count
none p = refl

-- the clear bits of the rows, row by row
zeros_front : (rows : List ℕ) → ((j : ℕ) → get_or rows j 0 < 2 ^ 64) → (n : ℕ) → n ≤ length rows
    → sum_by (λ v. ones (2 ^ 64 - 1 - v)) (take n rows) ≡ count (bit_is false rows) (n * 64) 0
zeros_front rows fits zero h = none (bit_is false rows)
zeros_front rows fits (suc n) h =
    let more : suc n * 64 ≡ n * 64 + 64 = omega arith in
    let here : 0 + n * 64 ≡ n * 64 = omega arith in
    let row : ones (2 ^ 64 - 1 - get_or rows n 0) ≡ 64 - ones (get_or rows n 0) = omega (arith, ones_other 64 (get_or rows n 0) (fits n)) in
    rw add-one at (sum_by_more (λ v. ones (2 ^ 64 - 1 - v)) rows n 0 (omega arith))
    ∙ rw (more, count_parts (bit_is false rows) (n * 64) 64 0, here) (omega (arith, row, zeros_row rows n (fits n), zeros_front rows fits n (omega arith)))

pub zeros_items : (rows : List ℕ) → ((j : ℕ) → get_or rows j 0 < 2 ^ 64) → sum_by (λ v. ones (2 ^ 64 - 1 - v)) rows ≡ count (bit_is false rows) (length rows * 64) 0
zeros_items rows fits = let whole : length rows ≤ length rows = omega arith in rw take_all at (zeros_front rows fits (length rows) whole)
