-- A block of bits, row by row: tested within one row and over whole rows, and its clear bits counted (Writes has what is stored). Assumes nothing.
use mathlib.Core.Path.{◌≡◌, refl, sym, ap, ◌∙◌}
use mathlib.Core.Bool.{Bool, true, false}
use mathlib.Core.List.{List}
use Prim.Native.Nat.{ℕ, zero, suc, ◌+◌, ◌-◌, ◌*◌, ◌/◌, ◌%◌, ◌^◌, ◌≤◌, ◌<◌}
use native.Mathlib.Nat.{add-zero, zero-add, div-one, mod-eq_of_lt, add-suc}
use native.Mathlib.Numerals.{add-one}
use native.Mathlib.Omega.{arith}
use lib.Dec.{eqb}
use lib.Pow.{pow_pos, shr-shr, mod-pow-add}
use lib.Count.{ones, ones_step, ones-ones}
use lib.ListN.{get_or}
use borrow.Author.Tests.{eq-eqb, ne_eqb, eqb-true, eqb-false}
use Rattle.base.specs.Walk.{pick, all, count}
use Rattle.base.specs.Bits.{bits_at, solid, bit_is, block_is}
use Rattle.base.proofs.Sizes.{pow_divides, rest_by_less, place_ends}
use Rattle.base.proofs.Walks.{all_same, all_parts, all_shift, count_same, count_shift}

-- ---- a block of order o: in one row to order 6, and 2 ^ (o - 6) rows from there on

-- an aligned block that is no longer than a row ends in the row in which it starts
pub row_fits : (p o : ℕ) → o ≤ 6 → p % 2 ^ o ≡ 0 → p % 64 + 2 ^ o ≤ 64
row_fits p o h e = place_ends p o 6 h e

-- from order 6 on a block is whole rows
pub rows_size : (o : ℕ) → 6 ≤ o → 2 ^ o ≡ 2 ^ (o - 6) * 64
rows_size o h = sym (pow_divides 6 o h)

-- and starts with a row
pub rows_start : (p o : ℕ) → 6 ≤ o → p % 2 ^ o ≡ 0 → p ≡ p / 64 * 64
rows_start p o h e =
    let z : p % 64 ≡ 0 = sym (rest_by_less p 6 o h) ∙ ap (λ (x : ℕ). x % 64) e in
    omega arith

-- ---- a block as a number

-- two tests that hold together are one
pub same_test : (x y u v : ℕ) → (x ≡ y → u ≡ v) → (u ≡ v → x ≡ y) → eqb x y ≡ eqb u v
same_test x y u v f g = go (eqb x y) refl
  where
    go : (t : Bool) → eqb x y ≡ t → t ≡ eqb u v
    go true e = sym (eq-eqb u v (f (eqb-true x y e)))
    go false e = sym (ne_eqb u v (λ q. eqb-false x y e (g q)))

-- two numbers are equal if their lowest bits are, and the rest
digit_test : (a m c d : ℕ) → a < 2 → c < 2 → eqb (m * 2 + a) (d * 2 + c) ≡ pick (eqb a c) (eqb m d) false
digit_test a m c d ha hc = go (eqb a c) refl
  where
    go : (t : Bool) → eqb a c ≡ t → eqb (m * 2 + a) (d * 2 + c) ≡ pick t (eqb m d) false
    go true e = let q = eqb-true a c e in same_test (m * 2 + a) (d * 2 + c) m d (λ h. omega arith) (λ h. omega arith)
    go false e = ne_eqb (m * 2 + a) (d * 2 + c) (λ h. eqb-false a c e (omega arith))

solid_more : (b : Bool) (s : ℕ) → solid b (suc s) ≡ solid b s * 2 + pick b 1 0
solid_more true s = omega (arith, pow_pos s)
solid_more false s = omega arith

one_bit_lt : (b : Bool) → pick {A = ℕ} b 1 0 < 2
one_bit_lt true = omega arith
one_bit_lt false = omega arith

-- bits that are all b are a solid number
pub solid_test : (b : Bool) (v p s i : ℕ) → all (λ j. eqb (bits_at v (p + j) 1) (pick b 1 0)) s i ≡ eqb (bits_at v (p + i) s) (solid b s)
unfolding all
solid_test b v p zero i = none b
  where
    none : (b : Bool) → true ≡ eqb (bits_at v (p + i) 0) (solid b 0)
    none true = sym (eq-eqb (bits_at v (p + i) 0) 0 (omega arith))
    none false = sym (eq-eqb (bits_at v (p + i) 0) 0 (omega arith))
solid_test b v p (suc s) i =
    let x = v / 2 ^ (p + i) in
    let half : v / 2 ^ (p + suc i) ≡ x / 2 = ap (λ (k : ℕ). v / 2 ^ k) (add-suc p i ∙ sym (add-one (p + i))) ∙ sym (shr-shr v (p + i) 1) in
    let cut : x % 2 ^ suc s ≡ x / 2 % 2 ^ s * 2 + x % 2 = ap (λ (k : ℕ). x % 2 ^ k) (sym (add-one s)) ∙ mod-pow-add x s 1 in
    rw (solid_test b v p s (suc i), half, cut, solid_more b s)
    (sym (digit_test (x % 2) (x / 2 % 2 ^ s) (pick b 1 0) (solid b s) (omega arith) (one_bit_lt b)))

-- ---- tests of blocks

module _ (b : Bool) (rows : List ℕ) where
  -- within a row
  pub block_row : (p s : ℕ) → p % 64 + s ≤ 64 → block_is b rows p s ≡ eqb (bits_at (get_or rows (p / 64) 0) (p % 64) s) (solid b s)
  unfolding block_is bit_is
  block_row p s h =
      all_same _ (λ j. eqb (bits_at (get_or rows (p / 64) 0) (p % 64 + j) 1) (pick b 1 0)) s 0 (λ j _ l. same j l)
      ∙ solid_test b (get_or rows (p / 64) 0) (p % 64) s 0 ∙ ap (λ (k : ℕ). eqb (bits_at (get_or rows (p / 64) 0) k s) (solid b s)) (add-zero (p % 64))
    where
      same : (j : ℕ) → j < 0 + s → eqb (bits_at (get_or rows ((p + j) / 64) 0) ((p + j) % 64) 1) (pick b 1 0) ≡ eqb (bits_at (get_or rows (p / 64) 0) (p % 64 + j) 1) (pick b 1 0)
      same j l =
          let r : (p + j) / 64 ≡ p / 64 = omega arith in
          let q : (p + j) % 64 ≡ p % 64 + j = omega arith in
          rw (r, q)

  module _ (fits : (j : ℕ) → get_or rows j 0 < 2 ^ 64) where
    -- one whole row
    pub whole_row : (i : ℕ) → block_is b rows (i * 64) 64 ≡ eqb (get_or rows i 0) (solid b 64)
    whole_row i =
        let r : i * 64 / 64 ≡ i = omega arith in
        let q : i * 64 % 64 ≡ 0 = omega arith in
        block_row (i * 64) 64 (omega arith) ∙ rw (r, q, div-one, mod-eq_of_lt (fits i))

    -- whole rows
    pub block_rows : (i k : ℕ) → block_is b rows (i * 64) (k * 64) ≡ all (λ j. eqb (get_or rows (i + j) 0) (solid b 64)) k 0
    unfolding block_is all
    block_rows i zero = refl
    block_rows i (suc k) =
        let more : suc k * 64 ≡ k * 64 + 64 = omega arith in
        let last : all (λ j. bit_is b rows (i * 64 + j)) 64 (0 + k * 64) ≡ eqb (get_or rows (i + k) 0) (solid b 64) =
        ap (all (λ j. bit_is b rows (i * 64 + j)) 64) (zero-add (k * 64) ∙ sym (add-zero (k * 64)))
        ∙ sym (all_shift (λ j. bit_is b rows (i * 64 + j)) (k * 64) 64 0)
        ∙ all_same _ (λ j. bit_is b rows ((i + k) * 64 + j)) 64 0 (λ j _ _. ap (bit_is b rows) (sum i k j)) ∙ whole_row (i + k) in
        ap (λ (n : ℕ). all (λ j. bit_is b rows (i * 64 + j)) n 0) more ∙ all_parts (λ j. bit_is b rows (i * 64 + j)) (k * 64) 64 0
        ∙ rw (last, block_rows i k) (sym (ap (λ (n : ℕ). all (λ j. eqb (get_or rows (i + j) 0) (solid b 64)) n 0) (sym (add-one k))
        ∙ all_parts (λ j. eqb (get_or rows (i + j) 0) (solid b 64)) k 1 0 ∙ rw (zero-add k) (one (all (λ j. eqb (get_or rows (i + j) 0) (solid b 64)) k 0) (eqb (get_or rows (i + k) 0) (solid b 64)))))
      where
        sum : (i k j : ℕ) → i * 64 + (k * 64 + j) ≡ (i + k) * 64 + j
        sum i k j = omega arith

        one : (s t : Bool) → pick s (pick t true false) false ≡ pick s t false
        one true true = refl
        one true false = refl
        one false t = refl

-- a run of bits in two parts
pub block_parts : (b : Bool) (rows : List ℕ) (p s u : ℕ) → block_is b rows p (s + u) ≡ pick (block_is b rows p s) (block_is b rows (p + s) u) false
unfolding block_is
block_parts b rows p s u =
    all_parts (λ j. bit_is b rows (p + j)) s u 0
    ∙ ap (λ (t : Bool). pick (all (λ j. bit_is b rows (p + j)) s 0) t false)
    (all_shift (bit_is b rows) p u (0 + s) ∙ ap (all (bit_is b rows) u) (ends p s) ∙ sym (all_shift (bit_is b rows) (p + s) u 0))
  where
    ends : (p s : ℕ) → p + (0 + s) ≡ p + s + 0
    ends p s = omega arith

-- ---- clear bits counted

-- the set and the clear bits of a number of n bits are n
ones_zeros : (v n i : ℕ) → v / 2 ^ i < 2 ^ n → ones (v / 2 ^ i) + count (λ j. eqb (bits_at v j 1) 0) n i ≡ n
unfolding count
ones_zeros v zero i h =
    let z : v / 2 ^ i ≡ 0 = omega arith in
    ap (λ (x : ℕ). ones x + 0) z ∙ add-zero (ones 0) ∙ ones-ones 0
ones_zeros v (suc n) i h =
    let x = v / 2 ^ i in
    let half : v / 2 ^ suc i ≡ x / 2 = ap (λ (k : ℕ). v / 2 ^ k) (sym (add-one i)) ∙ sym (shr-shr v i 1) in
    let rest = ones_zeros v n (suc i) (rw half (omega arith)) in
    go (eqb (bits_at v i 1) 0) refl (ones_step x) (rw half at rest)
  where
    go : (t : Bool) → eqb (bits_at v i 1) 0 ≡ t → ones (v / 2 ^ i) ≡ v / 2 ^ i % 2 + ones (v / 2 ^ i / 2)
        → ones (v / 2 ^ i / 2) + count (λ j. eqb (bits_at v j 1) 0) n (suc i) ≡ n
        → ones (v / 2 ^ i) + pick t (suc (count (λ j. eqb (bits_at v j 1) 0) n (suc i))) (count (λ j. eqb (bits_at v j 1) 0) n (suc i)) ≡ suc n
    go true e s r = let z = eqb-true (bits_at v i 1) 0 e in omega arith
    go false e s r = let z = eqb-false (bits_at v i 1) 0 e in omega arith

-- a row's clear bits are 64 less its set ones
pub zeros_row : (rows : List ℕ) (i : ℕ) → get_or rows i 0 < 2 ^ 64 → count (bit_is false rows) 64 (i * 64) ≡ 64 - ones (get_or rows i 0)
unfolding bit_is
zeros_row rows i h =
    let v = get_or rows i 0 in
    let one : ones (v / 2 ^ 0) + count (λ j. eqb (bits_at v j 1) 0) 64 0 ≡ 64 = ones_zeros v 64 0 (rw div-one h) in
    let here : count (bit_is false rows) 64 (i * 64) ≡ count (λ j. eqb (bits_at v j 1) 0) 64 0 =
    ap (count (bit_is false rows) 64) (sym (add-zero (i * 64))) ∙ sym (count_shift (bit_is false rows) (i * 64) 64 0)
    ∙ count_same (λ j. bit_is false rows (i * 64 + j)) (λ j. eqb (bits_at v j 1) 0) 64 0 (λ j _ l. same j l) in
    omega (arith, rw div-one at one)
  where
    same : (j : ℕ) → j < 0 + 64 → eqb (bits_at (get_or rows ((i * 64 + j) / 64) 0) ((i * 64 + j) % 64) 1) 0 ≡ eqb (bits_at (get_or rows i 0) j 1) 0
    same j l =
        let r : (i * 64 + j) / 64 ≡ i = omega arith in
        let q : (i * 64 + j) % 64 ≡ j = omega arith in
        rw (r, q)
