-- The first bit of a row, or of a block of rows, that is set or clear: a row's trailing zeros lead to it. Assumes nothing.
use mathlib.Core.Path.{◌≡◌, refl, sym, ap, ◌∙◌}
use mathlib.Core.Bool.{Bool, true, false}
use mathlib.Core.List.{List}
use mathlib.Core.Logic.{⊎_elim}
use Prim.Native.Nat.{ℕ, zero, suc, ◌+◌, ◌-◌, ◌*◌, ◌/◌, ◌%◌, ◌^◌, ◌≤◌, ◌<◌, min}
use native.Mathlib.Nat.{add-zero, add-suc, suc-add, div-one, eq-zero-or-pos}
use native.Mathlib.Numerals.{add-one, one-add}
use native.Mathlib.Omega.{arith}
use lib.Count.{count_trailing_zeros}
use lib.Dec.{eqb}
use lib.ListN.{get_or}
use lib.Pow.{shr-shr}
use Rattle.base.specs.Walk.{pick, first}
use Rattle.base.specs.Bits.{bits_at, bit_is}
use Rattle.base.proofs.Rows.{rows_size, rows_start, same_test}
use Rattle.base.proofs.Walks.{first_cut, first_shift, first_same, FirstFrom, part_found, part_passed}
use Rattle.bits.specs.Block.{Block}

-- ---- within a row

-- whether bit j of a row is b
abbrev pub row_is : Bool → ℕ → ℕ → Bool
row_is b v j = eqb (bits_at v j 1) (pick b 1 0)

-- the trailing zeros of the bits from i on lead to the first that is set
trailing_first : (v k i : ℕ) → i + count_trailing_zeros k (v / 2 ^ i) ≡ first (row_is true v) k i
unfolding first count_trailing_zeros
trailing_first v zero i = add-zero i
trailing_first v (suc k) i =
    let half : v / 2 ^ suc i ≡ v / 2 ^ i / 2 = ap (λ (e : ℕ). v / 2 ^ e) (sym (add-one i)) ∙ sym (shr-shr v i 1) in
    let rest = rw half at (trailing_first v k (suc i)) in
    ⊎_elim
    (λ (z : v / 2 ^ i % 2 ≡ 0). rw z (add-suc i _ ∙ sym (suc-add i _) ∙ rest))
    (λ (z : 0 < v / 2 ^ i % 2). let one : v / 2 ^ i % 2 ≡ 1 = omega arith in rw one (add-zero i))
    (eq-zero-or-pos (v / 2 ^ i % 2))

-- a number's complement has the other bits
other_bit : (n v j : ℕ) → v < 2 ^ n → j < n → bits_at (2 ^ n - 1 - v) j 1 ≡ 1 - bits_at v j 1
other_bit zero v j l h = absurd (omega arith)
other_bit (suc n) v zero l h = rw (div-one, div-one) (omega arith)
other_bit (suc n) v (suc j) l h =
    let half : (2 ^ suc n - 1 - v) / 2 ≡ 2 ^ n - 1 - v / 2 = omega arith in
    let p : (x : ℕ) → x / 2 ^ suc j ≡ x / 2 / 2 ^ j = λ x. ap (λ (e : ℕ). x / 2 ^ e) (sym (one-add j)) ∙ sym (shr-shr x 1 j) in
    rw (p (2 ^ suc n - 1 - v), p v, half) (other_bit n (v / 2) j (omega arith) (omega arith))

-- so the bits that are b are those set in the row, or in its complement
matching_bit : (b : Bool) (v j : ℕ) → v < 2 ^ 64 → j < 64 → row_is true (pick b v (2 ^ 64 - 1 - v)) j ≡ row_is b v j
matching_bit true v j l h = refl
matching_bit false v j l h = rw (other_bit 64 v j l h) (same_test (1 - bits_at v j 1) 1 (bits_at v j 1) 0 (λ e. omega arith) (λ e. omega arith))

module _ (b : Bool) (v place size : ℕ) (fits : v < 2 ^ 64) (ends : place + size ≤ 64)
    {m z : ℕ} (m_is : m ≡ pick b v (2 ^ 64 - 1 - v)) (z_is : z ≡ count_trailing_zeros 64 (m / 2 ^ place)) where
  -- the first of size bits that is b is the first of 64 that is set in the matching row, or lies past them
  pub row_first_is : first (row_is b v) size place ≡ min (place + z) (place + size)
  row_first_is =
      let e : size + (64 - size) ≡ 64 = omega arith in
      sym (first_same (row_is true m) (row_is b v) size place (λ j _ l. rw m_is (matching_bit b v j fits (omega arith))))
      ∙ first_cut (row_is true m) size (64 - size) place ∙ ap (λ (x : ℕ). min x (place + size)) (rw e (sym (trailing_first m 64 place)) ∙ ap (λ (x : ℕ). place + x) (sym z_is))

-- ---- in rows

-- where the bits of a walk lie in one row, it is a walk of that row
pub first_in_row : (b : Bool) (rows : List ℕ) (p s : ℕ) → p % 64 + s ≤ 64 → p / 64 * 64 + first (row_is b (get_or rows (p / 64) 0)) s (p % 64) ≡ first (bit_is b rows) s p
unfolding bit_is
first_in_row b rows p s ends =
    let whole : p / 64 * 64 + p % 64 ≡ p = omega arith in
    ap (λ (x : ℕ). p / 64 * 64 + x) (first_same (row_is b (get_or rows (p / 64) 0)) (λ j. bit_is b rows (p / 64 * 64 + j)) s (p % 64) (λ j _ l. same j (omega arith)))
    ∙ first_shift (bit_is b rows) (p / 64 * 64) s (p % 64) ∙ ap (first (bit_is b rows) s) whole
  where
    same : (j : ℕ) → j < 64 → row_is b (get_or rows (p / 64) 0) j ≡ row_is b (get_or rows ((p / 64 * 64 + j) / 64) 0) ((p / 64 * 64 + j) % 64)
    same j l =
        let r : (p / 64 * 64 + j) / 64 ≡ p / 64 = omega arith in
        let q : (p / 64 * 64 + j) % 64 ≡ j = omega arith in
        rw (r, q)

-- of all the bits of row i
pub first_of_row : (b : Bool) (rows : List ℕ) (i : ℕ) → i * 64 + first (row_is b (get_or rows i 0)) 64 0 ≡ first (bit_is b rows) 64 (i * 64)
first_of_row b rows i =
    let r : i * 64 / 64 ≡ i = omega arith in
    let q : i * 64 % 64 ≡ 0 = omega arith in
    rw (r, q) at (first_in_row b rows (i * 64) 64 (omega arith))

-- from order 6 on a block ends with a row
pub block_end : {rows : List ℕ} {p o : ℕ} → Block rows p o → 6 ≤ o → {size : ℕ} → size ≡ 2 ^ o → (p + size) / 64 * 64 ≡ p + size
block_end {p = p} {o = o} k h e = omega (arith, rows_size o h, rows_start p o h k.aligned)

-- what a loop knows at row i, of those of a block that ends with row e
module _ (b : Bool) (rows : List ℕ) (end place e i : ℕ) (ends : e * 64 ≡ end) (from : FirstFrom (bit_is b rows) end place (i * 64)) (l : i < e)
    {f : ℕ} (f_is : f ≡ first (row_is b (get_or rows i 0)) 64 0) where
  pub in_this_row : f < 64 → i * 64 + f ≡ first (bit_is b rows) (end - place) place
  in_this_row h = part_found (bit_is b rows) end place (i * 64) 64 from (omega arith) (rw f_is (first_of_row b rows i)) (omega arith)

  pub not_in_row : 64 ≤ f → FirstFrom (bit_is b rows) end place ((i + 1) * 64)
  not_in_row h =
      let next : i * 64 + 64 ≡ (i + 1) * 64 = omega arith in
      rw next at (part_passed (bit_is b rows) end place (i * 64) 64 from (omega arith) {f = i * 64 + f} (rw f_is (first_of_row b rows i)) (omega arith))
