-- Clear rows, set rows from a frame on, and the row of that frame between them. Assumes nothing.
use mathlib.Core.Path.{◌≡◌, sym, ◌∙◌}
use mathlib.Core.Bool.{true, false}
use mathlib.Core.List.{List, ◌++◌}
use Prim.Native.Nat.{ℕ, zero, suc, ◌+◌, ◌-◌, ◌*◌, ◌/◌, ◌%◌, ◌^◌, ◌≤◌, ◌<◌, min}
use native.Mathlib.Decide.{dec_lt, ℕ_discrete}
use native.Mathlib.Nat.{div-mul-le_self, mul-mod_left, sub-add_cancel}
use native.Mathlib.Omega.{arith}
use lib.ListN.{length, get_or, set, take, drop, replicate, length-set}
use lib.Arith.{digits_mod}
use lib.Pow.{pow_pos}
use lib.Seq.{get_or-set_same, get_or-set_other, ext_get_or}
use Rattle.base.specs.Bits.{overlay, with_bits}
use Rattle.base.specs.Size.{Huge}
use Rattle.base.specs.Walk.{written}
use Rattle.base.proofs.Masks.{overlay_none}
use Rattle.base.proofs.Sizes.{pow_divides}
use Rattle.base.proofs.Parts.{part_long}
use Rattle.base.proofs.Writes.{length_with, get_d_with, with_beyond}
use Rattle.base.proofs.Written.{length_written, written_in, written_before, written_beyond, solid_part}
use Rattle.rules.specs.Numbers.{huge_of, rows_needed}
use Rattle.rules.proofs.Present.{rows_enough}
use Rattle.rules.specs.Starts.{rows_from}

-- the huge frame of n begins at n or below
pub begins_low : (h n : ℕ) {x : ℕ} → x ≡ huge_of h n → x * 2 ^ h ≤ n
begins_low h n e = rw e (div-mul-le_self n (2 ^ h))

-- the part from a up to e made v throughout and put back in its place, as the code has it
part_filled : (l : List ℕ) (v a e : ℕ) {ys : List ℕ} → a ≤ e → e ≤ length l → ys ≡ replicate (length (take (e - a) (drop a l))) v
    → take a l ++ (ys ++ drop (e - a) (drop a l)) ≡ written (λ _. v) l a (e - a)
part_filled l v a e h fits q = rw (q, part_long l a (e - a) (omega arith)) (solid_part l v a (e - a) (omega arith))

-- ---- one row, cleared below a frame and set from there on

module _ {v : ℕ} (fits : v < 2 ^ 64) where
  row_clear : overlay true (overlay false v 0 64) 64 64 ≡ 0
  row_clear = let clear : overlay false v 0 64 ≡ 0 = omega arith in rw clear (overlay_none true 0 64)

  row_set : overlay true (overlay false v 0 0) 0 64 ≡ 2 ^ 64 - 1
  row_set = rw (overlay_none false v 0) (omega arith)

  row_border : (q : ℕ) → overlay true (overlay false v 0 q) q 64 ≡ (2 ^ (64 - q) - 1) * 2 ^ q
  row_border q =
      let kept : overlay false v 0 q ≡ v / 2 ^ q * 2 ^ q = omega arith in
      rw (kept, mul-mod_left) (omega (arith, div-mul-le_self v (2 ^ q)))

-- m - 1 shifted by the power y of two wraps at m to what is below it
wraps : (a y k : ℕ) → (a + 1) * y ≡ suc k → k * y % suc k ≡ a * y
wraps a zero k e = absurd (omega (arith, e))
wraps a (suc z) k e =
    let low : a * suc z < suc k = omega (arith, e) in
    let split : k * suc z ≡ z * suc k + a * suc z = omega (arith, e) in
    rw split (digits_mod z low)

-- the border's row, as the code makes it
ones_above : (q : ℕ) → q ≤ 64 → (2 ^ 64 - 1) * 2 ^ q % 2 ^ 64 ≡ (2 ^ (64 - q) - 1) * 2 ^ q
ones_above q h =
    let all : (2 ^ (64 - q) - 1 + 1) * 2 ^ q ≡ 2 ^ 64 = rw (sub-add_cancel (pow_pos (64 - q))) (pow_divides q 64 h) in
    wraps (2 ^ (64 - q) - 1) (2 ^ q) (2 ^ 64 - 1) all

-- ---- k rows, cleared below frame c and set from there on

module _ (rs : List ℕ) (c k : ℕ) (fits : (j : ℕ) → get_or rs j 0 < 2 ^ 64) (lent : k ≤ length rs) (low : c ≤ k * 64) where
  abbrev wanted : List ℕ
  wanted = with_bits true (with_bits false rs 0 c) c (k * 64)

  wanted_row : (j : ℕ) → j < k
      → get_or wanted j 0 ≡ overlay true (overlay false (get_or rs j 0) (min (0 - 64 * j) 64) (min (c - 64 * j) 64)) (min (c - 64 * j) 64) (min (k * 64 - 64 * j) 64)
  wanted_row j l =
      let inside : j < length (with_bits false rs 0 c) = omega (arith, length_with false rs 0 c) in
      get_d_with true (with_bits false rs 0 c) c (k * 64) j inside ∙ rw (get_d_with false rs 0 c j (omega arith))

  -- row j, where its bits from a on are set
  wanted_is : (j a : ℕ) → j < k → min (c - 64 * j) 64 ≡ a → get_or wanted j 0 ≡ overlay true (overlay false (get_or rs j 0) 0 a) a 64
  wanted_is j a l e =
      let z : min (0 - 64 * j) 64 ≡ 0 = omega arith in
      let t : min (k * 64 - 64 * j) 64 ≡ 64 = omega arith in
      wanted_row j l ∙ rw (z, t, e)

  wanted_beyond : (j : ℕ) → k ≤ j → get_or wanted j 0 ≡ get_or rs j 0
  wanted_beyond j l = with_beyond true (with_bits false rs 0 c) c (k * 64) j low (omega arith) ∙ with_beyond false rs 0 c j (omega arith) (omega arith)

  -- whole rows below the border's and from it on
  abbrev solids : List ℕ
  solids = written (λ _. 2 ^ 64 - 1) (written (λ _. 0) rs 0 (c / 64 - 0)) (c / 64) (k - c / 64)

  length_solids : length solids ≡ length rs
  length_solids = length_written (λ _. 2 ^ 64 - 1) (written (λ _. 0) rs 0 (c / 64 - 0)) (c / 64) (k - c / 64) ∙ length_written (λ _. 0) rs 0 (c / 64 - 0)

  length_wanted : length wanted ≡ length rs
  length_wanted = length_with true (with_bits false rs 0 c) c (k * 64) ∙ length_with false rs 0 c

  -- are right in every other row
  solids_right : (j : ℕ) → j < length rs → (j < k → j ≡ c / 64 → ⊥) → get_or solids j 0 ≡ get_or wanted j 0
  solids_right j inside other = elim (dec_lt j (c / 64)) [
    | yes l ↦
        written_before (λ _. 2 ^ 64 - 1) (written (λ _. 0) rs 0 (c / 64 - 0)) (c / 64) (k - c / 64) j l
        ∙ written_in (λ _. 0) rs 0 (c / 64 - 0) j (omega arith) (omega arith) inside ∙ sym (wanted_is j 64 (omega arith) (omega arith) ∙ row_clear (fits j))
    | no l ↦ elim (dec_lt j k) [
      | yes m ↦
          let past = other m in
          written_in (λ _. 2 ^ 64 - 1) (written (λ _. 0) rs 0 (c / 64 - 0)) (c / 64) (k - c / 64) j (omega arith) (omega arith) (omega (arith, length_written (λ _. 0) rs 0 (c / 64 - 0)))
          ∙ sym (wanted_is j 0 m (omega arith) ∙ row_set (fits j))
      | no m ↦
          written_beyond (λ _. 2 ^ 64 - 1) (written (λ _. 0) rs 0 (c / 64 - 0)) (c / 64) (k - c / 64) j (omega arith)
          ∙ written_beyond (λ _. 0) rs 0 (c / 64 - 0) j (omega arith) ∙ sym (wanted_beyond j (omega arith))
    ]
  ]

  -- so in all rows where the border is their end
  solids_all : c / 64 ≡ k → solids ≡ wanted
  solids_all e = ext_get_or 0 solids wanted (length_solids ∙ sym length_wanted) (λ j l. solids_right j (omega (arith, length_solids)) (λ m q. omega arith))

  -- and else with the border's row
  solids_border : (x : ℕ) → (c / 64 ≡ k → ⊥) → x ≡ (2 ^ (64 - c % 64) - 1) * 2 ^ (c % 64) → set solids (c / 64) x ≡ wanted
  solids_border x e x_is = ext_get_or 0 (set solids (c / 64) x) wanted (length-set solids (c / 64) x ∙ length_solids ∙ sym length_wanted) each
    where
      each : (j : ℕ) → j < length (set solids (c / 64) x) → get_or (set solids (c / 64) x) j 0 ≡ get_or wanted j 0
      each j l = elim (ℕ_discrete j (c / 64)) [
        | yes q ↦
            let inside : c / 64 < length solids = omega (arith, length_solids) in
            rw q (get_or-set_same solids (c / 64) x 0 inside ∙ x_is
            ∙ sym (wanted_is (c / 64) (c % 64) (omega arith) (omega arith) ∙ row_border (fits (c / 64)) (c % 64)))
        | no q ↦ get_or-set_other solids (c / 64) j x 0 q ∙ solids_right j (omega (arith, length-set solids (c / 64) x, length_solids)) (λ _ p. q p)
      ]

-- ---- the needed rows, as the code leaves them: the part below row i cleared, and that from there on set

module _ {h : ℕ} (H : Huge h) (n c i k : ℕ) (rs : List ℕ) {ys zs : List ℕ} (fits : (j : ℕ) → get_or rs j 0 < 2 ^ 64)
    (k_is : k ≡ rows_needed h n) (i_is : i ≡ c / 64) (lent : k ≤ length rs) (low : c ≤ n) (cleared : ys ≡ replicate (length (take (i - 0) rs)) 0)
    (filled : zs ≡ replicate (length (take (k - i) (drop i (ys ++ drop (i - 0) rs)))) (2 ^ 64 - 1)) where
  abbrev left : List ℕ
  left = take i (ys ++ drop (i - 0) rs) ++ (zs ++ drop (k - i) (drop i (ys ++ drop (i - 0) rs)))

  border_low : c ≤ k * 64
  border_low = omega (arith, rows_enough H n)

  left_is : left ≡ solids rs c k fits lent border_low
  left_is =
      let before : ys ++ drop (i - 0) rs ≡ written (λ _. 0) rs 0 (i - 0) = part_filled rs 0 0 i (omega arith) (omega (arith, border_low)) cleared in
      let long : k ≤ length (ys ++ drop (i - 0) rs) = rw before (omega (arith, length_written (λ _. 0) rs 0 (i - 0))) in
      part_filled (ys ++ drop (i - 0) rs) (2 ^ 64 - 1) i k (omega (arith, border_low)) long filled ∙ rw (before, i_is)

  pub rows_whole : i ≡ k → left ≡ rows_from h n rs c
  rows_whole e = rw (left_is, ← k_is) (solids_all rs c k fits lent border_low (sym i_is ∙ e))

  pub rows_border : (i ≡ k → ⊥) → {q : ℕ} → q ≡ c % 64 → set left i ((2 ^ 64 - 1) * 2 ^ q % 2 ^ 64) ≡ rows_from h n rs c
  rows_border e q_is = rw (left_is, i_is, q_is, ← k_is) (solids_border rs c k fits lent border_low _ (λ p. e (i_is ∙ p)) (ones_above (c % 64) (omega arith)))
