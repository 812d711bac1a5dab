-- The numbers whose trailing zeros find the lowest clear lane of a row. Assumes nothing.
use Rattle.std.proofs.Common.{◌≡◌, ℕ, zero, suc, ◌+◌, ◌-◌, ◌*◌, ◌/◌, ◌%◌, ◌^◌, ◌<◌, ◌≤◌, eqb, sym, ◌∙◌, ap₂, add-zero, add-suc, suc-mul, zero-add, zero-mul, mul-one, div-one, arith, pow_pos, shr-shr, eq-eqb, ne_eqb}
use native.Mathlib.Nat.{eq_of_mul-eq-mul_right}
use lib.Bits.{shifted_half, shifted_even}
use lib.Count.{count_trailing_zeros}
use Rattle.base.specs.Walk.{first}
use Rattle.base.specs.Bits.{bits_at}
use Rattle.base.proofs.Sizes.{pow_divides}
use Rattle.row.specs.Row.{lowest}

-- h marks the lowest clear one of v's n lanes of w bits: its lowest set bit is the lowest bit of that lane.
-- If the lowest lane is clear, nothing is asked of h's other bits; if it is held, h has nothing there and marks the lanes above.
pub data Marks (w : ℕ) : ℕ → ℕ → ℕ → Type 0 where
  none : {v h : ℕ} → Marks w zero v h
  free : {n v h : ℕ} → v % 2 ^ w ≡ 0 → h % 2 ≡ 1 → Marks w (suc n) v h
  held : {n v h k : ℕ} → (v % 2 ^ w ≡ 0 → ⊥) → h ≡ k * 2 ^ w → Marks w n (v / 2 ^ w) k → Marks w (suc n) v h

-- an odd number has no trailing zeros
zeros_odd : (k h : ℕ) → 0 < k → h % 2 ≡ 1 → count_trailing_zeros k h ≡ 0
unfolding count_trailing_zeros
zeros_odd zero h l e = absurd (omega arith)
zeros_odd (suc k) h l e = rw e

-- a number shifted left by w has w trailing zeros more
zeros_shift : (w k a : ℕ) → count_trailing_zeros (k + w) (a * 2 ^ w) ≡ count_trailing_zeros k a + w
unfolding count_trailing_zeros
zeros_shift zero k a = ap₂ count_trailing_zeros (add-zero k) (mul-one a) ∙ sym (add-zero (count_trailing_zeros k a))
zeros_shift (suc w) k a = rw (add-suc k w, add-suc (count_trailing_zeros k a) w, shifted_even, shifted_half, zeros_shift w k a)

-- the trailing zeros of what marks the n lanes from lane i on lead to the first clear one
marked : (w n i v h : ℕ) → 0 < w → Marks w n (v / 2 ^ (i * w)) h → i * w + count_trailing_zeros (n * w) h ≡ first (λ j. eqb (bits_at v (j * w) w) 0) n i * w
unfolding first count_trailing_zeros
marked w zero i v h l none = simp (zero-mul, add-zero)
marked w (suc n) i v h l (free e o) = rw (first, eq-eqb _ _ e, zeros_odd (suc n * w) h (omega arith) o) (add-zero (i * w))
marked w (suc n) i v h l (held {k = k} e o m) =
    let s : i * w + w ≡ suc i * w = sym (suc-mul i w) in
    let t : count_trailing_zeros (suc n * w) h ≡ count_trailing_zeros (n * w) k + w = rw (o, suc-mul, zeros_shift w (n * w) k) in
    rw (first, ne_eqb _ _ e) (omega (arith, marked w n (suc i) v k l (rw (shr-shr, s) at m)))

-- so what marks the lanes of a whole row has its lowest set bit at the lowest clear place
pub lowest_marked : (o n v h : ℕ) → o ≤ 6 → n * 2 ^ o ≡ 64 → Marks (2 ^ o) n v h → count_trailing_zeros 64 h ≡ lowest o v
unfolding lowest
lowest_marked o n v h l e m =
    let lanes : 2 ^ (6 - o) ≡ n = eq_of_mul-eq-mul_right (2 ^ o) (pow_pos o) (2 ^ (6 - o)) n (pow_divides o 6 l ∙ sym e) in
    let whole : Marks (2 ^ o) n (v / 2 ^ (0 * 2 ^ o)) h = rw (zero-mul, div-one) m in
    rw (lanes, ← e) (sym (zero-add _) ∙ rw zero-mul at (marked (2 ^ o) n 0 v h (pow_pos o) whole))
