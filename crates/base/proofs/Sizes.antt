-- The sizes that follow from the huge order h, whichever of the two it is, the masks of a size and of its places, and a smaller size within a larger. Assumes nothing.
use mathlib.Core.Path.{◌≡◌, sym, ap, ◌∙◌}
use Prim.Native.Nat.{ℕ, ◌+◌, ◌-◌, ◌*◌, ◌/◌, ◌%◌, ◌^◌, ◌≤◌, ◌<◌}
use native.Mathlib.Decide.{dec_lt}
use native.Mathlib.Nat.{add-zero, sub-add_cancel, mul-one, mul_assoc, mul_comm, mul-le-mul_right, lt_of_mul-lt-mul_right, mul-mod_left, mod-lt, mod-eq_of_lt, div-add-mod', div-one, div-div-eq-div-mul, div-mul-le_self, lt-div-mul-add, mul-div_cancel, mul-div-mul_right}
use native.Mathlib.Omega.{arith}
use lib.Arith.{mod-mul}
use lib.Bits.{bit_and, and_mask}
use lib.Dec.{lit<}
use lib.Pow.{pow_pos, pow_mono, pow-add, mod-mod-pow, field}
use Rattle.base.specs.Size.{Huge, rows_per}
use Rattle.base.proofs.Masks.{and_block}
use Rattle.base.proofs.Rests.{quotient_is, block_ends, mod_rows}

-- a smaller power of two divides a larger one: the places of a row, the groups of a huge frame
pub pow_divides : (o k : ℕ) → o ≤ k → 2 ^ (k - o) * 2 ^ o ≡ 2 ^ k
pow_divides o k l = sym (pow-add 2 (k - o) o) ∙ ap (λ (x : ℕ). 2 ^ x) (sub-add_cancel l)

-- the frames of a huge frame are those of its rows
pub rows_frames : {h : ℕ} → Huge h → 2 ^ h ≡ rows_per h * 64
rows_frames {h} H = sym (pow_divides 6 h (omega (arith, H.low)))

-- they are few enough for any sum of a caller's
pub frames_fit : {h : ℕ} → Huge h → 2 ^ h ≤ 2048
frames_fit H = pow_mono H.high

-- and at least 512
pub frames_many : {h : ℕ} → Huge h → 512 ≤ 2 ^ h
frames_many H = pow_mono H.low

-- its rows are 32 at most
pub rows_fit : {h : ℕ} → Huge h → rows_per h ≤ 32
rows_fit {h} H = let l : h - 6 ≤ 5 = omega (arith, H.high) in pow_mono l

-- the first row of huge frame x begins with its first frame
pub first_row : {h : ℕ} → Huge h → (x : ℕ) → x * rows_per h * 64 ≡ x * 2 ^ h
first_row {h} H x = rw (rows_frames H) (mul_assoc x (rows_per h) 64)

-- and a row's place in its huge frame is that of its first frame
pub rows_wrap : {h : ℕ} → Huge h → (row : ℕ) → row % rows_per h * 64 ≡ row * 64 % 2 ^ h
rows_wrap {h} H row = rw (rows_frames H) (sym (rw (add-zero (row * 64), add-zero (row % rows_per h * 64)) at (mod_rows row 0 (rows_per h) (lit< tt) (pow_pos (h - 6)))))

-- masked by a size less one, a number keeps its rest: what `n & (size(k) - 1)` is
pub mask_mod : (n k : ℕ) {m : ℕ} → m ≡ 2 ^ k → bit_and n (m - 1) ≡ n % 2 ^ k
mask_mod n k e = rw e (and_mask n k)

-- a number's rest by the larger of two powers of two has the same rest by the smaller one
pub rest_by_less : (a o k : ℕ) → o ≤ k → a % 2 ^ k % 2 ^ o ≡ a % 2 ^ o
rest_by_less a o k l = ap (λ (x : ℕ). a % 2 ^ x % 2 ^ o) (sym (sub-add_cancel l)) ∙ mod-mod-pow a (k - o) o

-- and a block of the smaller size, aligned, ends within one of the larger
pub place_ends : (p o k : ℕ) → o ≤ k → p % 2 ^ o ≡ 0 → p % 2 ^ k + 2 ^ o ≤ 2 ^ k
place_ends p o k l e =
    let w = pow_divides o k l in
    let low : p % 2 ^ k < 2 ^ (k - o) * 2 ^ o = rw w (mod-lt p (pow_pos k)) in
    rw w at (block_ends (p % 2 ^ k) (2 ^ o) (2 ^ (k - o)) (rest_by_less p o k l ∙ e) low)

-- blocks of the smaller size wrap within the larger as their numbers do
pub blocks_wrap : (b o k : ℕ) → o ≤ k → b * 2 ^ o % 2 ^ k ≡ b % 2 ^ (k - o) * 2 ^ o
blocks_wrap b o k l =
    rw (← pow_divides o k l)
    (mod-mul (b * 2 ^ o) (pow_pos (k - o)) (pow_pos o) ∙ rw (mul-div_cancel b (pow_pos o), mul-mod_left b (2 ^ o)) (add-zero (b % 2 ^ (k - o) * 2 ^ o)))

-- a number rounded down to a whole block wraps like the number itself
pub block_wraps : (a o k : ℕ) → o ≤ k → a % 2 ^ k / 2 ^ o * 2 ^ o ≡ a / 2 ^ o * 2 ^ o % 2 ^ k
block_wraps a o k l =
    ap (λ (x : ℕ). a % 2 ^ x / 2 ^ o * 2 ^ o) (sym (sub-add_cancel l)) ∙ ap (λ (x : ℕ). x * 2 ^ o) (field a (k - o) o) ∙ sym (blocks_wrap (a / 2 ^ o) o k l)

-- rows rounded down to a whole group are frames rounded down to a whole block
pub rows_rounded : (row o : ℕ) → row / 2 ^ (o - 6) * 2 ^ (o - 6) * 64 ≡ row * 64 / 2 ^ o * 2 ^ o
rows_rounded row o = elim (dec_lt 6 o) [
  | yes high ↦
      let size = pow_divides 6 o (omega arith) in
      mul_assoc (row / 2 ^ (o - 6)) (2 ^ (o - 6)) 64 ∙ rw (← size) (ap (λ (x : ℕ). x * (2 ^ (o - 6) * 64)) (sym (mul-div-mul_right row (2 ^ (o - 6)) (lit< tt))))
  | no low ↦
      let one : o - 6 ≡ 0 = omega arith in
      let size : row * 64 ≡ row * 2 ^ (6 - o) * 2 ^ o = ap (λ (x : ℕ). row * x) (sym (pow_divides o 6 (omega arith))) ∙ sym (mul_assoc row (2 ^ (6 - o)) (2 ^ o)) in
      rw (one, div-one, mul-one) (size ∙ ap (λ (x : ℕ). x * 2 ^ o) (sym (ap (λ (x : ℕ). x / 2 ^ o) size ∙ mul-div_cancel (row * 2 ^ (6 - o)) (pow_pos o))))
]

-- the x-th run of 2 ^ k is made up of as many blocks of the smaller size, numbered from x * 2 ^ (k - o) on
module _ (o k x : ℕ) (l : o ≤ k) where
  pub block_number : (f : ℕ) → f / 2 ^ k ≡ x → (x * 2 ^ (k - o) ≤ f / 2 ^ o) × (f / 2 ^ o < x * 2 ^ (k - o) + 2 ^ (k - o))
  block_number f e =
      let number : f / 2 ^ o / 2 ^ (k - o) ≡ x = div-div-eq-div-mul f (2 ^ o) (2 ^ (k - o)) ∙ ap (λ (s : ℕ). f / s) (mul_comm (2 ^ o) (2 ^ (k - o)) ∙ pow_divides o k l) ∙ e in
      rw (← number) (div-mul-le_self (f / 2 ^ o) (2 ^ (k - o)), lt-div-mul-add (pow_pos (k - o)))

  pub block_of_number : (b : ℕ) → x * 2 ^ (k - o) ≤ b → b < x * 2 ^ (k - o) + 2 ^ (k - o) → b * 2 ^ o / 2 ^ k ≡ x
  block_of_number b low high =
      rw (← pow_divides o k l) (mul-div-mul_right b (2 ^ (k - o)) (pow_pos o) ∙ quotient_is (2 ^ (k - o)) x b low high)

-- the last place of a block of 2 ^ o in 2 ^ k, as a mask: it keeps a place exactly if that is aligned and its block ends in 2 ^ k
module _ (p o k : ℕ) (l : o ≤ k) where
  pub kept : bit_and p (2 ^ k - 2 ^ o) ≡ p / 2 ^ o % 2 ^ (k - o) * 2 ^ o
  kept =
      let w = pow_divides o k l in
      let z = pow_pos (k - o) in
      let c : 2 ^ (k - o) - 1 + 1 ≡ 2 ^ (k - o) = omega arith in
      let m : (2 ^ (k - o) - 1 + 1) * 2 ^ o ≡ 2 ^ k = rw c w in
      let e : 2 ^ k - 2 ^ o ≡ (2 ^ (k - o) - 1) * 2 ^ o = omega arith in
      ap (bit_and p) e ∙ and_block p o (k - o)

  pub kept_aligned : bit_and p (2 ^ k - 2 ^ o) ≡ p → p % 2 ^ o ≡ 0
  kept_aligned e = ap (λ (x : ℕ). x % 2 ^ o) (sym e ∙ kept) ∙ mul-mod_left (p / 2 ^ o % 2 ^ (k - o)) (2 ^ o)

  pub kept_ends : bit_and p (2 ^ k - 2 ^ o) ≡ p → p + 2 ^ o ≤ 2 ^ k
  kept_ends e =
      let low = mod-lt (p / 2 ^ o) (pow_pos (k - o)) in
      let q : (p / 2 ^ o % 2 ^ (k - o) + 1) * 2 ^ o ≤ 2 ^ (k - o) * 2 ^ o = mul-le-mul_right (2 ^ o) (omega arith) in
      omega (arith, kept, pow_divides o k l)

  pub aligned_kept : p % 2 ^ o ≡ 0 → p + 2 ^ o ≤ 2 ^ k → bit_and p (2 ^ k - 2 ^ o) ≡ p
  aligned_kept a ends =
      let d : p / 2 ^ o * 2 ^ o + p % 2 ^ o ≡ p = div-add-mod' p (2 ^ o) in
      let z = pow_pos o in
      let low : p / 2 ^ o < 2 ^ (k - o) = lt_of_mul-lt-mul_right (2 ^ o) (omega (arith, pow_divides o k l)) in
      kept ∙ ap (λ (x : ℕ). x * 2 ^ o) (mod-eq_of_lt low) ∙ omega arith
