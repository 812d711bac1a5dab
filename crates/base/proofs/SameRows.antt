-- Rows are told by their bits. Assumes nothing.
use mathlib.Core.Path.{◌≡◌, sym, ap, ◌∙◌}
use mathlib.Core.Bool.{false}
use mathlib.Core.List.{List}
use Prim.Native.Nat.{ℕ, zero, suc, ◌+◌, ◌*◌, ◌/◌, ◌%◌, ◌^◌, ◌≤◌, ◌<◌}
use native.Mathlib.Decide.{ℕ_discrete}
use native.Mathlib.Nat.{div-div-eq-div-mul, div-one, pow-suc, mul_comm}
use native.Mathlib.Omega.{arith}
use lib.Dec.{eqb}
use lib.ListN.{get_or}
use borrow.Author.Tests.{eq-eqb, ne_eqb, eqb-true, eqb-false}
use Rattle.base.specs.Bits.{bits_at, bit_is}

-- the bits of a half
half_bit : (a i : ℕ) → bits_at (a / 2) i 1 ≡ bits_at a (suc i) 1
half_bit a i = ap (λ (x : ℕ). x % 2) (div-div-eq-div-mul a 2 (2 ^ i) ∙ ap (λ (d : ℕ). a / d) (mul_comm 2 (2 ^ i) ∙ sym (pow-suc 2 i)))

half_low : (k a : ℕ) → a < 2 ^ suc k → a / 2 < 2 ^ k
half_low k a l = omega arith

-- numbers of k bits with equal bits are equal
pub same_number : (k a b : ℕ) → a < 2 ^ k → b < 2 ^ k → ((i : ℕ) → i < k → bits_at a i 1 ≡ bits_at b i 1) → a ≡ b
same_number zero a b la lb same = omega arith
same_number (suc k) a b la lb same =
    let odd : a % 2 ≡ b % 2 = ap (λ (x : ℕ). x % 2) (sym (div-one a)) ∙ same 0 (omega arith) ∙ ap (λ (x : ℕ). x % 2) (div-one b) in
    let halves : a / 2 ≡ b / 2 =
    same_number k (a / 2) (b / 2) (half_low k a la) (half_low k b lb) (λ i l. half_bit a i ∙ same (suc i) (omega arith) ∙ sym (half_bit b i)) in
    omega arith

-- a bit is told by whether it is clear
clear_tells : (x y : ℕ) → eqb (x % 2) 0 ≡ eqb (y % 2) 0 → x % 2 ≡ y % 2
clear_tells x y e = elim (ℕ_discrete (x % 2) 0) [
  | yes z ↦ omega (arith, eqb-true (y % 2) 0 (sym e ∙ eq-eqb (x % 2) 0 z))
  | no z ↦ let w = eqb-false (y % 2) 0 (sym e ∙ ne_eqb (x % 2) 0 z) in omega arith
]

-- rows with equal bits are equal
pub same_row : (rows left : List ℕ) → ((i : ℕ) → get_or rows i 0 < 2 ^ 64) → ((i : ℕ) → get_or left i 0 < 2 ^ 64)
    → (i : ℕ) → ((f : ℕ) → i * 64 ≤ f → f < (i + 1) * 64 → bit_is false rows f ≡ bit_is false left f) → get_or rows i 0 ≡ get_or left i 0
unfolding bit_is
same_row rows left fits fits' i same = same_number 64 (get_or rows i 0) (get_or left i 0) (fits i) (fits' i) (λ j l.
    let row : (i * 64 + j) / 64 ≡ i = omega arith in
    let bit : (i * 64 + j) % 64 ≡ j = omega arith in
    clear_tells _ _ (rw (row, bit) at (same (i * 64 + j) (omega arith) (omega arith))))
