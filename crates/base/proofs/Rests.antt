-- Quotients and remainders: by where a number lies, of a sum, of whole rows, and where a multiple ends. Assumes nothing.
use mathlib.Core.Path.{◌≡◌, sym, ap, ◌∙◌}
use mathlib.Core.Logic.{◌⊎◌, inl, inr}
use Prim.Native.Nat.{ℕ, ◌+◌, ◌-◌, ◌*◌, ◌/◌, ◌%◌, ◌≤◌, ◌<◌}
use native.Mathlib.Decide.{dec_lt}
use native.Mathlib.Nat.{mod-lt, mod-eq_of_lt, mul-add-mod_self_right, div-add-mod', mul-le-mul_right, mul_assoc, lt_of_mul-lt-mul_right}
use native.Mathlib.Omega.{arith}
use lib.Arith.{digits_lt, digits_div}

-- the numbers of the q-th run of k
pub quotient_is : (k q n : ℕ) → q * k ≤ n → n < q * k + k → n / k ≡ q
quotient_is k q n a b = let e : q * k + (n - q * k) ≡ n = omega arith in ap (λ (x : ℕ). x / k) (sym e) ∙ digits_div q (omega arith)

-- of two numbers of two digits, the lesser has the lesser first digit, or the same and the lesser second
pub digits_less : (k a b c d : ℕ) → d < k → a * k + b < c * k + d → (a < c) ⊎ ((a ≡ c) × (b < d))
digits_less k a b c d u less = elim (dec_lt a c) [
  | yes q ↦ inl q
  | no q ↦ elim (dec_lt c a) [
    | yes r ↦ absurd (omega (arith, digits_lt r u))
    | no r ↦ let e : a ≡ c = omega arith in inr (e, omega (arith, ap (λ (x : ℕ). x * k) e))
  ]
]

-- a summand taken modulo n
pub mod_sum : (a b n : ℕ) → (a % n + b) % n ≡ (a + b) % n
mod_sum a b n =
    let d : a / n * n + a % n ≡ a = div-add-mod' a n in
    let e : a + b ≡ a / n * n + (a % n + b) = omega arith in
    sym (rw e (mul-add-mod_self_right (a / n) n (a % n + b)))

-- a multiple of m that is below a multiple of m ends at or before it
pub block_ends : (p m n : ℕ) → p % m ≡ 0 → p < n * m → p + m ≤ n * m
block_ends p m n e l =
    let d : p / m * m + p % m ≡ p = div-add-mod' p m in
    let k : p / m < n = lt_of_mul-lt-mul_right m (omega arith) in
    let q : (p / m + 1) * m ≤ n * m = mul-le-mul_right m (omega arith) in
    omega arith

-- the remainder of a number of whole rows and a rest
pub mod_rows : (a r n : ℕ) → r < 64 → 0 < n → (a * 64 + r) % (n * 64) ≡ a % n * 64 + r
mod_rows a r n hr hn =
    let d : a / n * n + a % n ≡ a = div-add-mod' a n in
    let l : a % n < n = mod-lt a hn in
    let m : (a % n + 1) * 64 ≤ n * 64 = mul-le-mul_right 64 (omega arith) in
    let e : a * 64 + r ≡ a / n * (n * 64) + (a % n * 64 + r) = rw (← mul_assoc) (omega arith) in
    rw e (mul-add-mod_self_right (a / n) (n * 64) (a % n * 64 + r) ∙ mod-eq_of_lt (omega arith))
