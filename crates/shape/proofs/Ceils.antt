-- A quotient rounded up, as the code makes it: a sum, a shift down and a shift up. Assumes nothing.
use mathlib.Core.Path.{◌≡◌, ◌∙◌}
use Prim.Native.Nat.{ℕ, ◌+◌, ◌-◌, ◌*◌, ◌/◌, ◌%◌, ◌^◌, ◌≤◌, ◌<◌}
use native.Mathlib.Nat.{mul_comm}
use native.Mathlib.Omega.{arith}
use lib.Pow.{pow_mono, shr_le, shl_exact}
use Rattle.rules.specs.Numbers.{ceil}

-- n frames in units of 2 ^ o, rounded up, and 2 ^ k for each unit: nothing is shifted out. s is what `size(o)` answers
pub ceil_shifted : (n o k : ℕ) {s : ℕ} → s ≡ 2 ^ o → n ≤ 1048576 → o ≤ 20 → k < 10 → (n + (s - 1)) / 2 ^ o * 2 ^ k % 2 ^ 64 ≡ 2 ^ k * ceil n (2 ^ o)
ceil_shifted n o k e l h b =
    let m : 2 ^ o ≤ 2 ^ 20 = pow_mono h in
    rw e
    (shl_exact 32 k 64 (omega (arith, shr_le (n + (2 ^ o - 1)) o)) (omega arith) ∙ mul_comm (ceil n (2 ^ o)) (2 ^ k))
