-- All ones, shifted right until size of them are left, and then left to their place.
use Rattle.std.proofs.Common.{◌≡◌, ℕ, ◌+◌, ◌-◌, ◌*◌, ◌/◌, ◌%◌, ◌^◌, ◌≤◌, ap, ◌∙◌, arith}
use lib.Pow.{shl_exact, ones_lt, ones_split, high}
use Rattle.bits.proofs.block_mask.Goals as goal

-- of w ones, shifted right by all but s, s are left
ones_shr : (w s : ℕ) → s ≤ w → (2 ^ w - 1) / 2 ^ (w - s) ≡ 2 ^ s - 1
ones_shr w s h =
    let e : w ≡ s + (w - s) = omega arith in
    ap (λ (n : ℕ). (2 ^ n - 1) / 2 ^ (w - s)) e ∙ ap (λ (x : ℕ). x / 2 ^ (w - s)) (ones_split s (w - s)) ∙ high (2 ^ s - 1) (w - s) (ones_lt (w - s))

pub returns : goal.returns
returns c =
    let s = c.args in
    ap (λ (x : ℕ). x * 2 ^ s.place % 2 ^ 64) (ones_shr 64 s.size (omega arith)) ∙ shl_exact s.size s.place 64 (ones_lt s.size) (omega arith)
