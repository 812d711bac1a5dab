-- Masks of a row: what the code's operators on words do to a block of bits. Assumes nothing.
use mathlib.Core.Path.{◌≡◌, sym, ap, ◌∙◌}
use mathlib.Core.Bool.{Bool, true, false}
use Prim.Native.Nat.{ℕ, ◌+◌, ◌-◌, ◌*◌, ◌/◌, ◌%◌, ◌^◌, ◌<◌}
use native.Mathlib.Nat.{add-sub_cancel_left, one-mul, zero-mul, add-zero, mul-div_cancel}
use native.Mathlib.Omega.{arith}
use lib.Dec.{lit<}
use lib.Bits.{bit_and, bit_or, and_high, or_add_and}
use lib.Pow.{high_ones, shl_exact, pow_pos, pow-add, split, shr-shr}
use Rattle.base.specs.Bits.{bits_at, solid, overlay}

-- the s bits from place p on, all set, as the code makes them
abbrev pub block : ℕ → ℕ → ℕ
block p s = (2 ^ s - 1) * 2 ^ p

-- a shifted one, at any width: what `1 << k` is
pub shl_one : (w k : ℕ) → k < w → 1 * 2 ^ k % 2 ^ w ≡ 2 ^ k
shl_one w k h = shl_exact 1 k w (lit< tt) (omega arith) ∙ one-mul (2 ^ k)

pub and_block : (v p s : ℕ) → bit_and v (block p s) ≡ bits_at v p s * 2 ^ p
and_block v p s = ap (bit_and v) (sym (high_ones s p)) ∙ and_high v s p

-- a row in three parts: above a block, the block, and below it
pub parts : (v p s : ℕ) → v ≡ v / 2 ^ (p + s) * 2 ^ (p + s) + bits_at v p s * 2 ^ p + v % 2 ^ p
parts v p s =
    let a = split v p in
    let b = split (v / 2 ^ p) s in
    let q : v / 2 ^ p / 2 ^ s ≡ v / 2 ^ (p + s) = shr-shr v p s in
    let e : 2 ^ (p + s) ≡ 2 ^ s * 2 ^ p = ap (λ (k : ℕ). 2 ^ k) (omega arith) ∙ pow-add 2 s p in
    three (v / 2 ^ p) (v / 2 ^ (p + s)) (bits_at v p s) (v % 2 ^ p) (2 ^ s) (2 ^ p) (2 ^ (p + s)) v (sym a) (sym b ∙ ap (λ (x : ℕ). x * 2 ^ s + bits_at v p s) q) e
  where
    three : (x y m r S P E v : ℕ) → v ≡ x * P + r → x ≡ y * S + m → E ≡ S * P → v ≡ y * E + m * P + r
    three x y m r S P E v a b e = rw (a, b, e) (omega arith)

-- a block from p on is that from p to p + s
width : (p s : ℕ) → p + s - p ≡ s
width p s = add-sub_cancel_left p s

-- ored with its mask, a block is set, whatever it was
pub overlay_or : (v p s : ℕ) → bit_or v (block p s) ≡ overlay true v p (p + s)
overlay_or v p s = let q = parts v p s in let a = and_block v p s in rw (width p s) (omega (arith, or_add_and v (block p s)))

-- and with the mask taken off again, it is clear
pub overlay_off : (v p s : ℕ) → bit_or v (block p s) - block p s ≡ overlay false v p (p + s)
overlay_off v p s = let q = parts v p s in let a = and_block v p s in omega (arith, or_add_and v (block p s))

-- an empty block changes nothing
solid_none : (b : Bool) → solid b 0 ≡ 0
solid_none true = omega arith
solid_none false = omega arith

pub overlay_none : (b : Bool) (v p : ℕ) → overlay b v p p ≡ v
overlay_none b v p =
    let z : p - p ≡ 0 = omega arith in
    rw (z, solid_none b, zero-mul, add-zero) (split v p)

-- a test of the masked row is a test of the block's bits
pub test_bits : (b : Bool) (v p s : ℕ) → bit_and v (block p s) ≡ solid b s * 2 ^ p → bits_at v p s ≡ solid b s
test_bits b v p s e =
    sym (mul-div_cancel (bits_at v p s) (pow_pos p)) ∙ ap (λ (x : ℕ). x / 2 ^ p) (sym (and_block v p s) ∙ e) ∙ mul-div_cancel (solid b s) (pow_pos p)

pub bits_test : (b : Bool) (v p s : ℕ) → bits_at v p s ≡ solid b s → bit_and v (block p s) ≡ solid b s * 2 ^ p
bits_test b v p s e = and_block v p s ∙ ap (λ (x : ℕ). x * 2 ^ p) e
