-- Rows of which the bits below a frame are clear and those from it on set: each bit, and how many are clear. Assumes nothing.
use mathlib.Core.Path.{◌≡◌, ◌∙◌}
use mathlib.Core.Bool.{Bool, true, false}
use mathlib.Core.List.{List}
use mathlib.Core.Logic.{inl}
use Prim.Native.Nat.{ℕ, ◌+◌, ◌-◌, ◌*◌, ◌≤◌, ◌<◌, min}
use native.Mathlib.Omega.{arith}
use lib.ListN.{length}
use Rattle.base.specs.Walk.{count}
use Rattle.base.specs.Bits.{bit_is, with_bits}
use Rattle.base.proofs.Walks.{count_below}
use Rattle.base.proofs.Writes.{length_with}
use Rattle.base.proofs.Frames.{alike, bit_written, bit_kept}

-- the bits below c clear, and those from c on set, in the first k rows
module _ (rows : List ℕ) (c k : ℕ) (lent : k ≤ length rows) (low : c ≤ k * 64) where
  abbrev cleared_to : List ℕ
  cleared_to = with_bits true (with_bits false rows 0 c) c (k * 64)

  pub cleared_below : (b : Bool) (f : ℕ) → f < c → bit_is b cleared_to f ≡ alike b false
  cleared_below b f l =
      bit_kept true (with_bits false rows 0 c) c (k * 64) low b f (omega (arith, length_with false rows 0 c)) (inl l)
      ∙ bit_written false rows 0 c (omega arith) b f (omega arith) (omega arith) l

  pub cleared_past : (b : Bool) (f : ℕ) → c ≤ f → f < k * 64 → bit_is b cleared_to f ≡ alike b true
  cleared_past b f l u = bit_written true (with_bits false rows 0 c) c (k * 64) low b f (omega (arith, length_with false rows 0 c)) l u

  pub cleared_count : (s p : ℕ) → p + s ≤ k * 64 → count (bit_is false cleared_to) s p ≡ min (c - p) s
  cleared_count s p l = count_below (bit_is false cleared_to) c s p (λ f a b u. cleared_below false f u) (λ f a b u. cleared_past false f u (omega arith))
