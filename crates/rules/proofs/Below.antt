-- A block below the huge order that passed the refusals: its entry and rows are lent, as the functions on them ask. Assumes nothing.
use mathlib.Core.Path.{◌≡◌}
use mathlib.Core.Bool.{true}
use mathlib.Core.List.{List}
use Prim.Native.Nat.{ℕ, ◌+◌, ◌*◌, ◌/◌, ◌%◌, ◌^◌, ◌≤◌, ◌<◌}
use native.Mathlib.Nat.{mul-div_cancel, mul-mod_left, mul-le-mul_right, div-add-mod'}
use native.Mathlib.Omega.{arith}
use lib.Pow.{pow_pos}
use lib.ListN.{length}
use Rattle.base.specs.Size.{Huge, rows_per}
use Rattle.base.specs.Bits.{block_is, with_bits}
use Rattle.base.proofs.Sizes.{rows_frames, first_row}
use Rattle.base.proofs.Frames.{bit_written, block_of}
use Rattle.bits.specs.Block.{Block}
use Rattle.rules.specs.State.{Lengths}
use Rattle.rules.specs.Refusals.{Blocked}
use Rattle.rules.proofs.Present.{block_within}
use Rattle.rules.proofs.Lent.{block_entry, block_row}

-- ---- the sizes of the block and of a huge frame, as the code has them: shifts of 16 bits

module _ {h : ℕ} (H : Huge h) where
  -- the huge order is below 16
  pub huge_fits : h < 16
  huge_fits = omega (arith, H.high)

  module _ {o : ℕ} (low : o < h) where
    -- an order below it is too
    pub order_fits : o < 16
    order_fits = omega (arith, huge_fits)

-- ---- what is lent

module _ {h n t : ℕ} {len : Lengths} {f o : ℕ} (H : Huge h) (low : o < h) (b : Blocked h n t len f o) where
  -- its first frame is below the most that N may be
  pub frame_low : f < 1048576
  frame_low = omega (arith, b.ends, b.sized.most, pow_pos o)

  -- it is at most a huge frame
  order_low : o ≤ h
  order_low = omega arith

  -- its huge frame's entry is lent
  pub entry_lent : {x : ℕ} → x ≡ f / 2 ^ h → x < len.entries
  entry_lent e = rw e (block_entry H b)

  -- it may be turned
  pub turn_asked : (o ≤ h) × (f < 1048576) × (f % 2 ^ o ≡ 0) × ((f / 2 ^ h + 1) * rows_per h ≤ len.rows)
  turn_asked = (order_low, frame_low, b.aligned, block_row H b)

  -- its huge frame's frames are those of lent rows
  frames_lent : f / 2 ^ h * 2 ^ h + 2 ^ h ≤ len.rows * 64
  frames_lent =
      let l : (f / 2 ^ h + 1) * rows_per h * 64 ≤ len.rows * 64 = mul-le-mul_right 64 (block_row H b) in
      omega (arith, first_row H (f / 2 ^ h), rows_frames H)

  -- so the block lies in the lent rows
  pub block_asked : {rows : List ℕ} → length rows ≡ len.rows → Block rows f o
  block_asked e = record { order = omega (arith, order_fits H low); ends = omega (arith, frames_lent, block_within f o low b.aligned); aligned = b.aligned }

  -- g is the first frame of its huge frame
  module _ {g : ℕ} (g_is : g ≡ f / 2 ^ h * 2 ^ h) where
    -- it is at most the block's own
    pub first_low : g ≤ f
    first_low = omega (arith, div-add-mod' f (2 ^ h))

    -- the whole huge frame may be turned too
    pub whole_asked : (h ≤ h) × (g < 1048576) × (g % 2 ^ h ≡ 0) × ((g / 2 ^ h + 1) * rows_per h ≤ len.rows)
    whole_asked = (
      omega arith,
      omega (arith, frame_low, first_low),
      rw g_is (mul-mod_left (f / 2 ^ h) (2 ^ h)),
      rw (g_is, mul-div_cancel (f / 2 ^ h) (pow_pos h)) (block_row H b),
    )

    -- where it was set, so is the block
    pub whole_set : (rows : List ℕ) → length rows ≡ len.rows → block_is true (with_bits true rows g (g + 2 ^ h)) f (2 ^ o) ≡ true
    whole_set rows e =
        block_of true (with_bits true rows g (g + 2 ^ h)) f (2 ^ o)
        (λ j lo hi. bit_written true rows g (g + 2 ^ h) (omega arith) true j (omega (arith, frames_lent, block_within f o low b.aligned)) (omega (arith, first_low)) (omega (arith, block_within f o low b.aligned)))
