-- Ored with the mask the bits are set, and with the mask taken off again they are clear.
use Rattle.std.proofs.Common.{◌≡◌, ◌+◌, ◌-◌, arith}
use lib.Bits.{or_add_and, and_le_l}
use Rattle.base.proofs.Masks.{overlay_or, overlay_off}
use Rattle.bits.proofs.overlay_row.Goals as goal

pub overflow_sub-result : goal.overflow_sub-result
overflow_sub-result c =
    let mask = c.block_mask-mask.result in
    omega (arith, or_add_and c.args.v mask, and_le_l c.args.v mask)

pub returns-then-b : goal.returns-then-b
returns-then-b c =
    let s = c.args in
    let hi : s.lo + (s.hi - s.lo) ≡ s.hi = omega arith in
    rw (c.block_mask-mask.ensures, c.if-b.true) (rw hi at (overlay_or s.v s.lo (s.hi - s.lo)))

pub returns-else-b : goal.returns-else-b
returns-else-b c =
    let s = c.args in
    let hi : s.lo + (s.hi - s.lo) ≡ s.hi = omega arith in
    rw (c.block_mask-mask.ensures, c.if-b.false) (rw hi at (overlay_off s.v s.lo (s.hi - s.lo)))
