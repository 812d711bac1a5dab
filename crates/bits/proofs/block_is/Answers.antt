-- To order 6 a block is tested by a mask of one row, above by its rows.
use Rattle.std.proofs.Common.{◌≡◌, ◌+◌, ◌-◌, ◌/◌, ◌^◌, ◌∙◌, arith}
use native.Mathlib.Nat.{add-sub_cancel_left, zero-mul}
use lib.Pow.{pow_pos}
use Rattle.bits.proofs.Blocks.{row_end, rows_end, block_by_mask, block_by_rows}
use Rattle.bits.proofs.block_is.Goals as goal

pub block_mask-mask-requires : goal.block_mask-mask-requires
block_mask-mask-requires c = rw c.size.ensures (pow_pos c.args.order, row_end c.requires c.if-order-le6.true)

pub returns-then-b : goal.returns-then-b
returns-then-b c =
    let test = block_by_mask c.requires c.args.b c.if-order-le6.true in
    rw (c.if-b.true, c.block_mask-mask.ensures, c.size.ensures) (rw c.if-b.true at test)

pub returns-else-b : goal.returns-else-b
returns-else-b c =
    let test = block_by_mask c.requires c.args.b c.if-order-le6.true in
    rw (c.if-b.false, c.block_mask-mask.ensures, c.size.ensures) (rw (c.if-b.false, zero-mul) at test)

pub slice_bounds-rows_are-end : goal.slice_bounds-rows_are-end
slice_bounds-rows_are-end c = omega (arith, rows_end c.requires c.if-order-le6.false)

pub returns : goal.returns
returns c =
    let s = c.args in
    let n : s.place / 64 + c.size-2.result - s.place / 64 ≡ 2 ^ (s.order - 6) = add-sub_cancel_left _ _ ∙ c.size-2.ensures in
    rw (n, c.solid_row.ensures) at c.rows_are.ensures ∙ block_by_rows c.requires s.b c.if-order-le6.false (λ j. (c.type_inv.rows j).fits)
