-- To order 6 a block is written by a mask of one row, above by solid rows.
use Rattle.std.proofs.Common.{◌≡◌, ◌+◌, ◌-◌, ◌/◌, ◌^◌, sym, ◌∙◌, arith, rules}
use native.Mathlib.Nat.{add-sub_cancel_left}
use Rattle.base.proofs.Writes.{with_row}
use Rattle.bits.proofs.Blocks.{row_end, rows_end, with_by_rows}
use Rattle.bits.proofs.write_block.Goals as goal

pub overlay_row-requires : goal.overlay_row-requires
overlay_row-requires c = omega (arith, row_end c.requires c.if-order-le6.true)

pub returns-then-order-le6 : goal.returns-then-order-le6
returns-then-order-le6 c = rw (c.overlay_row.ensures, c.size.ensures) (sym (with_row c.args.b _ _ _ (row_end c.requires c.if-order-le6.true)))

pub slice_bounds-fill_rows-end : goal.slice_bounds-fill_rows-end
slice_bounds-fill_rows-end c = omega (arith, rows_end c.requires c.if-order-le6.false)

pub returns : goal.returns
returns c =
    let s = c.args in
    let n : s.place / 64 + c.size-2.result - s.place / 64 ≡ 2 ^ (s.order - 6) = add-sub_cancel_left _ _ ∙ c.size-2.ensures in
    rw (c.fill_rows.ensures, c.solid_row.ensures, n) (with_by_rows c.requires s.b c.if-order-le6.false (λ j. search rules))
