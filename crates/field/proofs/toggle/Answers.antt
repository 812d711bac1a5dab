-- Above order 6 by its rows, and to it within one row.
use Rattle.std.proofs.Common.{◌≡◌, ◌+◌, ◌-◌, ◌/◌, ◌^◌, sym, ap, ◌∙◌, arith}
use native.Mathlib.Nat.{add-sub_cancel_left}
use Rattle.base.specs.Code.{out}
use Rattle.base.proofs.Refused.{stops_here}
use Rattle.bits.specs.Block.{Block}
use Rattle.bits.proofs.Blocks.{rows_end}
use Rattle.bitfield_rules.specs.Calls as spec
use Rattle.bitfield_rules.proofs.Laws.{within, in_rows}
use Rattle.bitfield_rules.proofs.Toggles.{toggle_turned, toggle_left, toggle_by_rows}
use Rattle.field.proofs.Refusals.{stored_here}
use Rattle.field.proofs.toggle.Goals as goal
use Rattle.field.proofs.toggle.Goals.{In_ok-block}

pub returns-in_err-block : goal.returns-in_err-block
unfolding spec.toggle
returns-in_err-block c =
    let r = c.from_residual.result in
    let e = c.in_err-block.field-0.0 in
    stored_here _ _ r e c.from_residual.ensures.1 (stops_here r e _ c.from_residual.ensures.1 c.in_err-block.ensures)

-- a block that passes its checks lies in the rows
lies : (c : In_ok-block) → Block c.args.rows.now c.args.place c.args.order
lies c = in_rows c.args.h.within (within _ _ _ _ (sym c.in_ok-block.ensures))

pub size-requires : goal.size-requires
size-requires c = omega (arith, (lies (goal.at.size-requires c).In_ok-block).order)

pub overflow_add-e : goal.overflow_add-e
overflow_add-e c = omega (arith, c.size.ensures, rows_end (lies (goal.at.overflow_add-e c).In_ok-block) c.if-order-gt6.true)

pub slice_bounds-toggle_rows-end : goal.slice_bounds-toggle_rows-end
slice_bounds-toggle_rows-end c = omega (arith, c.size.ensures, rows_end (lies (goal.at.slice_bounds-toggle_rows-end c).In_ok-block) c.if-order-gt6.true)

-- n is the part's length as the code has it: its end less its start
pub returns-then-order-gt6 : goal.returns-then-order-gt6
returns-then-order-gt6 c =
    let a = c.args in
    let n : a.place / 64 + c.size.result - a.place / 64 ≡ 2 ^ (a.order - 6) = add-sub_cancel_left _ _ ∙ c.size.ensures in
    toggle_by_rows a.h.order a.rows.now a.place a.order a.expected (sym c.in_ok-block.ensures) c.args.h.within c.if-order-gt6.true (λ j. ((goal.at.returns-then-order-gt6 c).In_ok-block.type_inv.rows j).fits)
    _ _ c.toggle_rows.new.rows n c.toggle_rows.ensures

pub block_is-requires : goal.block_is-requires
block_is-requires c = lies (goal.at.block_is-requires c).In_ok-block

pub returns-then-not-block_is : goal.returns-then-not-block_is
returns-then-not-block_is c =
    let a = c.args in
    toggle_left a.h.order a.rows.now a.place a.order a.expected (sym c.in_ok-block.ensures) (sym c.if-not-block_is.ensures)

pub write_block-requires : goal.write_block-requires
write_block-requires c = lies (goal.at.write_block-requires c).In_ok-block

pub returns : goal.returns
returns c =
    let a = c.args in
    ap (out 0) c.write_block.ensures ∙ toggle_turned a.h.order a.rows.now a.place a.order a.expected (sym c.in_ok-block.ensures) (sym c.if-not-block_is.ensures)
