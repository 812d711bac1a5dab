-- Below order 6 a block's first such bit is sought in one row, above row by row.
use Rattle.std.proofs.Common.{◌≡◌, ◌+◌, ◌-◌, ◌*◌, ◌/◌, ◌%◌, ◌^◌, sym, ◌∙◌, get_or, arith}
use native.Mathlib.Nat.{add-sub_cancel_left}
use Rattle.base.proofs.Rows.{rows_start}
use Rattle.base.proofs.Walks.{from_none, first_le}
use Rattle.bits.proofs.Blocks.{row_end}
use Rattle.bits.proofs.Firsts.{row_is, first_in_row, block_end, in_this_row, not_in_row}
use Rattle.bits.proofs.block_first.Goals as goal

pub row_first-requires : goal.row_first-requires
row_first-requires c = omega (arith, c.size-size.ensures, row_end c.requires.0 (omega arith))

pub overflow_add-result : goal.overflow_add-result
overflow_add-result c =
    let s = c.args in
    omega (arith, c.row_first.ensures, first_le (row_is s.b (get_or s.rows.now (s.place / 64) 0)) c.size-size.result (s.place % 64), c.size-size.ensures, c.requires.1)

pub returns-then-order-lt6 : goal.returns-then-order-lt6
returns-then-order-lt6 c =
    let s = c.args in
    rw (c.row_first.ensures, c.size-size.ensures) (first_in_row s.b s.rows.now s.place (2 ^ s.order) (row_end c.requires.0 (omega arith)))

-- ---- a block of rows: its end is a row's, and the frames from its place on are its size

pub loop-j-init : goal.loop-j-init
loop-j-init c = rw (sym (rows_start c.args.place c.args.order c.if-order-lt6.false c.requires.0.aligned))

pub returns-then-found-lt64 : goal.returns-then-found-lt64
returns-then-found-lt64 c =
    let ends = block_end c.requires.0 c.if-order-lt6.false c.size-size.ensures in
    let many : c.args.place + c.size-size.result - c.args.place ≡ 2 ^ c.args.order = add-sub_cancel_left _ _ ∙ c.size-size.ensures in
    rw (← many) (in_this_row _ _ _ _ _ _ ends c.loop-j.invariant c.loop-j-test.true c.row_first-found.ensures c.if-found-lt64.true)

pub loop-j-preserved : goal.loop-j-preserved
loop-j-preserved c =
    let ends = block_end c.requires.0 c.if-order-lt6.false c.size-size.ensures in
    not_in_row _ _ _ _ _ _ ends c.loop-j.invariant c.loop-j-test.true c.row_first-found.ensures c.if-found-lt64.false

pub returns : goal.returns
returns c =
    let s = c.args in
    let ends : (s.place + c.size-size.result) / 64 * 64 ≡ s.place + c.size-size.result = block_end c.requires.0 c.if-order-lt6.false c.size-size.ensures in
    let many : s.place + c.size-size.result - s.place ≡ 2 ^ s.order = add-sub_cancel_left _ _ ∙ c.size-size.ensures in
    let last : s.place + c.size-size.result ≡ c.loop-j.j * 64 = omega arith in
    rw (← many) (last ∙ from_none _ _ _ _ c.loop-j.invariant (omega arith))
