-- The start row is taken modulo the rows.
use Rattle.std.proofs.Common.{◌≡◌, ◌-◌, ◌%◌, ◌<◌, sym, ap, ◌∙◌, mod-lt, pow_pos, ℕ}
use lib.Bits.{bit_and}
use Rattle.base.specs.Size.{rows_per}
use Rattle.base.proofs.Refused.{handed_on, refused_here}
use Rattle.base.proofs.Sizes.{mask_mod}
use Rattle.bitfield_rules.specs.Calls as spec
use Rattle.bitfield_rules.proofs.Search.{start_mod}
use Rattle.bitfield_rules.proofs.Laws.{order_low, order_rows}
use Rattle.search.proofs.first_zeros.Goals as goal
use Rattle.search.proofs.first_zeros.Goals.{After-rows}

pub returns-in_err-order : goal.returns-in_err-order
unfolding spec.first_zeros
returns-in_err-order c =
    let e = c.in_err-order.field-0.0 in
    handed_on spec.placed_of c.from_residual.result e c.from_residual.ensures.1 ∙ refused_here _ (λ k. spec.placed k 0) e c.in_err-order.ensures

-- the start row, as the code takes it
masked : (c : After-rows) → bit_and c.args.start_row (c.rows.result - 1) ≡ c.args.start_row % rows_per c.args.h.order
masked c = mask_mod c.args.start_row (c.args.h.order - 6) c.rows.ensures

start_low : (c : After-rows) → bit_and c.args.start_row (c.rows.result - 1) < rows_per c.args.h.order
start_low c = rw (masked c) (mod-lt c.args.start_row (pow_pos (c.args.h.order - 6)))

-- which finds the same
start_same : (c : After-rows) → let a = c.args in
    spec.first_zeros a.h.order a.rows.now (bit_and a.start_row (c.rows.result - 1)) a.order ≡ spec.first_zeros a.h.order a.rows.now a.start_row a.order
start_same c =
    let a = c.args in
    ap (λ (x : ℕ). spec.first_zeros a.h.order a.rows.now x a.order) (masked c) ∙ start_mod a.h.order a.rows.now a.start_row a.order

pub find_by_order-requires : goal.find_by_order-requires
find_by_order-requires c =
    let code = sym c.in_ok-order.ensures in
    (order_rows _ _ _ code, start_low (goal.at.find_by_order-requires c).After-rows, order_low _ _ _ code)

pub returns : goal.returns
returns c = ap spec.placed_of c.ok_or.ensures.value ∙ c.find_by_order.ensures ∙ start_same (goal.at.returns c).After-rows
