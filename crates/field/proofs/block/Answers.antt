-- A place that the mask keeps passes both of the last checks, and any other fails the first that it fails, with no sum that
-- could wrap.
use Rattle.std.proofs.Common.{◌≡◌, ℕ, ◌+◌, ◌-◌, ◌%◌, ◌^◌, ◌≤◌, ◌<◌, refl, sym, ap₂, arith, le-leb, eq-eqb, ne_eqb}
use lib.Pow.{pow_mono}
use borrow.Author.Tests.{lt-leb}
use Rattle.base.proofs.Codes.{stops, passes}
use Rattle.base.proofs.Refused.{stops_here}
use Rattle.base.proofs.Sizes.{kept_aligned, kept_ends, aligned_kept}
use Rattle.bitfield_rules.proofs.Laws.{order_low}
use Rattle.field.proofs.block.Goals as goal
use Rattle.field.proofs.block.Goals.{In_ok-order, After-size}

pub returns-in_err-order : goal.returns-in_err-order
returns-in_err-order c = stops_here c.from_residual.result c.in_err-order.field-0.0 _ c.from_residual.ensures.1 c.in_err-order.ensures

-- an order that passed its check
low : (c : In_ok-order) → c.args.order ≤ c.args.h.order
low c = order_low _ _ _ (sym c.in_ok-order.ensures)

pub size-requires : goal.size-requires
size-requires c = omega (arith, low (goal.at.size-requires c).In_ok-order, c.args.h.within.high)

pub overflow_sub-last : goal.overflow_sub-last
overflow_sub-last c = omega (arith, c.frames.ensures, c.size.ensures, pow_mono (low (goal.at.overflow_sub-last c).In_ok-order))

-- the last place, of the sizes as document 01 has them
last_is : (c : After-size) → c.frames.result - c.size.result ≡ 2 ^ c.args.h.order - 2 ^ c.args.order
last_is c = ap₂ (λ (x y : ℕ). x - y) c.frames.ensures c.size.ensures

pub returns-then-place-last : goal.returns-then-place-last
returns-then-place-last c =
    let a = c.args in
    let l = low (goal.at.returns-then-place-last c).In_ok-order in
    let e = rw (last_is (goal.at.returns-then-place-last c).After-size) at c.if-place-last.true in
    passes {x = 0} c.in_ok-order.ensures refl
    (passes {x = 0} (rw (le-leb (a.place + 2 ^ a.order) (2 ^ a.h.order) (kept_ends a.place a.order a.h.order l e))) refl
    (rw (eq-eqb (a.place % 2 ^ a.order) 0 (kept_aligned a.place a.order a.h.order l e))))

pub returns-then-last-place : goal.returns-then-last-place
returns-then-last-place c =
    let a = c.args in
    let past : 2 ^ a.h.order < a.place + 2 ^ a.order = omega (arith, last_is (goal.at.returns-then-last-place c).After-size, c.if-last-place.true) in
    passes {x = 0} c.in_ok-order.ensures refl (stops _ (rw (lt-leb (a.place + 2 ^ a.order) (2 ^ a.h.order) past)) (λ e. omega arith))

pub returns-else-last-place : goal.returns-else-last-place
returns-else-last-place c =
    let a = c.args in
    let l = low (goal.at.returns-else-last-place c).In_ok-order in
    let last = last_is (goal.at.returns-else-last-place c).After-size in
    let ends : a.place + 2 ^ a.order ≤ 2 ^ a.h.order = omega (arith, last, c.if-last-place.false, pow_mono l) in
    passes {x = 0} c.in_ok-order.ensures refl
    (passes {x = 0} (rw (le-leb (a.place + 2 ^ a.order) (2 ^ a.h.order) ends)) refl
    (rw (ne_eqb (a.place % 2 ^ a.order) 0 (λ e. c.if-place-last.false (rw last (aligned_kept a.place a.order a.h.order l e ends))))))
