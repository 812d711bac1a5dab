-- Two checks in their order.
use Rattle.std.proofs.Common.{refl}
use borrow.Author.Tests.{le-leb, lt-leb}
use Rattle.base.proofs.Codes.{passes}
use Rattle.base.proofs.Refused.{stops_here}
use Rattle.field.proofs.order.Goals as goal

pub returns-in_err-rows : goal.returns-in_err-rows
returns-in_err-rows c = stops_here c.from_residual.result c.in_err-rows.field-0.0 _ c.from_residual.ensures.1 c.in_err-rows.ensures

pub returns-then-order-h : goal.returns-then-order-h
returns-then-order-h c = passes {x = 0} c.in_ok-rows.ensures refl (rw (le-leb _ _ c.if-order-h.true))

pub returns-else-order-h : goal.returns-else-order-h
returns-else-order-h c = passes {x = 0} c.in_ok-rows.ensures refl (rw (lt-leb _ _ c.if-order-h.false))
