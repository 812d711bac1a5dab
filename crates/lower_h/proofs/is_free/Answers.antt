-- Refused, or asked below or from the huge order on. Assumes nothing.
use mathlib.Core.Bool.{false}
use mathlib.Core.Path.{sym, ap, ◌∙◌}
use lib.ListN.{length}
use Rattle.base.proofs.Codes.{answered as told}
use Rattle.base.proofs.Refused.{handed_on, refused_here}
use Rattle.bitfield_rules.specs.Calls.{answered, answered_of}
use Rattle.rules.specs.Queries as spec
use Rattle.rules.proofs.Lent.{blocked}
use Rattle.lower_h.proofs.Cases.{by_small, by_huge}
use Rattle.lower_h.proofs.is_free.Goals as goal

pub returns-in_err-block : goal.returns-in_err-block
unfolding spec.is_free
returns-in_err-block c =
    handed_on answered_of c.from_residual.result c.in_err-block.field-0.0 c.from_residual.ensures.1
    ∙ refused_here _ (λ x. answered x false) c.in_err-block.field-0.0 c.in_err-block.ensures.code

pub is_free-requires : goal.is_free-requires
is_free-requires c = let a = c.args in (c.if-order-h.true, (a.n, a.t, blocked _ _ _ _ _ _ (sym c.in_ok-block.ensures.code)))

pub returns-then-order-h : goal.returns-then-order-h
unfolding spec.is_free
returns-then-order-h c = told _ _ (sym c.in_ok-block.ensures.code) (ap (answered 0) (by_small _ _ c.if-order-h.true c.is_free.ensures))

pub is_free-requires-2 : goal.is_free-requires-2
is_free-requires-2 c = let a = c.args in (c.if-order-h.false, (a.n, a.t, length a.rows.now, blocked _ _ _ _ _ _ (sym c.in_ok-block.ensures.code)))

pub returns : goal.returns
unfolding spec.is_free
returns c = told _ _ (sym c.in_ok-block.ensures.code) (ap (answered 0) (by_huge _ _ c.if-order-h.false c.is_free-2.ensures))
