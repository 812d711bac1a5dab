-- Refused, or done below or from the huge order on. Assumes nothing.
use mathlib.Core.Path.{sym, ap}
use lib.ListN.{length}
use Rattle.base.proofs.Codes.{does_it}
use Rattle.rules.specs.State.{mem, on_entries}
use Rattle.rules.specs.Get as spec
use Rattle.rules.proofs.Lent.{started}
use Rattle.lower_h.proofs.Cases.{get_refused, by_small, by_huge}
use Rattle.lower_h.proofs.get.Goals as goal

pub returns-in_err-t : goal.returns-in_err-t
unfolding spec.get
returns-in_err-t c = get_refused _ _ c.from_residual.result c.in_err-t.field-0.0 c.from_residual.ensures.1 c.in_err-t.ensures.code

pub get-requires : goal.get-requires
get-requires c = (c.if-order-h.true, rw c.in_ok-t.ensures.size (started _ _ _ _ _ _ (sym c.in_ok-t.ensures.code)))

pub returns-then-order-h : goal.returns-then-order-h
unfolding spec.get
returns-then-order-h c =
    does_it _ _ _ (sym c.in_ok-t.ensures.code) (by_small _ _ c.if-order-h.true (rw c.in_ok-t.ensures.size at c.get.ensures))

pub get-requires-2 : goal.get-requires-2
get-requires-2 c = (c.if-order-h.false, (length c.args.rows.now, rw c.in_ok-t.ensures.size (started _ _ _ _ _ _ (sym c.in_ok-t.ensures.code))))

pub returns : goal.returns
unfolding spec.get
returns c =
    does_it _ _ _ (sym c.in_ok-t.ensures.code)
    (by_huge _ _ c.if-order-h.false (ap (on_entries (mem c.args.rows.now c.args.entries.now)) (rw c.in_ok-t.ensures.size at c.get-2.ensures)))
