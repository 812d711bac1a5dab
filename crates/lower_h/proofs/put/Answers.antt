-- Refused, or done below or from the huge order on. Assumes nothing.
use mathlib.Core.Path.{sym, ap}
use lib.ListN.{length}
use Rattle.base.proofs.Codes.{does_it}
use Rattle.rules.specs.State.{mem, on_entries}
use Rattle.rules.specs.Put as spec
use Rattle.rules.proofs.Lent.{blocked}
use Rattle.lower_h.proofs.Cases.{put_refused, by_small, by_huge}
use Rattle.lower_h.proofs.put.Goals as goal

pub returns-in_err-block : goal.returns-in_err-block
unfolding spec.put
returns-in_err-block c = put_refused _ _ c.from_residual.result c.in_err-block.field-0.0 c.from_residual.ensures.1 c.in_err-block.ensures.code

pub put-requires : goal.put-requires
put-requires c = let a = c.args in (c.if-order-h.true, (a.n, a.t, blocked _ _ _ _ _ _ (sym c.in_ok-block.ensures.code)))

pub returns-then-order-h : goal.returns-then-order-h
unfolding spec.put
returns-then-order-h c = does_it _ _ _ (sym c.in_ok-block.ensures.code) (by_small _ _ c.if-order-h.true c.put.ensures)

pub put-requires-2 : goal.put-requires-2
put-requires-2 c = let a = c.args in (c.if-order-h.false, (a.n, a.t, length a.rows.now, blocked _ _ _ _ _ _ (sym c.in_ok-block.ensures.code)))

pub returns : goal.returns
unfolding spec.put
returns c =
    does_it _ _ _ (sym c.in_ok-block.ensures.code) (by_huge _ _ c.if-order-h.false (ap (on_entries (mem c.args.rows.now c.args.entries.now)) c.put-2.ensures))
