-- Refused, or every needed row and entry written. Assumes nothing.
use mathlib.Core.Path.{sym, ap}
use Rattle.base.specs.Code.{out}
use Rattle.base.proofs.Codes.{does_it}
use Rattle.rules.specs.State.{Mem}
use Rattle.rules.specs.Starts as spec
use Rattle.rules.proofs.Lent.{sized}
use Rattle.lower_h.proofs.Cases.{put_refused}
use Rattle.lower_h.proofs.reserve_all.Goals as goal

pub returns-in_err-t : goal.returns-in_err-t
unfolding spec.reserve_all
returns-in_err-t c = put_refused _ _ c.from_residual.result c.in_err-t.field-0.0 c.from_residual.ensures.1 c.in_err-t.ensures.code

pub reserve_all-requires : goal.reserve_all-requires
reserve_all-requires c = rw c.in_ok-t.ensures.size (sized _ _ _ _ (sym c.in_ok-t.ensures.code))

pub returns : goal.returns
unfolding spec.reserve_all
returns c = does_it _ _ _ (sym c.in_ok-t.ensures.code) (ap (λ (m : Mem). out 0 m) (rw c.in_ok-t.ensures.size at c.reserve_all.ensures))
