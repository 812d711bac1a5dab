-- `changes::start` meets its contract: made, or refused. Assumes nothing.
use Rattle.std.proofs.Common.{refl}
use Rattle.base.proofs.Refused.{numbered}
use Rattle.asks.proofs.Cases.{start_made, start_refused}
use Rattle.changes.proofs.start.Goals as goal

pub returns-in-Ok : goal.returns-in-Ok
returns-in-Ok c = start_made _ _ _ _ _ _ _ c.in-Ok.ensures refl (rw c.in-Ok.is at c.of_done-answer.ensures)

pub returns-in-Err : goal.returns-in-Err
returns-in-Err c = start_refused _ _ _ _ _ _ _ c.in-Err.ensures (numbered c.in-Err.field-0) (rw c.in-Err.is at c.of_done-answer.ensures)
