-- A get, and where it is done a put. Assumes nothing.
use mathlib.Core.Path.{refl}
use Rattle.base.proofs.Refused.{numbered, handed_on}
use Rattle.rules.specs.Answers.{got_of}
use Rattle.peek.proofs.Peeks.{peek_done, peek_refused}
use Rattle.peek.proofs.get.Goals as goal

pub returns-in_err-taken : goal.returns-in_err-taken
returns-in_err-taken c =
    let e = c.in_err-taken.field-0.0 in
    rw (handed_on got_of c.from_residual.result e c.from_residual.ensures.1) (peek_refused _ _ _ _ _ _ _ c.in_err-taken.ensures (numbered e.refusal))

pub returns : goal.returns
returns c = peek_done _ _ _ _ _ _ _ c.in_ok-taken.ensures refl _ _ c.put.ensures
