-- The checks in their order, and what is stored behind them.
use Rattle.std.proofs.Common.{◌^◌, ◌≤◌, ◌<◌, refl, arith, le-leb}
use borrow.Author.Tests.{lt-leb}
use Rattle.base.proofs.Codes.{passes}
use Rattle.base.proofs.Refused.{stops_here}
use Rattle.base.proofs.Stored.{refused, done}
use Rattle.bitfield_rules.specs.Calls as spec
use Rattle.field.proofs.Refusals.{stored_here}
use Rattle.field.proofs.set.Goals as goal
use Rattle.field.proofs.set.Goals.{then-end-start-via-then-end-start, then-end-start-via-else-end-start+then-frames-end}

pub returns-in_err-rows : goal.returns-in_err-rows
unfolding spec.set
returns-in_err-rows c =
    let r = c.from_residual.result in
    let e = c.in_err-rows.field-0.0 in
    stored_here _ _ r e c.from_residual.ensures.1 (stops_here r e _ c.from_residual.ensures.1 c.in_err-rows.ensures)

pub returns-then-end-start : goal.returns-then-end-start
unfolding spec.set
returns-then-end-start c =
    let a = c.args in
    elim c.then-end-start.branch [
      | then-end-start-via-then-end-start w ↦
          refused _ _ (passes {x = 0} c.in_ok-rows.ensures refl (rw (lt-leb a.start a.end w.if-end-start.true))) (λ e. omega arith)
      | then-end-start-via-else-end-start+then-frames-end w ↦
          let past : 2 ^ a.h.order < a.end = omega (arith, w.frames.ensures, w.if-frames-end.true) in
          refused _ _ (passes {x = 0} c.in_ok-rows.ensures refl (rw (le-leb a.start a.end w.if-end-start.false, lt-leb a.end (2 ^ a.h.order) past))) (λ e. omega arith)
    ]

pub returns : goal.returns
unfolding spec.set
returns c =
    let a = c.args in
    let ends : a.end ≤ 2 ^ a.h.order = omega (arith, c.frames.ensures, c.if-frames-end.false) in
    rw c.write.ensures
    (done _ _ (passes {x = 0} c.in_ok-rows.ensures refl (rw (le-leb a.start a.end c.if-end-start.false, le-leb a.end (2 ^ a.h.order) ends))))
