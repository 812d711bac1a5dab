-- Refused, a tree that is not consistent, or the reason. Assumes nothing.
use mathlib.Core.Path.{refl, sym, ◌∙◌}
use Rattle.base.proofs.Refused.{handed_on, numbered}
use Rattle.rules.specs.Numbers.{tree_of}
use Rattle.rules.specs.State.{mem}
use Rattle.rules.specs.Answers.{why_of}
use Rattle.rules.specs.Why as spec
use Rattle.rules.proofs.Lent.{blocked, at_first}
use Rattle.staff_h.proofs.Tells.{tells_refusal, tells_damage, tells_reason}
use Rattle.staff_h.proofs.why_put.Goals as goal

pub returns-in_err-t : goal.returns-in_err-t
unfolding spec.why_put
returns-in_err-t c =
    let s = c.args in
    handed_on why_of c.from_residual.result c.in_err-t.field-0.0 c.from_residual.ensures.1
    ∙ tells_refusal _ c.in_err-t.ensures.code (spec.sound s.h.order s.n s.t (mem s.rows.now s.entries.now) (tree_of s.h.order s.t s.frame)) (numbered c.in_err-t.field-0.0)

pub sound-requires : goal.sound-requires
sound-requires c = rw c.in_ok-t.ensures.size (at_first c.args.h.within (blocked _ _ _ _ _ _ (sym c.in_ok-t.ensures.code)))

pub returns-then-not-sound : goal.returns-then-not-sound
unfolding spec.why_put
returns-then-not-sound c = tells_damage _ c.in_ok-t.ensures.code refl (rw c.in_ok-t.ensures.size at c.sound.ensures) c.if-not-sound.true

pub put-requires : goal.put-requires
put-requires c = (c.args.n, c.args.t, blocked _ _ _ _ _ _ (sym c.in_ok-t.ensures.code))

pub returns : goal.returns
unfolding spec.why_put
returns c =
    tells_reason _ c.in_ok-t.ensures.code refl (rw c.in_ok-t.ensures.size at c.sound.ensures) c.if-not-sound.false
    (c.put.ensures c.args.n (blocked _ _ _ _ _ _ (sym c.in_ok-t.ensures.code)).ends)
