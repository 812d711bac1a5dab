-- Refused, or all needed huge frames asked. Assumes nothing.
use mathlib.Core.Path.{sym, ◌∙◌}
use Rattle.base.proofs.Codes.{answered}
use Rattle.base.proofs.Refused.{handed_on, refused_here}
use Rattle.rules.specs.Answers.{fault_of}
use Rattle.rules.specs.Audit as spec
use Rattle.rules.proofs.Lent.{sized}
use Rattle.staff_h.proofs.audit.Goals as goal

pub returns-in_err-t : goal.returns-in_err-t
unfolding spec.audit
returns-in_err-t c =
    handed_on fault_of c.from_residual.result c.in_err-t.field-0.0 c.from_residual.ensures.1
    ∙ refused_here _ (λ x. spec.fault x 0 0) c.in_err-t.field-0.0 c.in_err-t.ensures.code

pub all-requires : goal.all-requires
all-requires c = rw c.in_ok-t.ensures.size (sized _ _ _ _ (sym c.in_ok-t.ensures.code))

pub returns : goal.returns
unfolding spec.audit
returns c = answered _ _ (sym c.in_ok-t.ensures.code) (rw c.in_ok-t.ensures.size at c.all.ensures)
