-- Refused, or all present huge frames recovered. Assumes nothing.
use mathlib.Core.Path.{sym, ap, ◌∙◌}
use Rattle.base.specs.Code.{out}
use Rattle.base.proofs.Codes.{does_it}
use Rattle.base.proofs.Refused.{handed_on, refuses_here}
use Rattle.rules.specs.Numbered.{Recovered}
use Rattle.rules.specs.State.{mem}
use Rattle.rules.specs.Answers.{recovered_of}
use Rattle.rules.specs.Recover as spec
use Rattle.rules.proofs.Lent.{sized}
use Rattle.staff_h.proofs.recover.Goals as goal

pub returns-in_err-t : goal.returns-in_err-t
unfolding spec.recover
returns-in_err-t c =
    let m = mem c.args.rows.now c.args.entries.now in
    ap (λ (x : Recovered). out x m) (handed_on recovered_of c.from_residual.result c.in_err-t.field-0.0 c.from_residual.ensures.1)
    ∙ refuses_here m _ (λ x. spec.recovered x 0 0) c.in_err-t.field-0.0 c.in_err-t.ensures.code

pub all-requires : goal.all-requires
all-requires c = rw c.in_ok-t.ensures.size (sized _ _ _ _ (sym c.in_ok-t.ensures.code))

pub returns : goal.returns
unfolding spec.recover
returns c = does_it _ _ _ (sym c.in_ok-t.ensures.code) (rw c.in_ok-t.ensures.size at c.all.ensures)
