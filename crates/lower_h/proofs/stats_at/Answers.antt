-- Refused, or counted. Assumes nothing.
use mathlib.Core.Path.{sym, ◌∙◌}
use Rattle.base.proofs.Codes.{answered}
use Rattle.base.proofs.Refused.{handed_on, refused_here}
use Rattle.rules.specs.Answers.{stats_of}
use Rattle.rules.specs.Queries as spec
use Rattle.rules.proofs.Lent.{framed}
use Rattle.lower_h.proofs.stats_at.Goals as goal

pub returns-in_err-t : goal.returns-in_err-t
unfolding spec.stats_at
returns-in_err-t c =
    handed_on stats_of c.from_residual.result c.in_err-t.field-0.0 c.from_residual.ensures.1
    ∙ refused_here _ (λ x. spec.statistics x 0 0 0) c.in_err-t.field-0.0 c.in_err-t.ensures.code

pub at-requires : goal.at-requires
at-requires c = (c.args.n, rw c.in_ok-t.ensures.size (framed _ _ _ _ _ (sym c.in_ok-t.ensures.code)))

pub returns : goal.returns
unfolding spec.stats_at
returns c = answered _ _ (sym c.in_ok-t.ensures.code) (rw c.in_ok-t.ensures.size at c.at.ensures)
