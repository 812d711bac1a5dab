-- The checks of the sizes and of the order are the first of the block's. Assumes nothing.
use mathlib.Core.Path.{◌∙◌}
use Rattle.base.proofs.Codes.{regrouped}
use Rattle.base.proofs.Refused.{stops_here}
use Rattle.refuse.proofs.block.Goals as goal

pub returns-in_err-size-clause-code : goal.returns-in_err-size-clause-code
returns-in_err-size-clause-code c =
    stops_here c.from_residual.result c.in_err-size.field-0.0 _ c.from_residual.ensures.1 c.in_err-size.ensures.code ∙ regrouped _ _ _
