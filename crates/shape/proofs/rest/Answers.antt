use Rattle.base.proofs.Sizes.{mask_mod}
use Rattle.shape.proofs.rest.Goals as goal

pub returns : goal.returns
returns c = mask_mod _ _ c.size.ensures
