-- A pair's lower bit is left clear where both bits were.
use Rattle.row.proofs.Lanes.{pair_law}
use Rattle.row.proofs.clear_pair.Goals as goal

pub returns : goal.returns
returns c = pair_law c.args.v c.ranges.v.fits
