-- The inverted row marks its lowest clear bit.
use Rattle.row.proofs.Lanes.{bit_law}
use Rattle.row.proofs.clear_bit.Goals as goal

pub returns : goal.returns
returns c = bit_law c.args.v c.ranges.v.fits
