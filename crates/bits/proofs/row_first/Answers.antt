-- The trailing zeros of the bits from the place on lead to the first, cut off at their end.
use Rattle.std.proofs.Common.{refl, arith}
use Rattle.bits.proofs.Firsts.{row_first_is}
use Rattle.bits.proofs.row_first.Goals as goal

pub returns : goal.returns
returns c = let s = c.args in omega (arith, row_first_is s.b s.v s.place s.size c.ranges.v.fits c.requires.1 c.matching.ensures refl)
