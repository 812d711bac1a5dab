-- The walk over a row's two halves.
use Rattle.row.proofs.Halves.{low_half, high_half, no_half}
use Rattle.row.proofs.clear_half.Goals as goal

pub returns-then-v-eq0 : goal.returns-then-v-eq0
returns-then-v-eq0 c = low_half _ c.if-v-eq0.true

pub returns-then-v-eq0-2 : goal.returns-then-v-eq0-2
returns-then-v-eq0-2 c = high_half _ c.if-v-eq0.false c.if-v-eq0-2.true

pub returns-else-v-eq0-2 : goal.returns-else-v-eq0-2
returns-else-v-eq0-2 c = no_half _ c.if-v-eq0.false c.ranges.v.fits c.if-v-eq0-2.false
