-- The walk over a row's two halves.
use Rattle.std.proofs.Common.{refl, arith}
use Rattle.row.specs.Row.{first_zeros}
use Rattle.row.proofs.Halves.{low_half, high_half, no_half}
use Rattle.row.proofs.taken_half.Goals as goal

pub returns-then-v-eq0 : goal.returns-then-v-eq0
returns-then-v-eq0 c = c.taken.ensures 5 (omega arith) refl (low_half _ c.if-v-eq0.true)

pub returns-then-v-eq0-2 : goal.returns-then-v-eq0-2
returns-then-v-eq0-2 c =
    c.taken-then-v-eq0-2.ensures 5 (omega arith) refl (high_half _ c.if-v-eq0.false c.if-v-eq0-2.true)

pub returns : goal.returns
unfolding first_zeros
returns c = rw (← no_half _ c.if-v-eq0.false c.ranges.v.fits c.if-v-eq0-2.false)
