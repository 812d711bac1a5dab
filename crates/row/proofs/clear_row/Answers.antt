-- The walk over one lane, which is the row.
use Rattle.std.proofs.Common.{◌≡◌, ◌%◌, ◌^◌, mod-eq_of_lt, div-one, arith, eq-eqb, ne_eqb}
use Rattle.base.specs.Walk.{first}
use Rattle.row.specs.Row.{lowest}
use Rattle.row.proofs.clear_row.Goals as goal

pub returns-then-v-eq0 : goal.returns-then-v-eq0
unfolding lowest first
returns-then-v-eq0 c =
    let e : c.args.v % 2 ^ 64 ≡ 0 = omega arith in
    rw (div-one, eq-eqb _ _ e)

pub returns-else-v-eq0 : goal.returns-else-v-eq0
unfolding lowest first
returns-else-v-eq0 c = rw (div-one, mod-eq_of_lt c.ranges.v.fits, ne_eqb _ _ c.if-v-eq0.false)
