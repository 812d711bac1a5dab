-- The block's bits fit above its place, so nothing is shifted out, and the row ored with them is the row with the block set.
use Rattle.std.proofs.Common.{◌≡◌, ◌+◌, ◌*◌, ◌%◌, ◌^◌, ◌<◌, ◌≤◌, ap, arith, shl_exact, le-ltb, lt-ltb, le-leb}
use lib.Pow.{ones_lt}
use Rattle.base.proofs.Masks.{block, overlay_or}
use Rattle.row.specs.Row.{numbers, lowest, first_zeros}
use Rattle.row.proofs.Laws.{lowest_clear}
use Rattle.row.proofs.taken.Goals as goal

pub returns-then-place-lt64 : goal.returns-then-place-lt64
unfolding first_zeros
returns-then-place-lt64 c o l bits is =
    let v = c.args.v in
    let p = c.args.place in
    let low : lowest o v < 64 = omega (arith, c.if-place-lt64.true) in
    let room : 2 ^ o + p ≤ 64 = omega (arith, (lowest_clear o v l low).within) in
    let shifted : c.args.ones * 2 ^ p % 2 ^ 64 ≡ block p (2 ^ o) = rw bits (shl_exact (2 ^ o) p 64 (ones_lt (2 ^ o)) room) in
    rw (le-leb o 6 l, ← is, lt-ltb p 64 c.if-place-lt64.true, shifted) (ap (numbers 0 p) (overlay_or v p (2 ^ o)))

pub returns-else-place-lt64 : goal.returns-else-place-lt64
unfolding first_zeros
returns-else-place-lt64 c o l bits is = rw (le-leb o 6 l, ← is, le-ltb _ _ c.if-place-lt64.false)
