-- Each turn feeds some of what is left.
use Rattle.std.proofs.Common.{◌<◌, sym, length, arith}
use borrow.Author.Tests.{eqb-false}
use Rattle.dialogue.proofs.Cases.{part_long, feeds_some}
use Rattle.replay.proofs.serve.Goals as goal

pub loop-rest-smaller : goal.loop-rest-smaller
loop-rest-smaller g c =
    let rest = c.loop-rest.rest.now in
    let left : 0 < length rest = omega (arith, eqb-false (length rest) 0 (sym c.loop-rest-test.ensures)) in
    let some : 0 < c.feed-fed.result.used = feeds_some _ _ _ _ c.feed-fed.ensures left in
    omega (arith, part_long rest c.feed-fed.result.used)
