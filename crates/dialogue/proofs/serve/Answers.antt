-- `dialogue::serve` meets its contract: each turn feeds some of the input, and its answer fits. Assumes nothing.
use Rattle.std.proofs.Common.{arith}
use Rattle.dialogue.specs.Feeds.{held}
use Rattle.dialogue.proofs.Cases.{going_at_first, part_long, feeds_some, going_on, still_within}
use Rattle.dialogue.proofs.serve.Goals as goal

pub loop-used-init : goal.loop-used-init
loop-used-init c =
    let a = c.args in
    record { kept = c.requires.kept; going = going_at_first (held a.state a.rows.now a.entries.now a.line.now) a.input.now a.text.now }

pub loop-used-smaller : goal.loop-used-smaller
loop-used-smaller c =
    let within = still_within _ _ _ _ _ _ _ c.loop-used.invariant.going _ _ c.feed-fed.ensures in
    let more = feeds_some _ _ _ _ c.feed-fed.ensures (omega (arith, part_long c.args.input.now c.loop-used.used)) in
    omega arith

pub loop-used-preserved : goal.loop-used-preserved
loop-used-preserved c = record {
  kept = c.feed-fed.ensures.kept;
  going = going_on _ _ _ _ _ _ _ c.loop-used.invariant.going _ _ c.feed-fed.ensures (omega arith) c.print-end.ensures.writes;
}
