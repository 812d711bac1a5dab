-- Each turn serves a part of what is left, which is some of it, and writes its answers.
use Rattle.std.proofs.Common.{◌<◌, sym, length, arith, rules}
use borrow.Author.Tests.{eqb-true, eqb-false}
use Rattle.dialogue.specs.Feeds.{held}
use Rattle.dialogue.proofs.Cases.{part_rest, part_long, served_some}
use Rattle.trace.proofs.Parts.{goes_first, goes_on, goes_last, all_written}
use Rattle.trace.proofs.pass.Goals as goal

pub loop-rest-init : goal.loop-rest-init
loop-rest-init g c =
    let a = c.args in
    record { kept = c.requires.0.kept; goes = goes_first (held a.state a.rows.now a.entries.now a.line.now) a.input.now (g.W.Write.contents a.output.now) }

pub loop-rest-smaller : goal.loop-rest-smaller
loop-rest-smaller g c =
    let rest = c.loop-rest.rest.now in
    let left : 0 < length rest = omega (arith, eqb-false (length rest) 0 (sym c.loop-rest-test.ensures)) in
    let some : 0 < c.serve-served.result.used = served_some _ _ _ _ _ _ c.serve-served.ensures (omega arith) left in
    omega (arith, part_long rest c.serve-served.result.used)

pub loop-rest-preserved : goal.loop-rest-preserved
loop-rest-preserved g c =
    let s = c.serve-served in
    record {
      kept = s.ensures.kept;
      goes = rw part_rest (goes_on c.loop-rest.invariant.goes _ s.result _ (held s.result.state s.new.rows s.new.entries s.new.line) _ s.ensures (search rules));
    }

pub returns-clause-passes : goal.returns-clause-passes
returns-clause-passes g c =
    record { kept = c.loop-rest.invariant.kept; leaves = goes_last c.loop-rest.invariant.goes (eqb-true (length c.loop-rest.rest.now) 0 (sym c.loop-rest-test.ensures)) }

pub returns-clause-writes : goal.returns-clause-writes
returns-clause-writes g c = all_written c.loop-rest.invariant.goes (eqb-true (length c.loop-rest.rest.now) 0 (sym c.loop-rest-test.ensures))
