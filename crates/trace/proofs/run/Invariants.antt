-- What is held is a dialogue that was fed all that was read, and all answers to that were written.
use Rattle.std.proofs.Common.{◌≤◌}
use Rattle.dialogue.specs.Feeds.{held}
use Rattle.trace.specs.Passes.{Follows}
use Rattle.trace.proofs.run.Given as goal

abbrev pub invariant-loop : goal.invariant-loop
invariant-loop g l = record {
  kept : l.state.kept ≤ 65;
  follows : Follows (held l.state l.rows l.entries l.line) (g.R.Read.remaining l.fn.input) (g.R.Read.remaining l.input)
      (g.W.Write.contents l.fn.output) (g.W.Write.contents l.output);
}
