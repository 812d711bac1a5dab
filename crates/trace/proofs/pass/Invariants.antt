-- What is left is a part of the input that the dialogue is still to be fed; all answers so far were written.
use Rattle.std.proofs.Common.{◌≤◌, length}
use Rattle.dialogue.specs.Feeds.{held}
use Rattle.trace.proofs.Parts.{Goes}
use Rattle.trace.proofs.pass.Given as goal

abbrev pub invariant-loop-rest : goal.invariant-loop-rest
invariant-loop-rest g l = record {
  kept : l.now.kept ≤ 65;
  goes : Goes (held l.fn.state l.fn.rows l.fn.entries l.fn.line) l.input (g.W.Write.contents l.fn.output) (g.W.Write.contents l.output)
      (held l.now l.rows l.entries l.line) l.rest;
}

abbrev pub decreases-loop-rest : goal.decreases-loop-rest
decreases-loop-rest g l = length l.rest
