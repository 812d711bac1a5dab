-- The dialogue was fed what is used, and its answers are in the text.
use Rattle.std.proofs.Common.{◌-◌, ◌≤◌, length}
use Rattle.dialogue.specs.Feeds.{held}
use Rattle.dialogue.proofs.Cases.{Going}
use Rattle.dialogue.proofs.serve.Given as goal

abbrev pub invariant-loop-used : goal.invariant-loop-used
invariant-loop-used l = record {
  kept : l.now.kept ≤ 65;
  going : Going (held l.fn.state l.fn.rows l.fn.entries l.fn.line) l.input l.fn.text l.used l.end l.text (held l.now l.rows l.entries l.line);
}

abbrev pub decreases-loop-used : goal.decreases-loop-used
decreases-loop-used l = length l.input - l.used
