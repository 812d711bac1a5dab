-- What is kept is in the line's buffer.
use Rattle.std.proofs.Common.{◌≤◌, length}
use Rattle.replay.proofs.serve.Given as goal

abbrev pub invariant-loop-rest : goal.invariant-loop-rest
invariant-loop-rest g l = l.now.kept ≤ 65

abbrev pub decreases-loop-rest : goal.decreases-loop-rest
decreases-loop-rest g l = length l.rest
