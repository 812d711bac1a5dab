-- Each entry from `at` up to i is v.
use Rattle.std.proofs.Common.{ℕ, ◌≡◌, ◌<◌, ◌≤◌}
use Rattle.rules.specs.State.{entry_of}
use Rattle.entries.proofs.are.Given as goal

abbrev pub invariant-loop-i : goal.invariant-loop-i
invariant-loop-i l = (k : ℕ) → k < l.i → l.at ≤ k → entry_of l.entries k ≡ l.v
