-- The entries from `at` up to i are written.
use Rattle.std.proofs.Common.{◌≡◌, ◌-◌}
use Rattle.base.specs.Walk.{written}
use Rattle.entries.proofs.fill.Given as goal

abbrev pub invariant-loop-i : goal.invariant-loop-i
invariant-loop-i l = l.entries ≡ written (λ j. l.v) l.fn.entries l.at (l.i - l.at)
