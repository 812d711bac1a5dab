-- The memory is as lent, and no visit before the one after `from` others ends the get. The measure is what is left of the tree.
use mathlib.Core.Path.{◌≡◌}
use Prim.Native.Nat.{◌-◌, ◌/◌}
use Rattle.base.specs.Size.{rows_per}
use Rattle.base.proofs.Walks.{FirstAt}
use Rattle.rules.specs.State.{mem}
use Rattle.rules.proofs.GetSteps.{stops_at}
use Rattle.visits.proofs.get.Given as goal

abbrev pub invariant-loop-j : goal.invariant-loop-j
invariant-loop-j l = record {
  start : l.start ≡ l.row / rows_per l.h.order;
  rows : l.rows ≡ l.initial.rows;
  entries : l.entries ≡ l.initial.entries;
  passed : FirstAt (stops_at l.h.order l.n l.t.huge (mem l.initial.rows l.initial.entries) l.row l.order) l.t.huge l.from;
}

abbrev pub decreases-loop-j : goal.decreases-loop-j
decreases-loop-j l = l.t.huge - l.from
