-- The counts of the orders before this one are filled in, and the others are 0. Assumes nothing.
use Rattle.std.proofs.Common.{◌≡◌}
use Rattle.base.specs.Walk.{written}
use Rattle.rules.specs.Room as spec
use Rattle.room.proofs.counts.Given as goal

abbrev pub invariant-loop-order : goal.invariant-loop-order
invariant-loop-order l = l.counts ≡ written (spec.room_at l.h.order l.t.huge l.entries l.at) l.fn.counts 0 l.order
