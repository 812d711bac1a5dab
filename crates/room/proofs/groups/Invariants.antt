-- The groups below j that are free whole are counted. Assumes nothing.
use Rattle.std.proofs.Common.{◌+◌, ◌*◌, ◌^◌}
use Rattle.base.proofs.Walks.{CountAt}
use Rattle.rules.specs.State.{entries_are}
use Rattle.room.proofs.groups.Given as goal

abbrev pub invariant-loop-j : goal.invariant-loop-j
invariant-loop-j l = CountAt (λ i. entries_are (2 ^ l.fn.h.order) l.entries (l.at + i * l.g) l.g) l.c l.j l.blocks
