-- The entries are as they were, `at` is where group j of the tree begins, and no group before it is free.
use mathlib.Core.Path.{◌≡◌}
use Prim.Native.Nat.{◌/◌, ◌^◌}
use lib.ListN.{length}
use Rattle.base.specs.Size.{rows_per}
use Rattle.base.proofs.Walks.{FirstAt}
use Rattle.rules.specs.Numbers.{group_of}
use Rattle.rules.specs.State.{entries_are}
use Rattle.rules.specs.Get.{group_at}
use Rattle.rules.proofs.GroupSteps.{Tree}
use Rattle.huge.proofs.get.Given as goal

abbrev pub invariant-loop-j : goal.invariant-loop-j
invariant-loop-j l = record {
  wide : l.g ≡ group_of l.h.order l.order;
  huge : l.x ≡ l.row / rows_per l.h.order;
  tree : Tree l.fn.t.huge l.g l.x l.first l.groups (length l.initial.entries);
  kept : l.entries ≡ l.initial.entries;
  here : l.at ≡ group_at l.fn.t.huge l.g l.x l.j;
  passed : FirstAt (λ i. entries_are (2 ^ l.h.order) l.initial.entries (group_at l.fn.t.huge l.g l.x i) l.g) l.groups l.j;
}
