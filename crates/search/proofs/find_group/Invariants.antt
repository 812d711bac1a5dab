-- The row that is come to lies some groups on from the start row, none of which is clear.
use Rattle.std.proofs.Common.{◌≡◌, ℕ, ◌+◌, ◌-◌, ◌*◌, ◌≤◌, ◌^◌, List}
use Rattle.bitfield_rules.specs.Calls.{group_rows}
use Rattle.bitfield_rules.proofs.Search.{NoneOf}
use Rattle.search.proofs.find_group.Given as goal

-- the row is some groups on from the start row
pub record Passed (h : ℕ) (rows : List ℕ) (start order row : ℕ) : Type 0 where
  pub groups : ℕ
  pub at : row ≡ start + groups * group_rows order
  pub most : groups ≤ 2 ^ (h - order)
  pub none : NoneOf h rows start order groups

abbrev pub invariant-loop-row : goal.invariant-loop-row
invariant-loop-row l = Passed l.fn.h.order l.rows l.start l.order l.row

abbrev pub decreases-loop-row : goal.decreases-loop-row
decreases-loop-row l = l.end - l.row
