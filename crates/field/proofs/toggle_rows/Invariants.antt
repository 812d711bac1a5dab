-- Every row but those from i up to e is as expected.
use Rattle.std.proofs.Common.{◌≡◌, ℕ, ◌-◌, ◌<◌, ◌≤◌, length, get_or}
use Rattle.field.proofs.toggle_rows.Given as goal

abbrev pub invariant-loop-i : goal.invariant-loop-i
invariant-loop-i l = record {
  inside : l.e ≤ length l.rows;
  seen : (j : ℕ) → j < length l.rows → (l.i ≤ j → j < l.e → ⊥) → get_or l.rows j 0 ≡ l.want;
}

abbrev pub decreases-loop-i : goal.decreases-loop-i
decreases-loop-i l = l.e - l.i
