-- One huge frame's share of a recovery: what becomes of its entry and its rows, and whether they differ from what they were.
use Rattle.std.specs.Prelude.{Bool, not, ℕ, ◌*◌, eqb, get_or}
use Rattle.base.specs.Walk.{pick, all, written}
use Rattle.base.specs.Code.{Out, out}
use Rattle.base.specs.Size.{rows_per}
use Rattle.rules.specs.State.{Mem, with_rows, with_entry, entry_of}
use Rattle.rules.specs.Numbered.{Recovered}
use Rattle.rules.specs.Recover.{recovered, entry_after, row_after}

-- whether the entry of huge frame x is another afterwards
unfoldable pub entry_differs : ℕ → Mem → ℕ → Bool
entry_differs h m x = not (eqb (entry_of m.entries x) (entry_after h m x))

-- whether one of its rows is
unfoldable pub rows_differ : ℕ → Mem → ℕ → Bool
unfolding all
rows_differ h m x = not (all (λ i. eqb (get_or m.rows i 0) (row_after h m i)) (rows_per h) (x * rows_per h))

-- huge frame x recovered, with 1 for an entry that differs and 1 for a bitfield that does
unfoldable pub mended_at : ℕ → Mem → ℕ → Out Recovered Mem
unfolding entry_differs rows_differ
mended_at h m x =
    out (recovered 0 (pick (entry_differs h m x) 1 0) (pick (rows_differ h m x) 1 0))
    (with_entry (with_rows m (written (row_after h m) m.rows (x * rows_per h) (rows_per h))) x (entry_after h m x))
