-- Document 01, "Queries, start and recovery": the two starts.
use Rattle.std.specs.Prelude.{true, false, List, ℕ, ◌-◌, ◌*◌, ◌/◌, ◌^◌, min}
use Rattle.base.specs.Walk.{pick, written}
use Rattle.base.specs.Bits.{with_bits}
use Rattle.base.specs.Code.{Out, stored}
use Rattle.rules.specs.Numbers.{mark, rows_needed, entries_needed, whole}
use Rattle.rules.specs.State.{Mem, with_rows, with_entries}
use Rattle.rules.specs.Refusals.{sizes_refusal}

-- the needed rows with the bits of the frames below c clear and all later ones set
abbrev pub rows_from : ℕ → ℕ → List ℕ → ℕ → List ℕ
rows_from h n rs c = with_bits true (with_bits false rs 0 c) c (rows_needed h n * 64)

-- the entry of huge frame x where all its frames below N are free: 0 if it is absent
abbrev pub free_entry : ℕ → ℕ → ℕ → ℕ
free_entry h n x = min (n - x * 2 ^ h) (2 ^ h)

-- .. and where all are held: the mark for a whole huge frame, 0 for a partial or an absent one
abbrev pub held_entry : ℕ → ℕ → ℕ → ℕ
held_entry h n x = pick (whole h n x) mark 0

-- "free_all: all frames below N free. Absent entries 0, bits past N set"
unfoldable pub all_free : ℕ → ℕ → ℕ → Mem → Mem
all_free h n t m = with_entries (with_rows m (rows_from h n m.rows n)) (written (free_entry h n) m.entries 0 (entries_needed h n t))

-- "reserve_all: all held (mark for whole huge frames; a partial one has all bits set, entry 0)"; a mark has all bits clear
unfoldable pub all_held : ℕ → ℕ → ℕ → Mem → Mem
all_held h n t m = with_entries (with_rows m (rows_from h n m.rows (n / 2 ^ h * 2 ^ h))) (written (held_entry h n) m.entries 0 (entries_needed h n t))

unfoldable pub free_all : ℕ → ℕ → ℕ → Mem → Out ℕ Mem
free_all h n t m = stored (sizes_refusal h n t m) m (all_free h n t m)

unfoldable pub reserve_all : ℕ → ℕ → ℕ → Mem → Out ℕ Mem
reserve_all h n t m = stored (sizes_refusal h n t m) m (all_held h n t m)
