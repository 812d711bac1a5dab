-- Document 01, "Queries, start and recovery": recover.
use Rattle.std.specs.Prelude.{Bool, not, ◌||◌, List, ℕ, ◌*◌, ◌/◌, ◌^◌, eqb, length, get_or}
use Rattle.base.specs.Walk.{pick, all, count, written}
use Rattle.base.specs.Code.{Out, out, unrefused}
use Rattle.base.specs.Size.{rows_per}
use Rattle.rules.specs.Numbers.{mark, ceil, rows_needed, entries_needed}
use Rattle.rules.specs.State.{Mem, with_rows, with_entries, entry_of, clear_of}
use Rattle.rules.specs.Audit.{reason}
use Rattle.rules.specs.Numbered.{Recovered}
use Rattle.rules.specs.Refusals.{sizes_refusal}

-- the answer of recover: code, entries and bitfields changed
abbrev pub recovered : ℕ → ℕ → ℕ → Recovered
recovered c e b = record { code = c; entries = e; bitfields = b }

-- "reason 1, 3 or 5"
abbrev pub blocks_recovery : ℕ → Bool
blocks_recovery r = eqb r 1 || eqb r 3 || eqb r 5

-- whether no huge frame has such a reason
unfoldable pub recoverable : ℕ → ℕ → ℕ → Mem → Bool
unfolding reason
recoverable h n t m = all (λ x. not (blocks_recovery (reason h n m x))) (entries_needed h n t) 0

-- "a wrong count is replaced": the entry of huge frame x afterwards; a mark stays
abbrev pub entry_after : ℕ → Mem → ℕ → ℕ
entry_after h m x = pick (eqb (entry_of m.entries x) mark) mark (clear_of h m.rows x)

-- "bits under a mark are cleared": row i afterwards
abbrev pub row_after : ℕ → Mem → ℕ → ℕ
row_after h m i = pick (eqb (entry_of m.entries (i / rows_per h)) mark) 0 (get_or m.rows i 0)

-- the rows and entries of the present huge frames afterwards
unfoldable pub mended : ℕ → ℕ → Mem → Mem
mended h n m = with_entries (with_rows m (written (row_after h m) m.rows 0 (rows_needed h n))) (written (entry_after h m) m.entries 0 (ceil n (2 ^ h)))

-- "entries .. that differ before and after", of all that are lent
unfoldable pub entries_differ : List ℕ → List ℕ → ℕ
entries_differ es es' = count (λ x. not (eqb (entry_of es x) (entry_of es' x))) (length es) 0

-- ".. and bitfields": runs of eight rows
unfoldable pub bitfields_differ : ℕ → List ℕ → List ℕ → ℕ
bitfields_differ h rs rs' = count (λ x. not (all (λ i. eqb (get_or rs i 0) (get_or rs' i 0)) (rows_per h) (x * rows_per h))) (length rs / rows_per h) 0

-- "reports entries and bitfields changed, equal to those that differ before and after"
abbrev pub differing : ℕ → Mem → Mem → Recovered
differing h m m' = recovered 0 (entries_differ m.entries m'.entries) (bitfields_differ h m.rows m'.rows)

-- "8 if any huge frame has reason 1, 3 or 5"
unfoldable pub recover_all : ℕ → ℕ → ℕ → Mem → Out Recovered Mem
unfolding recoverable mended entries_differ bitfields_differ
recover_all h n t m = pick (recoverable h n t m) (out (differing h m (mended h n m)) (mended h n m)) (out (recovered 8 0 0) m)

unfoldable pub recover : ℕ → ℕ → ℕ → Mem → Out Recovered Mem
recover h n t m = unrefused (sizes_refusal h n t m) (recovered (sizes_refusal h n t m) 0 0) m (recover_all h n t m)
