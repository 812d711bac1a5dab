-- Document 01, "Queries, start and recovery": what is wrong with a huge frame, and the first one that is faulty.
use Rattle.std.specs.Prelude.{true, false, not, List, ℕ, ◌+◌, ◌-◌, ◌*◌, ◌^◌, eqb, ltb}
use Rattle.base.specs.Walk.{pick, first}
use Rattle.base.specs.Code.{unless}
use Rattle.base.specs.Bits.{block_is}
use Rattle.rules.specs.Numbers.{mark, entries_needed, present, whole}
use Rattle.rules.specs.State.{Mem, entry_of, clear_of}
use Rattle.rules.specs.Numbered.{Fault}
use Rattle.rules.specs.Refusals.{sizes_refusal}

-- the answer of an audit: code, huge frame and reason
abbrev pub fault : ℕ → ℕ → ℕ → Fault
fault c x r = record { code = c; huge = x; reason = r }

-- "1 mark over a partial huge frame, 2 mark with a set bit": "reason 1 goes before 2"
abbrev pub marked_reason : ℕ → ℕ → List ℕ → ℕ → ℕ
marked_reason h n rs x = pick (whole h n x) (unless (block_is false rs (x * 2 ^ h) (2 ^ h)) 2) 1

-- "3 clear bit past N, 4 count differs from the clear bits": "3 before 4". Past N are the frames from N to the huge frame's end
abbrev pub counted_reason : ℕ → ℕ → List ℕ → ℕ → ℕ → ℕ
counted_reason h n rs e x = pick (block_is true rs n ((x + 1) * 2 ^ h - n)) (unless (eqb e (clear_of h rs x)) 4) 3

-- "3 and 4 apply only to present entries without the mark, and absent ones have only 5", "absent entry not 0"; 0 where nothing is wrong
unfoldable pub reason : ℕ → ℕ → Mem → ℕ → ℕ
reason h n m x =
    pick (present h n x)
    (pick (eqb (entry_of m.entries x) mark) (marked_reason h n m.rows x) (counted_reason h n m.rows (entry_of m.entries x) x))
    (unless (eqb (entry_of m.entries x) 0) 5)

-- how many huge frames are passed before "the first faulty huge frame"
unfoldable pub faultless : ℕ → ℕ → ℕ → Mem → ℕ
unfolding reason
faultless h n t m = first (λ x. not (eqb (reason h n m x) 0)) (entries_needed h n t) 0

-- "the first faulty huge frame and its reason", "clean is 0, 0"
unfoldable pub audit_all : ℕ → ℕ → ℕ → Mem → Fault
unfolding reason faultless
audit_all h n t m = pick (ltb (faultless h n t m) (entries_needed h n t)) (fault 0 (faultless h n t m) (reason h n m (faultless h n t m))) (fault 0 0 0)

unfoldable pub audit : ℕ → ℕ → ℕ → Mem → Fault
audit h n t m = pick (eqb (sizes_refusal h n t m) 0) (audit_all h n t m) (fault (sizes_refusal h n t m) 0 0)
