-- Document 01, "Numbers and memory": the lent memory, and the rows and the entry of one huge frame in it.
use Rattle.std.specs.Prelude.{false, Bool, not, List, ℕ, ◌*◌, ◌/◌, ◌^◌, ◌+◌, eqb, length, get_or, set, take, drop}
use Rattle.base.specs.Walk.{pick, count, all, sum}
use Rattle.base.specs.Code.{Out, out}
use Rattle.base.specs.Size.{rows_per}
use Rattle.base.specs.Bits.{bit_is, block_is, with_bits}
use Rattle.rules.specs.Numbers.{mark, rows_needed, entries_needed}

pub record Mem : Type 0 where
  pub rows : List ℕ
  pub entries : List ℕ

abbrev pub mem : List ℕ → List ℕ → Mem
mem rs es = record { rows = rs; entries = es }

-- a memory with other rows, with other entries, with another entry at x
abbrev pub with_rows : Mem → List ℕ → Mem
with_rows m rs = record { rows = rs; entries = m.entries }

abbrev pub with_entries : Mem → List ℕ → Mem
with_entries m es = record { rows = m.rows; entries = es }

abbrev pub with_entry : Mem → ℕ → ℕ → Mem
with_entry m x e = with_entries m (set m.entries x e)

-- the lengths of the lent slices, and those of a memory
pub record Lengths : Type 0 where
  pub rows : ℕ
  pub entries : ℕ

abbrev pub lengths : ℕ → ℕ → Lengths
lengths r e = record { rows = r; entries = e }

abbrev pub lengths_of : Mem → Lengths
lengths_of m = lengths (length m.rows) (length m.entries)

-- those that are needed
abbrev pub lengths_needed : ℕ → ℕ → ℕ → Lengths
lengths_needed h n t = lengths (rows_needed h n) (entries_needed h n t)

-- the result of a call that changes only entries
abbrev pub on_entries : {A : Type 0} → Mem → Out A (List ℕ) → Out A Mem
on_entries m o = out o.answer (with_entries m o.left)

-- the entry of huge frame x
abbrev pub entry_of : List ℕ → ℕ → ℕ
entry_of es x = get_or es x 0

-- "entry 65535 is the mark: free count 0. Any other entry is its own free count"
abbrev pub free_of : ℕ → ℕ
free_of e = pick (eqb e mark) 0 e

-- the rows of huge frame x: from 8 times its number on
abbrev pub rows_of : ℕ → List ℕ → ℕ → List ℕ
rows_of h rs x = take (rows_per h) (drop (x * rows_per h) rs)

-- "its number of clear bits": those of huge frame x
abbrev pub clear_of : ℕ → List ℕ → ℕ → ℕ
clear_of h rs x = count (bit_is false rs) (2 ^ h) (x * 2 ^ h)

-- whether the g entries from at on are all v
abbrev pub entries_are : ℕ → List ℕ → ℕ → ℕ → Bool
entries_are v es at g = all (λ i. eqb (entry_of es i) v) g at

-- "the sum over entries of free count div 2^order": over the k entries from at on
abbrev pub blocks_in : List ℕ → ℕ → ℕ → ℕ → ℕ
blocks_in es k at o = sum (λ i. free_of (entry_of es i) / 2 ^ o) k at

-- a block turned where its bits are all as expected, else 7
unfoldable pub toggled : List ℕ → ℕ → ℕ → Bool → Out ℕ (List ℕ)
toggled rs f o b = pick (block_is b rs f (2 ^ o)) (out 0 (with_bits (not b) rs f (f + 2 ^ o))) (out 7 rs)
