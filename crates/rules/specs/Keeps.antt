-- Of each call, on any memory: its refusal numbers, and what it never touches.
use Rattle.std.specs.Prelude.{◌≡◌, Bool, false, not, ◌||◌, List, [], ◌∷◌, ℕ, suc, ◌+◌, ◌*◌, ◌%◌, ◌^◌, ◌≤◌, eqb, leb, ltb, length, get_or, replicate}
use Rattle.rules.specs.Words.{pick, or_else, Huge, is_tree, top_order, rows_needed, entries_needed, Mem, entry_of}
use Rattle.rules.specs.Call.{BlockCall, FrameCall, AllCall, Call, called, code, left}
use Rattle.rules.specs.Steps.{steps}
use Rattle.rules.specs.Starts.{free_all, reserve_all}
use Rattle.rules.specs.Room.{orders}

-- "checked in this order": the number of the first test that holds, where the first has number k; 0 where none does
unfoldable pub number_of : ℕ → List Bool → ℕ
number_of k [] = 0
number_of k (b ∷ bs) = pick b k (number_of (suc k) bs)

-- 1, 2 and 3 of every call, and then its own from 4 on
abbrev pub tested : ℕ → ℕ → ℕ → Mem → List Bool → ℕ
tested h n t m own =
    number_of 1 ((eqb n 0 || ltb 1048576 n) ∷ not (is_tree t) ∷ (ltb (length m.rows) (rows_needed h n) || ltb (length m.entries) (entries_needed h n t)) ∷ own)

unfoldable pub own : ℕ → ℕ → ℕ → Call → List Bool
own h n t (Call.OnRow c row o) = ltb (top_order h t) o ∷ leb n (row * 64) ∷ []
own h n t (Call.OnBlock c f o) = ltb (top_order h t) o ∷ ltb n (f + 2 ^ o) ∷ not (eqb (f % 2 ^ o) 0) ∷ []
own h n t (Call.OnFrame c f) = false ∷ leb n f ∷ []
own h n t (Call.OnAll c) = []

-- what a call keeps to that answers `code` and leaves `left`: each number is given exactly when the document says, a refusal writes nothing, and what lies beyond is kept
pub record Keeps (h n t : ℕ) (m : Mem) (number code : ℕ) (left : Mem) : Type 0 where
  pub exact : code ≡ number
  pub refused : (code ≡ 0 → ⊥) → left ≡ m
  pub rows : (i : ℕ) → rows_needed h n ≤ i → get_or left.rows i 0 ≡ get_or m.rows i 0
  pub entries : (x : ℕ) → entries_needed h n t ≤ x → entry_of left.entries x ≡ entry_of m.entries x
  pub long : (length left.rows ≡ length m.rows) × (length left.entries ≡ length m.entries)

-- the fields of an answer besides its number; a refused tree run has none
unfoldable pub fields : ℕ → Call → ℕ
fields h (Call.OnRow c row o) = 2
fields h (Call.OnBlock BlockCall.GetAt f o) = 2
fields h (Call.OnBlock BlockCall.Put f o) = 0
fields h (Call.OnBlock BlockCall.IsFree f o) = 1
fields h (Call.OnBlock BlockCall.WhyGetAt f o) = 2
fields h (Call.OnBlock BlockCall.WhyPut f o) = 2
fields h (Call.OnFrame (FrameCall.StatsAt o) f) = 3
fields h (Call.OnFrame FrameCall.Room f) = orders h
fields h (Call.OnFrame FrameCall.TreeRun f) = 0
fields h (Call.OnAll AllCall.Stats) = 3
fields h (Call.OnAll AllCall.Audit) = 2
fields h (Call.OnAll AllCall.Recover) = 2

-- "a refusal returns its number with every other field 0", "an empty part for tree run": by 1 to 6
abbrev pub Bare : ℕ → ℕ → ℕ → Mem → Call → Type 0
Bare h n t m c = (tested h n t m (own h n t c) ≡ 0 → ⊥) → (called h n t m c).answer ≡ tested h n t m (own h n t c) ∷ replicate (fields h c) 0

-- 1 to 6 by these tests, and past them 7 and 8 by those of `steps`
abbrev pub CallsKeep : Type 0
CallsKeep =
    (h n t : ℕ) (m : Mem) → Huge h
    → ((c : Call) → Keeps h n t m (or_else (tested h n t m (own h n t c)) (steps h n t m c)) (code h n t m c) (left h n t m c) × Bare h n t m c)
    × (Keeps h n t m (tested h n t m []) (free_all h n t m).answer (free_all h n t m).left
    × Keeps h n t m (tested h n t m []) (reserve_all h n t m).answer (reserve_all h n t m).left)
