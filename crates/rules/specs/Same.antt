-- The state is the needed rows and entries: what determines them, and that nothing beyond them is read.
use Rattle.std.specs.Prelude.{◌≡◌, ℕ, ◌<◌, get_or}
use Rattle.rules.specs.Words.{Out, Huge, rows_needed, entries_needed, sizes_refusal, Mem, entry_of}
use Rattle.rules.specs.Starts.{free_all, reserve_all}
use Rattle.rules.specs.Call.{Call, called}
use Rattle.rules.specs.Consistent.{Consistent, free}
use Rattle.rules.specs.Marks.{marked}

-- two memories are equal in every row and entry that N and T need
pub record Same (h n t : ℕ) (a b : Mem) : Type 0 where
  pub rows : (i : ℕ) → i < rows_needed h n → get_or a.rows i 0 ≡ get_or b.rows i 0
  pub entries : (x : ℕ) → x < entries_needed h n t → entry_of a.entries x ≡ entry_of b.entries x

-- a consistent state is its free frames and its marks. `Demand2` says which frames a call turns, `MarksMove` which marks, and `Consistency` that the state stays consistent: they fix all needed memory after every call, without the steps' text
abbrev pub StateIsDetermined : Type 0
StateIsDetermined =
    (h n t : ℕ) (a b : Mem) → Huge h → Consistent h n t a → Consistent h n t b
    → ((f : ℕ) → free h n a f ≡ free h n b f) → ((x : ℕ) → x < entries_needed h n t → marked a x ≡ marked b x) → Same h n t a b

-- two calls answer the same, and leave memories that are the same
abbrev pub SameOut : {A : Type 0} → ℕ → ℕ → ℕ → Out A Mem → Out A Mem → Type 0
SameOut h n t o p = (o.answer ≡ p.answer) × Same h n t o.left p.left

-- "anything beyond is never touched", nor is it read: all calls do the same to two memories that are the same, and lent enough
abbrev pub BeyondUnread : Type 0
BeyondUnread =
    (h n t : ℕ) (a b : Mem) → Huge h → sizes_refusal h n t a ≡ 0 → sizes_refusal h n t b ≡ 0 → Same h n t a b
    → ((c : Call) → SameOut h n t (called h n t a c) (called h n t b c))
    × (SameOut h n t (free_all h n t a) (free_all h n t b) × SameOut h n t (reserve_all h n t a) (reserve_all h n t b))
