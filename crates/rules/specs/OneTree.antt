-- Document 01, "One tree at a time".
use Rattle.std.specs.Prelude.{◌≡◌, ℕ, ◌*◌, ◌/◌, ◌<◌, get_or}
use Rattle.rules.specs.Words.{Huge, rows_per, tree_of, rows_needed, Mem, sizes_refusal, entry_of}
use Rattle.rules.specs.Call.{Call, called, left}

-- a call is on tree y; "stats, audit, recover .. read everything and are not covered"
unfoldable pub On : ℕ → ℕ → ℕ → Call → Type 0
On h t y (Call.OnRow c row o) = tree_of h t (row * 64) ≡ y
On h t y (Call.OnBlock c f o) = tree_of h t f ≡ y
On h t y (Call.OnFrame c f) = tree_of h t f ≡ y
On h t y (Call.OnAll c) = ⊥

-- two states agree on tree y: on its rows, as far as they are needed, and its entries
pub record Agree (h n t y : ℕ) (a b : Mem) : Type 0 where
  pub rows : (i : ℕ) → i < rows_needed h n → i / (rows_per h * t) ≡ y → get_or a.rows i 0 ≡ get_or b.rows i 0
  pub entries : (x : ℕ) → x / t ≡ y → entry_of a.entries x ≡ entry_of b.entries x

-- "two states .. that agree on one tree's rows and entries give equal answers .. and equal rows and entries there afterwards. No other tree is written"
abbrev pub OneTree : Type 0
OneTree =
    (h n t y : ℕ) (a b : Mem) (c : Call) → Huge h → sizes_refusal h n t a ≡ 0 → sizes_refusal h n t b ≡ 0 → On h t y c → Agree h n t y a b
    → ((called h n t a c).answer ≡ (called h n t b c).answer) × (Agree h n t y (left h n t a c) (left h n t b c)
    × ((z : ℕ) → (z ≡ y → ⊥) → Agree h n t z (left h n t a c) a))
