-- Document 01, "Numbers and memory" and "Refusal numbers": a block that lies in the lent rows, at a place aligned at its order.
use Rattle.std.specs.Prelude.{◌≡◌, List, ℕ, ◌+◌, ◌*◌, ◌%◌, ◌^◌, ◌≤◌, ◌<◌, length}

pub record Block (rows : List ℕ) (p o : ℕ) : Type 0 where
  pub order : o < 64
  pub ends : p + 2 ^ o ≤ length rows * 64
  pub aligned : p % 2 ^ o ≡ 0
