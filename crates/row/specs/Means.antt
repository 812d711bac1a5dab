-- What the one-row search means, bit by bit: document 01, "Get" and "Refusal numbers".
use Rattle.std.specs.Prelude.{◌≡◌, ℕ, ◌+◌, ◌%◌, ◌^◌, ◌<◌, ◌≤◌, ◌⊎◌}
use Rattle.base.specs.Bits.{bits_at}
use Rattle.row.specs.Row.{numbers, first_zeros}

-- the block of order o at place p is aligned, in the row, and each of its bits is clear
pub record Clear (v o p : ℕ) : Type 0 where
  pub aligned : p % 2 ^ o ≡ 0
  pub within : p + 2 ^ o ≤ 64
  pub clear : (q : ℕ) → p ≤ q → q < p + 2 ^ o → bits_at v q 1 ≡ 0

-- "the lowest free aligned place": clear, and none below it is; in row r each of its bits is set, and the others are as they were
pub record LowestTaken (v o p r : ℕ) : Type 0 where
  pub block : Clear v o p
  pub least : (q : ℕ) → Clear v o q → p ≤ q
  pub set : (q : ℕ) → p ≤ q → q < p + 2 ^ o → bits_at r q 1 ≡ 1
  pub kept : (q : ℕ) → (q < p) ⊎ (p + 2 ^ o ≤ q) → bits_at r q 1 ≡ bits_at v q 1

-- "an order to 9 (one-row search: to 6), else 4"; "a failed search or toggle is 7", and then no aligned block is clear
pub record RowBitByBit (v o : ℕ) : Type 0 where
  pub searches : o ≤ 6
      → ((first_zeros v o ≡ numbers 7 0 0) × ((q : ℕ) → Clear v o q → ⊥)) ⊎ (((first_zeros v o).code ≡ 0) × LowestTaken v o (first_zeros v o).place (first_zeros v o).row)
  pub refuses : 6 < o → first_zeros v o ≡ numbers 4 0 0

abbrev pub RowSearchMeans : Type 0
RowSearchMeans = (v o : ℕ) → RowBitByBit v o
