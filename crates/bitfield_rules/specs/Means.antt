-- What the calls on one bitfield mean, bit by bit: document 01, "Refusal numbers" and "Get".
use Rattle.std.specs.Prelude.{◌≡◌, Bool, true, false, not, List, ◌⊎◌, ℕ, ◌+◌, ◌*◌, ◌%◌, ◌^◌, ◌≤◌, ◌<◌, eqb, length}
use Rattle.base.specs.Walk.{pick, count, sum}
use Rattle.base.specs.Code.{Out, out, or_else}
use Rattle.base.specs.Size.{Huge, rows_per}
use Rattle.base.specs.Bits.{bit_is}
use Rattle.bitfield_rules.specs.Calls.{placed, zero_count, answered, rows_code, order_code, block_code, range_code, set, fill, toggle, is_zero, count_zeros, distance, first_zeros, set_first_zeros}

-- the bits of the s frames from p on are all set (b true), or all clear
abbrev pub Each : Bool → List ℕ → ℕ → ℕ → Type 0
Each b rows p s = (f : ℕ) → p ≤ f → f < p + s → bit_is b rows f ≡ true

-- "exactly eight rows", "an order to 9", "place + 2^order ≤ 512", "an aligned place"
pub record Within (h len p o : ℕ) : Type 0 where
  pub rows : len ≡ rows_per h
  pub order : o ≤ h
  pub ends : p + 2 ^ o ≤ 2 ^ h
  pub aligned : p % 2 ^ o ≡ 0

-- "checked in this order": each number where the checks before it pass
pub record Checked (h len p o : ℕ) : Type 0 where
  pub three : (len ≡ rows_per h → ⊥) → block_code h len p o ≡ 3
  pub four : len ≡ rows_per h → h < o → block_code h len p o ≡ 4
  pub five : len ≡ rows_per h → o ≤ h → 2 ^ h < p + 2 ^ o → block_code h len p o ≡ 5
  pub six : len ≡ rows_per h → o ≤ h → p + 2 ^ o ≤ 2 ^ h → (p % 2 ^ o ≡ 0 → ⊥) → block_code h len p o ≡ 6
  pub none : Within h len p o → block_code h len p o ≡ 0

-- no aligned block of the order is clear ..
abbrev pub NoneClear : ℕ → List ℕ → ℕ → Type 0
NoneClear h rows o = (q : ℕ) → q % 2 ^ o ≡ 0 → q + 2 ^ o ≤ 2 ^ h → Each false rows q (2 ^ o) → ⊥

-- .. or the block at p is, and none before it: "from (start row mod 8), wrapping", "in a row the lowest"; above order 6 "from the group holding (start row mod 8)"
pub record FirstClear (h : ℕ) (rows : List ℕ) (start o p : ℕ) : Type 0 where
  pub block : Within h (length rows) p o
  pub clear : Each false rows p (2 ^ o)
  pub least : (q : ℕ) → q % 2 ^ o ≡ 0 → q + 2 ^ o ≤ 2 ^ h → distance h start o q < distance h start o p → Each false rows q (2 ^ o) → ⊥

-- the bits from a up to e are b, and the others of the first n as they were
pub record Wrote (b : Bool) (rows : List ℕ) (a e n : ℕ) (left : List ℕ) : Type 0 where
  pub long : length left ≡ length rows
  pub inside : (f : ℕ) → a ≤ f → f < e → bit_is b left f ≡ true
  pub outside : (c : Bool) (f : ℕ) → f < n → (f < a) ⊎ (e ≤ f) → bit_is c left f ≡ bit_is c rows f

-- a call that stores: its number, the rows that it leaves where it is done, and that a refusal "writes nothing"
pub record Stores (rows : List ℕ) (number : ℕ) (Done : List ℕ → Type 0) (made : Out ℕ (List ℕ)) : Type 0 where
  pub exact : made.answer ≡ number
  pub done : made.answer ≡ 0 → Done made.left
  pub kept : (made.answer ≡ 0 → ⊥) → made.left ≡ rows

-- of any contents of the rows
pub record BitByBit (h : ℕ) (rows : List ℕ) : Type 0 where
  pub checks : (p o : ℕ) → Checked h (length rows) p o
  -- the bits from start up to end are as told; "equal ends change nothing"
  pub sets : (a e : ℕ) (b : Bool) → Stores rows (range_code h (length rows) a e) (Wrote b rows a e (2 ^ h)) (set h rows a e b)
  pub fills : (b : Bool) → Stores rows (rows_code h (length rows)) (Wrote b rows 0 (2 ^ h) (2 ^ h)) (fill h rows b)
  -- where each bit of the block is as expected, each is turned; "a failed search or toggle is 7"
  pub toggles : (p o : ℕ) (b : Bool)
      → (Each b rows p (2 ^ o) → Stores rows (block_code h (length rows) p o) (Wrote (not b) rows p (p + 2 ^ o) (2 ^ h)) (toggle h rows p o b))
      × ((Each b rows p (2 ^ o) → ⊥) → toggle h rows p o b ≡ out (or_else (block_code h (length rows) p o) 7) rows)
  -- yes exactly if each bit of the block is clear
  pub asks : (p o : ℕ) → (Each false rows p (2 ^ o) → is_zero h rows p o ≡ answered (block_code h (length rows) p o) (eqb (block_code h (length rows) p o) 0))
      × ((Each false rows p (2 ^ o) → ⊥) → is_zero h rows p o ≡ answered (block_code h (length rows) p o) false)
  -- "the zeros of eight rows are counted and summed"
  pub counts : count_zeros h rows
      ≡ pick (eqb (rows_code h (length rows)) 0) (zero_count 0 (sum (λ i. count (bit_is false rows) 64 (i * 64)) (rows_per h) 0)) (zero_count (rows_code h (length rows)) 0)
  -- 7 where no block is clear; a search that is refused answers its number alone
  pub searches : (start o : ℕ) → order_code h (length rows) o ≡ 0
      → ((first_zeros h rows start o ≡ placed 7 0) × NoneClear h rows o) ⊎ (((first_zeros h rows start o).code ≡ 0) × FirstClear h rows start o (first_zeros h rows start o).place)
  pub refuses : (start o : ℕ) → (order_code h (length rows) o ≡ 0 → ⊥) → first_zeros h rows start o ≡ placed (order_code h (length rows) o) 0
  -- the same search; "if found, set the bits"
  pub takes : (start o : ℕ) → ((set_first_zeros h rows start o).answer ≡ first_zeros h rows start o)
      × Stores rows (first_zeros h rows start o).code (Wrote true rows (first_zeros h rows start o).place ((first_zeros h rows start o).place + 2 ^ o) (2 ^ h))
      (out (set_first_zeros h rows start o).answer.code (set_first_zeros h rows start o).left)

abbrev pub BitfieldMeans : Type 0
BitfieldMeans = (h : ℕ) (rows : List ℕ) → Huge h → BitByBit h rows
