-- Document 01, "Refusal numbers": 1 to 6, in their order, on natural numbers; len are the lengths of the lent slices.
use Rattle.std.specs.Prelude.{◌≡◌, true, ◌&&◌, ℕ, ◌+◌, ◌*◌, ◌%◌, ◌^◌, ◌≤◌, ◌<◌, leb, ltb}
use Rattle.base.specs.Code.{unless, or_else}
use Rattle.rules.specs.Numbers.{frames_max, is_tree, top_order, aligned, rows_needed, entries_needed}
use Rattle.rules.specs.State.{Mem, Lengths, lengths_of}

-- "N is 0 or above 1,048,576"
abbrev pub frames_code : ℕ → ℕ
frames_code n = unless (ltb 0 n && leb n frames_max) 1

-- "T is not one of the ten"
abbrev pub tree_code : ℕ → ℕ
tree_code t = unless (is_tree t) 2

-- "either lent slice is short"
abbrev pub lent_code : ℕ → ℕ → ℕ → Lengths → ℕ
lent_code h n t len = unless (leb (rows_needed h n) len.rows && leb (entries_needed h n t) len.entries) 3

-- 1, 2, 3: every call
abbrev pub sizes_code : ℕ → ℕ → ℕ → Lengths → ℕ
sizes_code h n t len = or_else (frames_code n) (or_else (tree_code t) (lent_code h n t len))

-- "order above the top order"
abbrev pub order_code : ℕ → ℕ → ℕ → ℕ
order_code h t o = unless (leb o (top_order h t)) 4

-- 1 to 6, "frame + 2^order > N" and "frame not aligned": get with a frame, put, is_free
abbrev pub block_code : ℕ → ℕ → ℕ → Lengths → ℕ → ℕ → ℕ
block_code h n t len f o =
    or_else (sizes_code h n t len) (or_else (order_code h t o) (or_else (unless (leb (f + 2 ^ o) n) 5) (unless (aligned f o) 6)))

-- 1 to 5, "row·64 ≥ N": get without a frame
abbrev pub start_code : ℕ → ℕ → ℕ → Lengths → ℕ → ℕ → ℕ
start_code h n t len row o = or_else (sizes_code h n t len) (or_else (order_code h t o) (unless (ltb (row * 64) n) 5))

-- 1, 2, 3 and 5, "frame ≥ N": stats_at, room, tree run
abbrev pub frame_code : ℕ → ℕ → ℕ → Lengths → ℕ → ℕ
frame_code h n t len f = or_else (sizes_code h n t len) (unless (ltb f n) 5)

-- what passing 1 to 3 means
pub record Sized (h n t : ℕ) (len : Lengths) : Type 0 where
  pub some : 0 < n
  pub most : n ≤ frames_max
  pub tree : is_tree t ≡ true
  pub rows : rows_needed h n ≤ len.rows
  pub entries : entries_needed h n t ≤ len.entries

-- what passing 1 to 6 means, of a block
pub record Blocked (h n t : ℕ) (len : Lengths) (f o : ℕ) : Type 0 where
  pub sized : Sized h n t len
  pub top : o ≤ top_order h t
  pub ends : f + 2 ^ o ≤ n
  pub aligned : f % 2 ^ o ≡ 0

-- what passing 1 to 5 means, of a start row
pub record Started (h n t : ℕ) (len : Lengths) (row o : ℕ) : Type 0 where
  pub sized : Sized h n t len
  pub top : o ≤ top_order h t
  pub begins : row * 64 < n

-- what passing 1, 2, 3 and 5 means, of a frame
pub record Framed (h n t : ℕ) (len : Lengths) (f : ℕ) : Type 0 where
  pub sized : Sized h n t len
  pub below : f < n

-- the code of a call that lends all of m: by its sizes alone, at a block, at a start row, at a frame
abbrev pub sizes_refusal : ℕ → ℕ → ℕ → Mem → ℕ
sizes_refusal h n t m = sizes_code h n t (lengths_of m)

abbrev pub block_refusal : ℕ → ℕ → ℕ → Mem → ℕ → ℕ → ℕ
block_refusal h n t m f o = block_code h n t (lengths_of m) f o

abbrev pub start_refusal : ℕ → ℕ → ℕ → Mem → ℕ → ℕ → ℕ
start_refusal h n t m row o = start_code h n t (lengths_of m) row o

abbrev pub frame_refusal : ℕ → ℕ → ℕ → Mem → ℕ → ℕ
frame_refusal h n t m f = frame_code h n t (lengths_of m) f
