-- Document 01, "Numbers and memory": consistent states, and which frames are free.
use Rattle.rules.specs.State.{lengths_of}
use Rattle.std.specs.Prelude.{◌≡◌, Bool, true, false, not, ◌&&◌, ◌⊎◌, ℕ, ◌+◌, ◌*◌, ◌/◌, ◌^◌, ◌≤◌, ◌<◌, eqb, leb, ltb, get_or}
use Rattle.rules.specs.Words.{all, count, bit_is, mark, huge_of, entries_needed, Sized, Mem, entry_of, clear_of}

-- rows and entries of the widths that the slices have
pub record Fits (m : Mem) : Type 0 where
  pub rows : (i : ℕ) → get_or m.rows i 0 < 2 ^ 64
  pub entries : (x : ℕ) → entry_of m.entries x < 2 ^ 16

-- "has the mark, lies wholly below N and has all bits clear"
pub record ByMark (h n : ℕ) (m : Mem) (x : ℕ) : Type 0 where
  pub marked : entry_of m.entries x ≡ mark
  pub below : (x + 1) * 2 ^ h ≤ n
  pub clear : (f : ℕ) → x * 2 ^ h ≤ f → f < (x + 1) * 2 ^ h → bit_is false m.rows f ≡ true

-- "an entry of at most 512 equal to its number of clear bits, with every bit at or past N set"
pub record ByCount (h n : ℕ) (m : Mem) (x : ℕ) : Type 0 where
  pub most : entry_of m.entries x ≤ 2 ^ h
  pub counts : entry_of m.entries x ≡ clear_of h m.rows x
  pub past : (f : ℕ) → n ≤ f → f < (x + 1) * 2 ^ h → bit_is true m.rows f ≡ true

-- "each present huge frame either .. or ..", "absent entries are 0", of tree y alone, in memory that is large enough and of the slices' widths
pub record ConsistentIn (h n t : ℕ) (m : Mem) (y : ℕ) : Type 0 where
  pub sized : Sized h n t (lengths_of m)
  pub fits : Fits m
  pub present : (x : ℕ) → x / t ≡ y → x * 2 ^ h < n → ByMark h n m x ⊎ ByCount h n m x
  pub absent : (x : ℕ) → x / t ≡ y → n ≤ x * 2 ^ h → x < entries_needed h n t → entry_of m.entries x ≡ 0

-- a state is consistent where each of its trees is
abbrev pub Consistent : ℕ → ℕ → ℕ → Mem → Type 0
Consistent h n t m = (y : ℕ) → ConsistentIn h n t m y

-- "a frame below N is free if its bit is clear and its entry is not the mark, otherwise held; frame N and later ones are never free"
abbrev pub free : ℕ → ℕ → Mem → ℕ → Bool
free h n m f = ltb f n && (bit_is false m.rows f && not (eqb (entry_of m.entries (huge_of h f)) mark))

abbrev pub held : ℕ → ℕ → Mem → ℕ → Bool
held h n m f = not (free h n m f)

-- the x-th run of s frames is entirely free: a block of order o with s = 2 ^ o, a huge frame with s = 2 ^ h, a tree with s = 2 ^ h * t
abbrev pub entirely : ℕ → ℕ → Mem → ℕ → ℕ → Bool
entirely h n m s x = all (free h n m) s (x * s)

-- .. and how many of them are free
abbrev pub free_frames : ℕ → ℕ → Mem → ℕ → ℕ → ℕ
free_frames h n m s x = count (free h n m) s (x * s)

-- frame f is one of the block of order o at a
abbrev pub in_block : ℕ → ℕ → ℕ → Bool
in_block a o f = leb a f && ltb f (a + 2 ^ o)
