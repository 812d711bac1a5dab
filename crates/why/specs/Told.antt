-- Document 02, W-202: what the code looks at, of a block or a tree whose frames and entries the reasons are about.
use Rattle.std.specs.Prelude.{Option, Some, None, Bool, false, not, ◌&&◌, ◌||◌, List, ℕ, ◌+◌, ◌^◌, eqb, ltb}
use Rattle.base.specs.Walk.{pick, first, all}
use Rattle.base.specs.Bits.{bit_is}
use Rattle.bitfield_rules.specs.Calls.{first_zeros}
use Rattle.rules.specs.Numbers.{mark, huge_of}
use Rattle.rules.specs.State.{Mem, entry_of, free_of, rows_of}

-- whether a frame below N is free: "its bit is clear and its entry is not the mark"
abbrev pub is_open : ℕ → Mem → ℕ → Bool
is_open h m f = bit_is false m.rows f && not (eqb (entry_of m.entries (huge_of h f)) mark)

-- .. or held
abbrev pub frame_is : Bool → ℕ → Mem → ℕ → Bool
frame_is held h m f = pick held (not (is_open h m f)) (is_open h m f)

-- huge frame x does not count 2^order free frames
abbrev pub few : List ℕ → ℕ → ℕ → Bool
few es o x = ltb (free_of (entry_of es x)) (2 ^ o)

-- .. or its rows have no clear block of that order
abbrev pub blockless : ℕ → Mem → ℕ → ℕ → Bool
blockless h m o x = few m.entries o x || not (eqb (first_zeros h (rows_of h m.rows x) 0 o).code 0)

-- reasons 2 and 3 of a get below the huge order, by the t entries from `first` on
abbrev pub small_reason : ℕ → ℕ → Mem → ℕ → ℕ → ℕ
small_reason h t m first o = pick (all (few m.entries o) t first) 2 (pick (all (blockless h m o) t first) 3 0)

-- the first of the n indices from i that p holds of, or none
abbrev pub found : (ℕ → Bool) → ℕ → ℕ → Option ℕ
found p n i = pick (ltb (first p n i) (i + n)) (Some (first p n i)) None
