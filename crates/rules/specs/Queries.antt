-- Document 01, "Queries, start and recovery": is_free, stats and stats_at.
use Rattle.std.specs.Prelude.{Bool, true, false, ◌&&◌, List, ℕ, ◌*◌, ◌/◌, ◌^◌, eqb, leb, ltb}
use Rattle.base.specs.Walk.{pick, count, sum}
use Rattle.base.specs.Bits.{block_is, bit_is}
use Rattle.rules.specs.Numbers.{huge_of, tree_at, top_order, trees_needed, entries_needed, group_of}
use Rattle.rules.specs.State.{Mem, entry_of, free_of, entries_are, blocks_in}
use Rattle.rules.specs.Numbered.{Stats}
use Rattle.rules.specs.Refusals.{sizes_refusal, block_refusal, frame_refusal}
use Rattle.bitfield_rules.specs.Calls.{Answered}
use Rattle.bitfield_rules.specs.Calls.{answered}

-- "is_free. Count below 2^order no; count 512 yes; else the block's bits all clear"
unfoldable pub is_free_small : ℕ → Mem → ℕ → ℕ → Bool
is_free_small h m f o =
    pick (leb (2 ^ o) (free_of (entry_of m.entries (huge_of h f))))
    (pick (eqb (free_of (entry_of m.entries (huge_of h f))) (2 ^ h)) true (block_is false m.rows f (2 ^ o)))
    false

-- "is_free: order 9 and up, all entries 512"
unfoldable pub is_free_huge : ℕ → List ℕ → ℕ → ℕ → Bool
is_free_huge h es f o = entries_are (2 ^ h) es (f / 2 ^ h) (group_of h o)

unfoldable pub is_free : ℕ → ℕ → ℕ → Mem → ℕ → ℕ → Answered
is_free h n t m f o =
    pick (eqb (block_refusal h n t m f o) 0) (answered 0 (pick (ltb o h) (is_free_small h m f o) (is_free_huge h m.entries f o))) (answered (block_refusal h n t m f o) false)

-- the answer of stats and stats_at: code, free frames, free huge frames, free trees
abbrev pub statistics : ℕ → ℕ → ℕ → ℕ → Stats
statistics c f x y = record { code = c; free_frames = f; free_huge = x; free_trees = y }

-- "sum of free counts": those of the k entries from at on
abbrev pub free_in : List ℕ → ℕ → ℕ → ℕ
free_in es k at = sum (λ i. free_of (entry_of es i)) k at

-- whether a tree, the t entries from y times t on, is free whole
abbrev pub tree_free : ℕ → ℕ → List ℕ → ℕ → Bool
tree_free h t es y = eqb (free_in es t (y * t)) (2 ^ h * t)

-- "stats: sum of free counts; entries that are 512; trees whose sum is 512T"
unfoldable pub stats_all : ℕ → ℕ → ℕ → List ℕ → Stats
stats_all h n t es =
    statistics 0 (free_in es (entries_needed h n t) 0) (count (λ x. eqb (entry_of es x) (2 ^ h)) (entries_needed h n t) 0) (count (tree_free h t es) (trees_needed h n t) 0)

-- "order 0: 1 if count > 0 and bit clear"
abbrev pub at_frame : ℕ → Mem → ℕ → Stats
at_frame h m f = statistics 0 (pick (ltb 0 (free_of (entry_of m.entries (huge_of h f))) && bit_is false m.rows f) 1 0) 0 0

-- "order 9: count, count div 512, 0"
abbrev pub at_huge : ℕ → Mem → ℕ → Stats
at_huge h m f = statistics 0 (free_of (entry_of m.entries (huge_of h f))) (free_of (entry_of m.entries (huge_of h f)) / 2 ^ h) 0

-- "top order: sum, sum of count div 512, sum div 512T"
abbrev pub at_tree : ℕ → ℕ → Mem → ℕ → Stats
at_tree h t m f =
    statistics 0 (free_in m.entries t (tree_at h t f)) (blocks_in m.entries t (tree_at h t f) h) (free_in m.entries t (tree_at h t f) / (2 ^ h * t))

-- "any other order: zeros, code 0. At T = 1 the order 9 rule comes first"
unfoldable pub at_order : ℕ → ℕ → Mem → ℕ → ℕ → Stats
at_order h t m f o = pick (eqb o 0) (at_frame h m f) (pick (eqb o h) (at_huge h m f) (pick (eqb o (top_order h t)) (at_tree h t m f) (statistics 0 0 0 0)))

unfoldable pub stats : ℕ → ℕ → ℕ → Mem → Stats
stats h n t m = pick (eqb (sizes_refusal h n t m) 0) (stats_all h n t m.entries) (statistics (sizes_refusal h n t m) 0 0 0)

unfoldable pub stats_at : ℕ → ℕ → ℕ → Mem → ℕ → ℕ → Stats
stats_at h n t m f o = pick (eqb (frame_refusal h n t m f) 0) (at_order h t m f o) (statistics (frame_refusal h n t m f) 0 0 0)
