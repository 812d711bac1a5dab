-- Document 01, "Queries, start and recovery": the room of a frame's tree, and the tree's own run of entries.
use Rattle.std.specs.Prelude.{List, [], ℕ, ◌+◌, ◌*◌, ◌/◌, ◌^◌, leb, ltb, eqb, take, drop, replicate}
use Rattle.base.specs.Walk.{pick, count, written}
use Rattle.base.specs.Code.{Out, out}
use Rattle.rules.specs.Numbers.{tree_at, top_order, group_of}
use Rattle.rules.specs.State.{entries_are, blocks_in, Mem}
use Rattle.rules.specs.Refusals.{frame_refusal}

-- "from 9 to the top order: aligned groups all 512"
abbrev pub groups : ℕ → List ℕ → ℕ → ℕ → ℕ → ℕ
groups h es t at g = count (λ j. entries_are (2 ^ h) es (at + j * g) g) (t / g) 0

-- the count at an order: "below 9" the blocks in the free counts; "above: 0"
unfoldable pub room_at : ℕ → ℕ → List ℕ → ℕ → ℕ → ℕ
room_at h t es at o = pick (ltb o h) (blocks_in es t at o) (pick (leb o (top_order h t)) (groups h es t at (group_of h o)) 0)

-- "nineteen counts, orders 0 to 18": one for each order that the largest tree has
abbrev pub orders : ℕ → ℕ
orders h = h + 10

unfoldable pub room_of : ℕ → ℕ → List ℕ → ℕ → List ℕ
unfolding room_at
room_of h t es f = written (room_at h t es (tree_at h t f)) (replicate (orders h) 0) 0 (orders h)

-- "the tree's own run of entries, T long"
abbrev pub run_of : ℕ → ℕ → List ℕ → ℕ → List ℕ
run_of h t es f = take t (drop (tree_at h t f) es)

-- the code, and the count of each order: all 0 where it is refused
unfoldable pub room : ℕ → ℕ → ℕ → Mem → ℕ → Out ℕ (List ℕ)
room h n t m f = pick (eqb (frame_refusal h n t m f) 0) (out 0 (room_of h t m.entries f)) (out (frame_refusal h n t m f) (replicate (orders h) 0))

-- "empty on refusal"
unfoldable pub tree_run : ℕ → ℕ → ℕ → Mem → ℕ → List ℕ
tree_run h n t m f = pick (eqb (frame_refusal h n t m f) 0) (run_of h t m.entries f) []
