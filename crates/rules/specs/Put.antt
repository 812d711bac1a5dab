-- Document 01, "Put": a block given back, below the huge order and from it up.
use Rattle.std.specs.Prelude.{true, false, ◌&&◌, List, ℕ, ◌+◌, ◌-◌, ◌*◌, ◌/◌, ◌^◌, eqb, leb, ltb}
use Rattle.base.specs.Walk.{pick, written}
use Rattle.base.specs.Code.{Out, out, unrefused}
use Rattle.base.specs.Bits.{block_is, with_bits}
use Rattle.rules.specs.Numbers.{mark, huge_of, group_of}
use Rattle.rules.specs.State.{Mem, with_rows, with_entry, on_entries, entry_of, entries_are}
use Rattle.rules.specs.Refusals.{block_refusal}

-- "Put. Marked with any bit set, 8; marked otherwise, set all 512 bits, entry 0, then clear the block and entry 2^order"
unfoldable pub put_marked : ℕ → Mem → ℕ → ℕ → Out ℕ Mem
put_marked h m f o =
    pick (block_is false m.rows (huge_of h f * 2 ^ h) (2 ^ h))
    (out 0 (with_entry (with_rows m (with_bits false (with_bits true m.rows (huge_of h f * 2 ^ h) (huge_of h f * 2 ^ h + 2 ^ h)) f (f + 2 ^ o))) (huge_of h f) (2 ^ o)))
    (out 8 m)

-- "Not marked: count above 512 − 2^order, or a bit of the block clear, is 7; else clear the bits and raise the entry"
unfoldable pub put_counted : ℕ → Mem → ℕ → ℕ → Out ℕ Mem
put_counted h m f o =
    pick (leb (entry_of m.entries (huge_of h f)) (2 ^ h - 2 ^ o) && block_is true m.rows f (2 ^ o))
    (out 0 (with_entry (with_rows m (with_bits false m.rows f (f + 2 ^ o))) (huge_of h f) (entry_of m.entries (huge_of h f) + 2 ^ o)))
    (out 7 m)

unfoldable pub put_small : ℕ → Mem → ℕ → ℕ → Out ℕ Mem
unfolding put_marked put_counted
put_small h m f o = pick (eqb (entry_of m.entries (huge_of h f)) mark) (put_marked h m f o) (put_counted h m f o)

-- "Put. Order 9 and up: all entries the mark, which become 512; else 7"
unfoldable pub put_huge : ℕ → List ℕ → ℕ → ℕ → Out ℕ (List ℕ)
put_huge h es f o =
    pick (entries_are mark es (f / 2 ^ h) (group_of h o)) (out 0 (written (λ i. 2 ^ h) es (f / 2 ^ h) (group_of h o))) (out 7 es)

unfoldable pub put : ℕ → ℕ → ℕ → Mem → ℕ → ℕ → Out ℕ Mem
put h n t m f o =
    unrefused (block_refusal h n t m f o) (block_refusal h n t m f o) m
    (pick (ltb o h) (put_small h m f o) (on_entries m (put_huge h m.entries f o)))
