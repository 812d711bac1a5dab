-- Document 01, "Get": without a frame below the huge order, from the huge order up, and with a frame.
use Rattle.std.specs.Prelude.{false, Bool, true, List, ℕ, ◌*◌, ◌^◌, ◌+◌, ◌-◌, ◌/◌, ◌%◌, eqb, leb, ltb}
use Rattle.base.specs.Walk.{pick, first, written}
use Rattle.base.specs.Code.{Out, out, unrefused}
use Rattle.base.specs.Size.{rows_per}
use Rattle.base.specs.Bits.{block_is, with_bits}
use Rattle.rules.specs.Numbered.{Got}
use Rattle.rules.specs.Numbers.{mark, huge_of, present, group_of}
use Rattle.rules.specs.Refusals.{block_refusal, start_refusal}
use Rattle.bitfield_rules.specs.Calls.{Placed}
use Rattle.bitfield_rules.specs.Calls.{first_zeros}
use Rattle.rules.specs.State.{Mem, with_rows, with_entry, on_entries, entry_of, free_of, rows_of, entries_are}
use Rattle.rules.specs.Numbered.{Visit}
use Rattle.rules.specs.Numbered.{Pass, Damage, Place}

-- the answer of a get: code, frame and probes
abbrev pub got : ℕ → ℕ → ℕ → Got
got c f p = record { code = c; frame = f; probes = p }

-- the memory with a block taken: its bits set, and its entry lowered by 2 ^ o
abbrev pub taken : ℕ → Mem → ℕ → ℕ → Mem
taken h m f o = with_entry (with_rows m (with_bits true m.rows f (f + 2 ^ o))) (huge_of h f) (entry_of m.entries (huge_of h f) - 2 ^ o)

-- what the search of huge frame x leads to: a block, unless it ends past N; without one damage, if the count is above 512
abbrev pub searched : ℕ → ℕ → ℕ → ℕ → ℕ → Placed → Visit
searched h n e x o a =
    pick (eqb a.code 0) (pick (leb (x * 2 ^ h + a.place + 2 ^ o) n) (Place (x * 2 ^ h + a.place)) Damage) (pick (leb e (2 ^ h)) Pass Damage)

-- whether entry x is eligible: "skip the mark and counts below 2^order"
abbrev pub eligible : List ℕ → ℕ → ℕ → Bool
eligible es o x = leb (2 ^ o) (free_of (entry_of es x))

-- a visit of entry x: passed unless eligible; 8 at "an eligible absent entry"; else "search the huge frame"
unfoldable pub visit : ℕ → ℕ → Mem → ℕ → ℕ → ℕ → Visit
visit h n m row o x =
    pick (eligible m.entries o x)
    (pick (present h n x) (searched h n (entry_of m.entries x) x o (first_zeros h (rows_of h m.rows x) row o)) Damage)
    Pass

-- whether a visit ends the get
abbrev pub stops : Visit → Bool
stops Pass = false
stops Damage = true
stops (Place f) = true

-- the entry that is visited after j others: "from the start row's huge frame x, wrapping in the tree"
abbrev pub entry_at : ℕ → ℕ → ℕ → ℕ
entry_at t x j = x / t * t + (x % t + j) % t

-- how many visits pass before one that ends the get
unfoldable pub visits_passed : ℕ → ℕ → ℕ → Mem → ℕ → ℕ → ℕ
unfolding visit
visits_passed h n t m row o = first (λ j. stops (visit h n m row o (entry_at t (row / rows_per h) j))) t 0

-- what the visit that ends the get answers, after p visits with itself
abbrev pub ended : ℕ → Mem → ℕ → ℕ → Visit → Out Got Mem
ended h m o p Pass = out (got 7 0 p) m
ended h m o p Damage = out (got 8 0 p) m
ended h m o p (Place f) = out (got 0 f p) (taken h m f o)

-- "Get" without a frame: probes are the entries visited, counting the last; "7 if all fail"
unfoldable pub get_small : ℕ → ℕ → ℕ → Mem → ℕ → ℕ → Out Got Mem
unfolding visit visits_passed
get_small h n t m row o =
    pick (ltb (visits_passed h n t m row o) t)
    (ended h m o (visits_passed h n t m row o + 1) (visit h n m row o (entry_at t (row / rows_per h) (visits_passed h n t m row o))))
    (out (got 7 0 t) m)

-- the first entry of the group that is visited after j others: "from the group holding the start row's huge frame x, wrapping" in its tree
abbrev pub group_at : ℕ → ℕ → ℕ → ℕ → ℕ
group_at t g x j = x / t * t + (x % t / g * g + j * g) % t

-- how many groups are passed before "the first group whose entries are all 512"
unfoldable pub groups_passed : ℕ → List ℕ → ℕ → ℕ → ℕ → ℕ
groups_passed h es t g x = first (λ j. entries_are (2 ^ h) es (group_at t g x j) g) (t / g) 0

-- that group "gets the mark throughout; 8 if that group ends past N"
unfoldable pub take_group : ℕ → ℕ → List ℕ → ℕ → ℕ → ℕ → Out Got (List ℕ)
take_group h n es at g probes =
    pick (leb ((at + g) * 2 ^ h) n) (out (got 0 (at * 2 ^ h) probes) (written (λ i. mark) es at g)) (out (got 8 0 probes) es)

-- "Get" without a frame: probes are the groups visited, counting the last; 7 if none is free
unfoldable pub get_huge : ℕ → ℕ → ℕ → List ℕ → ℕ → ℕ → Out Got (List ℕ)
unfolding groups_passed take_group
get_huge h n t es row o =
    pick (ltb (groups_passed h es t (group_of h o) (row / rows_per h)) (t / group_of h o))
    (take_group h n es (group_at t (group_of h o) (row / rows_per h) (groups_passed h es t (group_of h o) (row / rows_per h))) (group_of h o)
    (groups_passed h es t (group_of h o) (row / rows_per h) + 1))
    (out (got 7 0 (t / group_of h o)) es)

-- "With a frame. Entry marked or below 2^order is 7; bits not all clear is 7, or 8 if the count is above 512"
unfoldable pub get_small_at : ℕ → Mem → ℕ → ℕ → Out Got Mem
get_small_at h m f o =
    pick (leb (2 ^ o) (free_of (entry_of m.entries (huge_of h f))))
    (pick (block_is false m.rows f (2 ^ o)) (out (got 0 f 1) (taken h m f o)) (out (got (pick (leb (entry_of m.entries (huge_of h f)) (2 ^ h)) 7 8) 0 1) m))
    (out (got 7 0 1) m)

-- "With a frame. Order 9 and up: all entries 512, else 7"
unfoldable pub get_huge_at : ℕ → List ℕ → ℕ → ℕ → Out Got (List ℕ)
get_huge_at h es f o =
    pick (entries_are (2 ^ h) es (f / 2 ^ h) (group_of h o)) (out (got 0 f 1) (written (λ i. mark) es (f / 2 ^ h) (group_of h o))) (out (got 7 0 1) es)

-- get without a frame
unfoldable pub get : ℕ → ℕ → ℕ → Mem → ℕ → ℕ → Out Got Mem
get h n t m row o =
    unrefused (start_refusal h n t m row o) (got (start_refusal h n t m row o) 0 0) m
    (pick (ltb o h) (get_small h n t m row o) (on_entries m (get_huge h n t m.entries row o)))

-- get with a frame
unfoldable pub get_at : ℕ → ℕ → ℕ → Mem → ℕ → ℕ → Out Got Mem
get_at h n t m f o =
    unrefused (block_refusal h n t m f o) (got (block_refusal h n t m f o) 0 0) m
    (pick (ltb o h) (get_small_at h m f o) (on_entries m (get_huge_at h m.entries f o)))
