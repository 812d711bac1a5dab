-- Past checks 1 to 6, on any memory, consistent or damaged: when a call is refused with 7, when with 8, and what it takes or gives back otherwise, in bits and entries.
use Rattle.std.specs.Prelude.{◌≡◌, Bool, true, false, not, ◌&&◌, ◌||◌, ℕ, ◌+◌, ◌-◌, ◌*◌, ◌/◌, ◌%◌, ◌^◌, eqb, leb, ltb}
use Rattle.rules.specs.Words.{pick, first, all, unless, Huge, rows_per, bit_is, block_is, mark, huge_of, tree_of, block_at, group_of, entries_needed, Mem, entry_of, free_of, entries_are, block_refusal, start_refusal, got, recovered}
use Rattle.rules.specs.Numbered.{Got}
use Rattle.rules.specs.Call.{RowCall, BlockCall, AllCall, Call}
use Rattle.rules.specs.Calls.{get, get_at, put, recover}
use Rattle.rules.specs.Audit.{reason}
use Rattle.rules.specs.Consistent.{in_block}
use Rattle.rules.specs.Why.{sound}

-- the place in huge frame x that a get looks at after k others: "from (start row mod 8), wrapping", above order 6 "from the group holding" it
abbrev pub place : ℕ → ℕ → ℕ → ℕ → ℕ → ℕ
place h row o x k = x * 2 ^ h + (block_at o (row * 64) + k * 2 ^ o) % 2 ^ h

-- .. and how many it looks at before one with all bits clear: all 2 ^ (h - o) of them, where there is none
abbrev pub missed : ℕ → Mem → ℕ → ℕ → ℕ → ℕ
missed h m row o x = first (λ k. block_is false m.rows (place h row o x k) (2 ^ o)) (2 ^ (h - o)) 0

-- a get goes on at huge frame x: "skip the mark and counts below 2^order"; no block, and a count to 512; from order 9 up, a group whose entries are not all 512
abbrev pub goes_on : ℕ → ℕ → Mem → ℕ → ℕ → ℕ → Bool
goes_on h n m row o x =
    let e = entry_of m.entries x in
    pick (ltb o h) ((eqb e mark || ltb e (2 ^ o)) || (ltb (x * 2 ^ h) n && (eqb (missed h m row o x) (2 ^ (h - o)) && leb e (2 ^ h))))
    (not (entries_are (2 ^ h) m.entries x (group_of h o)))

-- where it does not, it takes this block ..
abbrev pub block : ℕ → Mem → ℕ → ℕ → ℕ → ℕ
block h m row o x = pick (ltb o h) (place h row o x (missed h m row o x)) (x * 2 ^ h)

-- .. but for damage: "8 if the search reaches an eligible absent entry, or a count above 512 with no block, or finds a block ending past N", "8 if that group ends past N"
abbrev pub damaged : ℕ → ℕ → Mem → ℕ → ℕ → ℕ → Bool
damaged h n m row o x = (ltb o h && (leb n (x * 2 ^ h) || eqb (missed h m row o x) (2 ^ (h - o)))) || ltb n (block h m row o x + 2 ^ o)

-- the huge frame that it visits after j others: "from the start row's huge frame", from order 9 up groups "from the group holding" it, "wrapping" in the tree
abbrev pub visit_at : ℕ → ℕ → ℕ → ℕ → ℕ → ℕ
visit_at h t row o j = row / rows_per h / t * t + (row / rows_per h % t / group_of h o * group_of h o + j * group_of h o) % t

-- get without a frame: the first visit that does not go on ends it, "7 if all fail"; probes are "entries (or groups) visited, counting the last"
unfoldable pub get_steps : ℕ → ℕ → ℕ → Mem → ℕ → ℕ → Got
get_steps h n t m row o =
    let j = first (λ i. not (goes_on h n m row o (visit_at h t row o i))) (t / group_of h o) 0 in
    let x = visit_at h t row o j in
    pick (ltb j (t / group_of h o)) (pick (damaged h n m row o x) (got 8 0 (j + 1)) (got 0 (block h m row o x) (j + 1))) (got 7 0 (t / group_of h o))

-- the number of each call
unfoldable pub steps : ℕ → ℕ → ℕ → Mem → Call → ℕ
steps h n t m (Call.OnRow RowCall.Get row o) = (get_steps h n t m row o).code
-- "Entry marked or below 2^order is 7; bits not all clear is 7, or 8 if the count is above 512", "Order 9 and up: all entries 512, else 7"
steps h n t m (Call.OnBlock BlockCall.GetAt a o) =
    let e = entry_of m.entries (huge_of h a) in
    pick (ltb o h)
    (pick (eqb e mark || ltb e (2 ^ o)) 7 (unless (block_is false m.rows a (2 ^ o)) (pick (ltb (2 ^ h) e) 8 7)))
    (unless (entries_are (2 ^ h) m.entries (huge_of h a) (group_of h o)) 7)
-- "Marked with any bit set, 8", "Not marked: count above 512 − 2^order, or a bit of the block clear, is 7", "Order 9 and up: all entries the mark; else 7"
steps h n t m (Call.OnBlock BlockCall.Put a o) =
    let e = entry_of m.entries (huge_of h a) in
    pick (ltb o h)
    (pick (eqb e mark) (unless (block_is false m.rows (huge_of h a * 2 ^ h) (2 ^ h)) 8) (pick (ltb (2 ^ h - 2 ^ o) e || not (block_is true m.rows a (2 ^ o))) 7 0))
    (unless (entries_are mark m.entries (huge_of h a) (group_of h o)) 7)
-- "8 if any huge frame has reason 1, 3 or 5"
steps h n t m (Call.OnAll AllCall.Recover) =
    unless (all (λ x. not (eqb (reason h n m x) 1 || eqb (reason h n m x) 3 || eqb (reason h n m x) 5)) (entries_needed h n t) 0) 8
-- "then 8 if the tree isn't consistent": the tree of the request
steps h n t m (Call.OnRow RowCall.WhyGet row o) = unless (sound h n t m (tree_of h t (row * 64))) 8
steps h n t m (Call.OnBlock BlockCall.WhyGetAt a o) = unless (sound h n t m (tree_of h t a)) 8
steps h n t m (Call.OnBlock BlockCall.WhyPut a o) = unless (sound h n t m (tree_of h t a)) 8
steps h n t m (Call.OnBlock BlockCall.IsFree a o) = 0
steps h n t m (Call.OnFrame c f) = 0
steps h n t m (Call.OnAll AllCall.Stats) = 0
steps h n t m (Call.OnAll AllCall.Audit) = 0

-- the block at a is taken: "set the bits and lower the entry by 2^order"; from order 9 up each of its 2^(order-9) entries "gets the mark", and "rows stay as they are"
pub record BitsTaken (h : ℕ) (m left : Mem) (a o : ℕ) : Type 0 where
  pub bits : (f : ℕ) → bit_is true left.rows f ≡ (bit_is true m.rows f || (ltb o h && in_block a o f))
  pub entries : (x : ℕ) → entry_of left.entries x
      ≡ pick (in_block (huge_of h a) (o - h) x) (pick (ltb o h) (entry_of m.entries x - 2 ^ o) mark) (entry_of m.entries x)

-- .. or given back: "clear the bits and raise the entry", where there was a mark "set all 512 bits, entry 0, then clear the block and entry 2^order"; from 9 up its entries "become 512"
pub record BitsGiven (h : ℕ) (m left : Mem) (a o : ℕ) : Type 0 where
  pub bits : (f : ℕ) → bit_is true left.rows f
      ≡ pick (ltb o h) ((bit_is true m.rows f || (eqb (entry_of m.entries (huge_of h a)) mark && eqb (huge_of h f) (huge_of h a))) && not (in_block a o f)) (bit_is true m.rows f)
  pub entries : (x : ℕ) → entry_of left.entries x
      ≡ pick (in_block (huge_of h a) (o - h) x) (pick (ltb o h) (free_of (entry_of m.entries x) + 2 ^ o) (2 ^ h)) (entry_of m.entries x)

-- the whole answers of gets, and of a recover that is refused with 8, and what gets and puts that are done write
pub record Steps (h n t : ℕ) (m : Mem) : Type 0 where
  pub gets : (row o : ℕ) → start_refusal h n t m row o ≡ 0 → (get h n t m row o).answer ≡ get_steps h n t m row o
  pub gets_at : (a o : ℕ) → block_refusal h n t m a o ≡ 0 → (get_at h n t m a o).answer ≡ (let k = steps h n t m (Call.OnBlock BlockCall.GetAt a o) in got k (pick (eqb k 0) a 0) 1)
  pub recovers : (recover h n t m).answer.code ≡ 8 → (recover h n t m).answer ≡ recovered 8 0 0
  pub takes : (row o : ℕ) → (get h n t m row o).answer.code ≡ 0 → BitsTaken h m (get h n t m row o).left (get h n t m row o).answer.frame o
  pub takes_at : (a o : ℕ) → (get_at h n t m a o).answer.code ≡ 0 → BitsTaken h m (get_at h n t m a o).left a o
  pub gives : (a o : ℕ) → (put h n t m a o).answer ≡ 0 → BitsGiven h m (put h n t m a o).left a o

abbrev pub EveryStep : Type 0
EveryStep = (h n t : ℕ) (m : Mem) → Huge h → Steps h n t m
