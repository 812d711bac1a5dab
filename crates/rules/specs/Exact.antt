-- What calls make of states. Demand 2: on a consistent state, what each call answers in terms of free and held frames, and which frames it turns.
pub use Rattle.base.specs.Ring.{steps_to}
use Rattle.bitfield_rules.specs.Calls.{answered}
use Rattle.std.specs.Prelude.{◌≡◌, true, false, not, ◌&&◌, ◌||◌, ◌⊎◌, ℕ, ◌+◌, ◌*◌, ◌/◌, ◌%◌, ◌^◌, ◌≤◌, ◌<◌, eqb, ltb}
use Rattle.rules.specs.Words.{pick, all, count, out, unless, Huge, rows_per, mark, huge_of, tree_of, top_order, block_at, ceil, trees_needed, entries_needed, group_of, Mem, block_refusal, start_refusal, frame_refusal, got, statistics, entry_of, entries_are, fault, recovered}
use Rattle.rules.specs.Call.{Call, left}
use Rattle.rules.specs.Calls.{get, get_at, put, is_free, stats, stats_at, free_all, reserve_all, audit, recover}
use Rattle.rules.specs.Audit.{reason}
use Rattle.rules.specs.Consistent.{Fits, Consistent, ConsistentIn, free, held, entirely, free_frames, in_block}

-- an audit that is done answers x and r: huge frame x has that reason (Audit.antt has the five), and none before it has any; where r is 0, none has
pub record Audited (h n t : ℕ) (m : Mem) (x r : ℕ) : Type 0 where
  pub has : reason h n m x ≡ r
  pub needed : x < entries_needed h n t
  pub first : (y : ℕ) → y < x → reason h n m y ≡ 0
  pub clean : r ≡ 0 → (x ≡ 0) × ((y : ℕ) → y < entries_needed h n t → reason h n m y ≡ 0)

-- of any memory of the slices' widths
pub record States (h n t : ℕ) (m : Mem) : Type 0 where
  -- the two starts give consistent states, with all frames free, or all held
  pub starts_free : (free_all h n t m).answer ≡ 0 → Consistent h n t (free_all h n t m).left × ((f : ℕ) → f < n → free h n (free_all h n t m).left f ≡ true)
  pub starts_held : (reserve_all h n t m).answer ≡ 0 → Consistent h n t (reserve_all h n t m).left × ((f : ℕ) → f < n → free h n (reserve_all h n t m).left f ≡ false)
  -- an audit names the first huge frame that has a reason, and a clean one is exactly a consistent state
  pub audits_first : (x r : ℕ) → audit h n t m ≡ fault 0 x r → Audited h n t m x r
  pub audits : (audit h n t m ≡ fault 0 0 0 → Consistent h n t m) × (Consistent h n t m → audit h n t m ≡ fault 0 0 0)
  -- after a recover that is done the state is consistent, and no frame's being free or held has changed; a consistent state it leaves as it is, and says so
  pub recovers : (recover h n t m).answer.code ≡ 0 → Consistent h n t (recover h n t m).left × ((f : ℕ) → free h n (recover h n t m).left f ≡ free h n m f)
  pub recovers_nothing : Consistent h n t m → recover h n t m ≡ out (recovered 0 0 0) m
  -- every call of a run keeps a consistent state so
  pub keeps : (c : Call) → Consistent h n t m → Consistent h n t (left h n t m c)

abbrev pub Consistency : Type 0
Consistency = (h n t : ℕ) (m : Mem) → Huge h → Fits m → States h n t m

-- the order of a get's search: how many huge frames of the tree come before frame f's, "from the start row's huge frame", from order 9 up "from the group holding" it, "wrapping"
abbrev pub round : ℕ → ℕ → ℕ → ℕ → ℕ → ℕ
round h t row o f = steps_to t (row / rows_per h / group_of h o * group_of h o) (huge_of h f)

-- .. the block with the lesser number comes first; in a huge frame "from (start row mod 8), wrapping", above order 6 "from the group holding" it: from the place of the block that holds the start row
abbrev pub rank : ℕ → ℕ → ℕ → ℕ → ℕ → ℕ
rank h t row o f = round h t row o f * 2 ^ h + steps_to (2 ^ h) (block_at o (row * 64)) f

-- a block that a get may take: aligned, in the start row's tree, ending at or before N
pub record Candidate (h n t row o f : ℕ) : Type 0 where
  pub aligned : f % 2 ^ o ≡ 0
  pub tree : tree_of h t f ≡ tree_of h t (row * 64)
  pub ends : f + 2 ^ o ≤ n

-- exactly the frames of the block at a turn from free to held ..
pub record Taken (h n : ℕ) (m left : Mem) (a o : ℕ) : Type 0 where
  pub was : all (free h n m) (2 ^ o) a ≡ true
  pub is : (f : ℕ) → free h n left f ≡ (free h n m f && not (in_block a o f))

-- .. or from held to free
pub record Given (h n : ℕ) (m left : Mem) (a o : ℕ) : Type 0 where
  pub was : all (held h n m) (2 ^ o) a ≡ true
  pub is : (f : ℕ) → free h n left f ≡ (free h n m f || in_block a o f)

-- get: refused with 7, and no block of the tree is free ..
pub record Missed (h n t : ℕ) (m : Mem) (row o : ℕ) : Type 0 where
  pub answer : (get h n t m row o).answer ≡ got 7 0 (t / group_of h o)
  pub none : (f : ℕ) → Candidate h n t row o f → all (free h n m) (2 ^ o) f ≡ false

-- .. or done: it takes the block at a, before which none is free
pub record First (h n t : ℕ) (m : Mem) (row o a : ℕ) : Type 0 where
  pub answer : (get h n t m row o).answer ≡ got 0 a (round h t row o a / group_of h o + 1)
  pub block : Candidate h n t row o a
  pub taken : Taken h n m (get h n t m row o).left a o
  pub first : (f : ℕ) → Candidate h n t row o f → rank h t row o f < rank h t row o a → all (free h n m) (2 ^ o) f ≡ false

-- of a consistent tree y, whatever the other trees hold
pub record ExactIn (h n t : ℕ) (m : Mem) (y : ℕ) : Type 0 where
  -- get without a frame, once past checks 1 to 6
  pub gets : (row o : ℕ) → tree_of h t (row * 64) ≡ y → start_refusal h n t m row o ≡ 0 → Missed h n t m row o ⊎ First h n t m row o (get h n t m row o).answer.frame
  -- the order is one: no two blocks have the same turn
  pub ranks : (row o f g : ℕ) → Candidate h n t row o f → Candidate h n t row o g → rank h t row o f ≡ rank h t row o g → f ≡ g
  -- get with a frame is done exactly if all frames of the block are free; from order 9 up that is, if all its huge frames are, which their entries tell
  pub gets_at : (a o : ℕ) → tree_of h t a ≡ y → block_refusal h n t m a o ≡ 0 → ((get_at h n t m a o).answer ≡ pick (all (free h n m) (2 ^ o) a) (got 0 a 1) (got 7 0 1))
      × (all (free h n m) (2 ^ o) a ≡ true → Taken h n m (get_at h n t m a o).left a o)
  pub huge_frames : (a o : ℕ) → h ≤ o → a % 2 ^ o ≡ 0 → all (free h n m) (2 ^ o) a ≡ all (entirely h n m (2 ^ h)) (group_of h o) (huge_of h a)
  pub entry_tells : (x : ℕ) → x / t ≡ y → x < entries_needed h n t → entirely h n m (2 ^ h) x ≡ eqb (entry_of m.entries x) (2 ^ h)
  -- put is done exactly if all frames of the block are held, from order 9 up each of its huge frames whole
  pub puts : (a o : ℕ) → tree_of h t a ≡ y → block_refusal h n t m a o ≡ 0
      → ((put h n t m a o).answer ≡ unless (all (held h n m) (2 ^ o) a && pick (ltb o h) true (entries_are mark m.entries (huge_of h a) (group_of h o))) 7)
      × ((put h n t m a o).answer ≡ 0 → Given h n m (put h n t m a o).left a o)
  pub asks : (a o : ℕ) → tree_of h t a ≡ y → block_refusal h n t m a o ≡ 0 → is_free h n t m a o ≡ answered 0 (all (free h n m) (2 ^ o) a)
  -- the frame at order 0, its huge frame at order 9, its tree at the top order, and at any other zeros
  pub counts_at : (f o : ℕ) → tree_of h t f ≡ y → frame_refusal h n t m f ≡ 0 → stats_at h n t m f o ≡ pick (eqb o 0) (statistics 0 (pick (free h n m f) 1 0) 0 0)
      (pick (eqb o h) (statistics 0 (free_frames h n m (2 ^ h) (huge_of h f)) (pick (entirely h n m (2 ^ h) (huge_of h f)) 1 0) 0)
      (pick (eqb o (top_order h t)) (statistics 0 (free_frames h n m (2 ^ h * t) y) (count (entirely h n m (2 ^ h)) t (y * t)) (pick (entirely h n m (2 ^ h * t) y) 1 0))
      (statistics 0 0 0 0)))

-- of a consistent state: so is each tree, and stats counts the frames of them all
pub record Exact (h n t : ℕ) (m : Mem) : Type 0 where
  pub trees : (y : ℕ) → ExactIn h n t m y
  pub counts : stats h n t m ≡ statistics 0 (count (free h n m) n 0) (count (entirely h n m (2 ^ h)) (ceil n (2 ^ h)) 0) (count (entirely h n m (2 ^ h * t)) (trees_needed h n t) 0)

abbrev pub Demand2In : Type 0
Demand2In = (h n t : ℕ) (m : Mem) (y : ℕ) → Huge h → ConsistentIn h n t m y → ExactIn h n t m y

abbrev pub Demand2 : Type 0
Demand2 = (h n t : ℕ) (m : Mem) → Huge h → Consistent h n t m → Exact h n t m

-- document 02, W-206, what "near" comes to: at every order, where the block that holds the start row is free, a get takes it, at its first probe
abbrev pub OwnBlockFirst : Type 0
OwnBlockFirst = (h n t : ℕ) (m : Mem) (row o : ℕ) → Huge h → ConsistentIn h n t m (tree_of h t (row * 64)) → start_refusal h n t m row o ≡ 0
    → all (free h n m) (2 ^ o) (block_at o (row * 64)) ≡ true → (get h n t m row o).answer ≡ got 0 (block_at o (row * 64)) 1
