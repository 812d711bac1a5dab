-- Document 02, W-202: "each reason is proved to hold exactly when given, and 0 is given exactly when the request would succeed".
use Rattle.std.specs.Prelude.{◌≡◌, Bool, true, false, ℕ, ◌+◌, ◌*◌, ◌/◌, ◌^◌, ◌≤◌, ◌<◌, eqb}
use Rattle.rules.specs.Words.{pick, all, Huge, mark, huge_of, tree_of, group_of, Mem, entries_are, block_refusal, start_refusal}
use Rattle.rules.specs.Numbered.{Why}
use Rattle.rules.specs.Calls.{get, get_at, put, why_get, why_get_at, why_put}
use Rattle.rules.specs.Why.{why, unmarked}
use Rattle.rules.specs.Consistent.{Fits, ConsistentIn, free, held, free_frames}
use Rattle.rules.specs.Exact.{Candidate}

abbrev pub Exactly : Type 0 → Type 0 → Type 0
Exactly A B = (A → B) × (B → A)

-- p holds of one of the numbers from a up to e ..
abbrev pub Some : (ℕ → Bool) → ℕ → ℕ → Type 0
Some p a e = (i : ℕ) × ((a ≤ i) × ((i < e) × (p i ≡ true)))

-- .. and i is the lowest of them
pub record Lowest (p : ℕ → Bool) (a e i : ℕ) : Type 0 where
  pub from : a ≤ i
  pub below : i < e
  pub has : p i ≡ true
  pub first : (j : ℕ) → a ≤ j → j < i → p j ≡ false

-- past its checks the tool answers 0 exactly if tree y is consistent, and otherwise 8, with reason and frame 0
pub record Asked (h n t : ℕ) (m : Mem) (y : ℕ) (w : Why) : Type 0 where
  pub consistent : Exactly (w.code ≡ 0) (ConsistentIn h n t m y)
  pub damaged : Exactly (w ≡ why 8 0 0) (ConsistentIn h n t m y → ⊥)

-- get without a frame, in tree y, which has `frees` free frames
pub record GetTold (h n t : ℕ) (m : Mem) (row o y frees : ℕ) (w : Why) : Type 0 where
  -- the tree has too few free frames
  pub few : Exactly (w.reason ≡ 1) (frees < 2 ^ o)
  -- it has enough, but the order is below 9, and no huge frame of it has
  pub spread : Exactly (w.reason ≡ 2) ((2 ^ o ≤ frees) × ((o < h) × ((x : ℕ) → x / t ≡ y → free_frames h n m (2 ^ h) x < 2 ^ o)))
  -- it has enough, below order 9 some huge frame of it has, and no block of it is free
  pub none : Exactly (w.reason ≡ 3)
      ((2 ^ o ≤ frees) × ((o < h → (x : ℕ) × ((x / t ≡ y) × (2 ^ o ≤ free_frames h n m (2 ^ h) x))) × ((f : ℕ) → Candidate h n t row o f → all (free h n m) (2 ^ o) f ≡ false)))
  -- some block of it is free
  pub done : Exactly (w.reason ≡ 0) ((f : ℕ) × (Candidate h n t row o f × (all (free h n m) (2 ^ o) f ≡ true)))
  -- there is no other reason, and no frame beside these
  pub reasons : w.reason ≤ 3
  pub frame : w.frame ≡ 0
  -- and so does the get answer
  pub answers : (get h n t m row o).answer.code ≡ pick (eqb w.reason 0) 0 7

-- get with a frame: some frame of the block is held, and the lowest is told
pub record GetAtTold (h n t : ℕ) (m : Mem) (a o : ℕ) (w : Why) : Type 0 where
  pub some_held : Exactly (w.reason ≡ 4) (Some (held h n m) a (a + 2 ^ o))
  pub lowest : w.reason ≡ 4 → Lowest (held h n m) a (a + 2 ^ o) w.frame
  pub done : Exactly (w.reason ≡ 0) (all (free h n m) (2 ^ o) a ≡ true)
  pub frame : w.reason ≡ 0 → w.frame ≡ 0
  pub answers : (get_at h n t m a o).answer.code ≡ pick (eqb w.reason 0) 0 7

-- put: some frame of the block is free, or all are held and, from order 9 up, some huge frame of it singly; the lowest is told
pub record PutTold (h n t : ℕ) (m : Mem) (a o : ℕ) (w : Why) : Type 0 where
  pub some_free : Exactly (w.reason ≡ 5) (Some (free h n m) a (a + 2 ^ o))
  pub lowest : w.reason ≡ 5 → Lowest (free h n m) a (a + 2 ^ o) w.frame
  pub single : Exactly (w.reason ≡ 6) ((all (held h n m) (2 ^ o) a ≡ true) × ((h ≤ o) × Some (unmarked m.entries) (huge_of h a) (huge_of h a + group_of h o)))
  pub lowest_single : w.reason ≡ 6 → (x : ℕ) × (Lowest (unmarked m.entries) (huge_of h a) (huge_of h a + group_of h o) x × (w.frame ≡ x * 2 ^ h))
  pub done : Exactly (w.reason ≡ 0) ((all (held h n m) (2 ^ o) a ≡ true) × (h ≤ o → entries_are mark m.entries (huge_of h a) (group_of h o) ≡ true))
  pub frame : w.reason ≡ 0 → w.frame ≡ 0
  pub answers : (put h n t m a o).answer ≡ pick (eqb w.reason 0) 0 7

-- of any memory of the slices' widths: past checks 1 to 6, 8 by the asked tree alone; and where the tool's code is 0, what it tells
pub record Tells (h n t : ℕ) (m : Mem) : Type 0 where
  pub asks_get : (row o : ℕ) → start_refusal h n t m row o ≡ 0 → Asked h n t m (tree_of h t (row * 64)) (why_get h n t m row o)
  pub asks_get_at : (a o : ℕ) → block_refusal h n t m a o ≡ 0 → Asked h n t m (tree_of h t a) (why_get_at h n t m a o)
  pub asks_put : (a o : ℕ) → block_refusal h n t m a o ≡ 0 → Asked h n t m (tree_of h t a) (why_put h n t m a o)
  pub gets : (row o : ℕ) → (why_get h n t m row o).code ≡ 0
      → GetTold h n t m row o (tree_of h t (row * 64)) (free_frames h n m (2 ^ h * t) (tree_of h t (row * 64))) (why_get h n t m row o)
  pub gets_at : (a o : ℕ) → (why_get_at h n t m a o).code ≡ 0 → GetAtTold h n t m a o (why_get_at h n t m a o)
  pub puts : (a o : ℕ) → (why_put h n t m a o).code ≡ 0 → PutTold h n t m a o (why_put h n t m a o)

abbrev pub WhysTell : Type 0
WhysTell = (h n t : ℕ) (m : Mem) → Huge h → Fits m → Tells h n t m
