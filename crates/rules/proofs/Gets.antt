-- A get without a frame below the huge order, in a consistent tree: it takes the first free block in its search order, or there is none. Assumes nothing.
use mathlib.Core.Path.{◌≡◌, sym, ap, ◌∙◌}
use mathlib.Core.Bool.{true, false, true≢false}
use mathlib.Core.Logic.{◌⊎◌, inl, inr, ⊎_elim}
use Prim.Native.Nat.{ℕ, ◌+◌, ◌-◌, ◌*◌, ◌/◌, ◌^◌, ◌≤◌, ◌<◌}
use native.Mathlib.Decide.{dec_lt}
use native.Mathlib.Nat.{div-one, mul-one}
use native.Mathlib.Omega.{arith}
use lib.Pow.{pow_pos}
use borrow.Author.Tests.{eq-eqb, lt-ltb, le-ltb}
use Rattle.base.specs.Walk.{all}
use Rattle.base.specs.Code.{Out, out}
use Rattle.base.specs.Size.{Huge, rows_per}
use Rattle.base.proofs.Rests.{digits_less}
use Rattle.base.proofs.Walks.{first_hit, first_before}
use Rattle.rules.specs.Numbered.{Got}
use Rattle.rules.specs.Numbers.{huge_of, tree_of, entries_needed, group_of, block_at}
use Rattle.rules.specs.State.{Mem}
use Rattle.rules.specs.Refusals.{start_refusal}
use Rattle.rules.specs.Get.{got, taken, visit, stops, entry_at, visits_passed, ended, get_small, get}
use Rattle.rules.proofs.Numbers.{tree_pos, tree_of_huge, tree_by_rows}
use Rattle.rules.proofs.Lent.{started, started_exactly}
use Rattle.rules.specs.Numbered.{Visit}
use Rattle.rules.specs.Numbered.{Pass, Damage, Place}
use Rattle.rules.proofs.GetSteps.{entry_lent, stops_at}
use Rattle.rules.specs.Consistent.{ConsistentIn, free}
use Rattle.rules.specs.Exact.{steps_to, round, rank, Candidate, Missed, First}
use Rattle.rules.proofs.Effects.{Took}
use Rattle.rules.proofs.Rings.{steps_low, steps_same, visited_ring, visited_steps, steps_visited}
use Rattle.rules.proofs.Smalls.{small_taken}
use Rattle.rules.proofs.Visits.{turn_in, NoneOf, FirstOf, Says, visit_says}

-- a visit that passes says that no block of its huge frame is free
says_none : (h n : ℕ) (m : Mem) (row o x : ℕ) (v : Visit) → Says h n m row o x v → stops v ≡ false → NoneOf h n m o x
unfolding Says
says_none h n m row o x Pass none e = none
says_none h n m row o x Damage damage e = absurd damage
says_none h n m row o x (Place a) first e = absurd (true≢false e)

module _ {h n t : ℕ} {m : Mem} {y : ℕ} (H : Huge h) (c : ConsistentIn h n t m y) (row o : ℕ) (own : tree_of h t (row * 64) ≡ y) (passes : start_refusal h n t m row o ≡ 0)
    (low : o < h) where
  pos : 0 < t
  pos = tree_pos t c.sized.tree

  -- below the huge order a group is one entry
  one : group_of h o ≡ 1
  one = let z : o - h ≡ 0 = omega arith in rw z

  round_is : (f : ℕ) → round h t row o f ≡ steps_to t (row / rows_per h) (huge_of h f)
  round_is f = rw (one, div-one, mul-one)

  -- the tree is y, and its entries are needed
  entry_own : (j : ℕ) → entry_at t (row / rows_per h) j / t ≡ y
  entry_own j = visited_ring t (row / rows_per h) pos j ∙ sym (tree_by_rows t row H) ∙ own

  entry_needed : (j : ℕ) → entry_at t (row / rows_per h) j < entries_needed h n t
  entry_needed = entry_lent H (started_exactly (started h n t _ row o passes))

  -- a block is in the start row's tree where its huge frame is
  tree_ring : (f : ℕ) → tree_of h t f ≡ tree_of h t (row * 64) → huge_of h f / t ≡ row / rows_per h / t
  tree_ring f e = sym (tree_of_huge h t f) ∙ e ∙ tree_by_rows t row H

  ring_tree : (f : ℕ) → huge_of h f / t ≡ row / rows_per h / t → tree_of h t f ≡ tree_of h t (row * 64)
  ring_tree f e = tree_of_huge h t f ∙ e ∙ sym (tree_by_rows t row H)

  -- a block of a huge frame that is passed is not free
  passed_held : (f : ℕ) → Candidate h n t row o f → round h t row o f < visits_passed h n t m row o → all (free h n m) (2 ^ o) f ≡ false
  unfolding visits_passed
  passed_held f b l =
      let j = steps_to t (row / rows_per h) (huge_of h f) in
      let before : stops_at h n t m row o j ≡ false = first_before (stops_at h n t m row o) t 0 j (omega arith) (rw (round_is f) at l) in
      let x = entry_at t (row / rows_per h) j in
      says_none h n m row o x (visit h n m row o x) (visit_says H c row o low x (entry_own j) (entry_needed j)) before f
      (record { huge = sym (steps_visited t (row / rows_per h) pos (huge_of h f) (tree_ring f b.tree)); aligned = b.aligned; ends = b.ends })

  -- past the refusals
  get_is : get h n t m row o ≡ get_small h n t m row o
  unfolding get
  get_is = rw (eq-eqb (start_refusal h n t m row o) 0 passes, lt-ltb o h low)

  -- ---- every visit passes
  module _ (l : t ≤ visits_passed h n t m row o) where
    -- the get is refused with 7
    none_answers : (get h n t m row o).answer ≡ got 7 0 t
    unfolding get_small
    none_answers = rw (get_is, le-ltb (visits_passed h n t m row o) t l)

    get_missed : Missed h n t m row o
    get_missed = record {
      answer = none_answers ∙ rw (one, div-one);
      none = λ f b. passed_held f b (omega (arith, steps_low t (row / rows_per h / group_of h o * group_of h o) pos (huge_of h f)));
    }

  -- ---- one does not
  module _ (l : visits_passed h n t m row o < t) where
    -- it is that of entry x, after j others
    abbrev j : ℕ
    j = visits_passed h n t m row o

    abbrev x : ℕ
    x = entry_at t (row / rows_per h) j

    -- the get answers what it says
    one_answers : get h n t m row o ≡ ended h m o (j + 1) (visit h n m row o x)
    unfolding get_small
    one_answers = get_is ∙ rw (lt-ltb (visits_passed h n t m row o) t l)

    one_stops : stops (visit h n m row o x) ≡ true
    unfolding visits_passed
    one_stops = first_hit (stops_at h n t m row o) t 0 (omega arith)

    x_ring : x / t ≡ row / rows_per h / t
    x_ring = visited_ring t (row / rows_per h) pos j

    x_steps : steps_to t (row / rows_per h) x ≡ j
    x_steps = visited_steps t (row / rows_per h) pos (visits_passed h n t m row o) l

    -- it answers block a
    module _ (a : ℕ) (s : FirstOf h n m row o x a) where
      in_tree : Candidate h n t row o a
      in_tree = record { aligned = s.block.aligned; tree = ring_tree a (ap (λ (y : ℕ). y / t) s.block.huge ∙ x_ring); ends = s.block.ends }

      a_round : round h t row o a ≡ j
      a_round = round_is a ∙ ap (steps_to t (row / rows_per h)) s.block.huge ∙ x_steps

      -- no block that comes before it is free
      none_before : (f : ℕ) → Candidate h n t row o f → rank h t row o f < rank h t row o a → all (free h n m) (2 ^ o) f ≡ false
      none_before f b less = ⊎_elim
          (λ before. passed_held f b (rw a_round at before))
          (λ both.
          let same = sym (round_is f) ∙ both.0 ∙ a_round ∙ sym x_steps in
          s.first f (record { huge = steps_same t (row / rows_per h) pos (huge_of h f) x (tree_ring f b.tree ∙ sym x_ring) same; aligned = b.aligned; ends = b.ends }) both.1)
          (digits_less (2 ^ h) (round h t row o f) (turn_in h row o f) (round h t row o a) (turn_in h row o a) (steps_low (2 ^ h) (block_at o (row * 64)) (pow_pos h) a) less)

      get_first : Took h n t m (taken h m a o) a o → get h n t m row o ≡ out (got 0 a (j + 1)) (taken h m a o)
          → First h n t m row o a × Took h n t m (taken h m a o) a o
      get_first took is = (
        record { answer = ap (λ (r : Out Got Mem). r.answer) is ∙ rw (a_round, one, div-one); block = in_tree; taken = rw is took.taken; first = none_before },
        took,
      )

    get_done : (v : Visit) → Says h n m row o x v → stops v ≡ true → get h n t m row o ≡ ended h m o (j + 1) v
        → First h n t m row o (get h n t m row o).answer.frame × Took h n t m (get h n t m row o).left (get h n t m row o).answer.frame o
    unfolding Says
    get_done Pass s e is = absurd (true≢false (sym e))
    get_done Damage s e is = absurd s
    get_done (Place a) s e is =
        rw is (get_first a s (small_taken H c a o low s.block.aligned s.block.ends (rw s.block.huge (entry_own j)) (rw s.block.huge s.counted) s.clear) is)

  -- it finds no free block and there is none, or it takes the first
  pub get_below : Missed h n t m row o ⊎ (First h n t m row o (get h n t m row o).answer.frame × Took h n t m (get h n t m row o).left (get h n t m row o).answer.frame o)
  get_below = elim (dec_lt (visits_passed h n t m row o) t) [
    | yes l ↦ inr (get_done l (visit h n m row o (x l)) (visit_says H c row o low (x l) (entry_own (j l)) (entry_needed (j l))) (one_stops l) (one_answers l))
    | no l ↦ inl (get_missed (omega arith))
  ]
