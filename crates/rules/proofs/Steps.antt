-- What get, put and recover answer past their checks, on any memory of the needed size, in frames, bits and entries. Assumes nothing.
use mathlib.Core.Path.{◌≡◌, refl, sym, ap, ◌∙◌}
use mathlib.Core.Bool.{Bool, true, false, not, ◌&&◌, ◌||◌, not-not}
use mathlib.Core.List.{List}
use Prim.Native.Nat.{ℕ, ◌+◌, ◌-◌, ◌*◌, ◌/◌, ◌^◌, ◌≤◌, ◌<◌}
use native.Mathlib.Decide.{dec_lt}
use native.Mathlib.Nat.{div-one, mul-one}
use native.Mathlib.Omega.{arith}
use lib.Dec.{eqb, leb, ltb}
use borrow.Author.Tests.{eq-eqb, lt-ltb, le-ltb, not-true}
use Rattle.base.specs.Walk.{pick, first}
use Rattle.base.specs.Code.{Out, out, unless}
use Rattle.base.specs.Size.{Huge, rows_per}
use Rattle.base.specs.Bits.{block_is}
use Rattle.base.proofs.Walks.{first_same, first_hit, pick_case, pick_of}
use Rattle.base.proofs.Tests.{not_leb, not_ltb, not_both}
use Rattle.rules.specs.Numbered.{Got}
use Rattle.rules.specs.Numbered.{Recovered}
use Rattle.rules.specs.Numbers.{mark, huge_of, group_of}
use Rattle.rules.specs.State.{Mem, on_entries, entry_of, free_of, entries_are}
use Rattle.rules.specs.Refusals.{sizes_refusal, block_refusal, start_refusal}
use Rattle.rules.specs.Get.{got, stops, entry_at, visits_passed, ended, groups_passed, take_group, get_small, get_huge, get_small_at, get_huge_at, get, get_at}
use Rattle.rules.specs.Recover.{recovered, recoverable, recover_all, recover}
use Rattle.rules.specs.Put.{put_marked, put_counted, put_small, put_huge}
use Rattle.rules.specs.Numbered.{Pass, Damage, Place}
use Rattle.rules.specs.Call.{BlockCall, Call}
use Rattle.rules.specs.Steps.{goes_on, block, damaged, visit_at, get_steps, steps}
use Rattle.rules.proofs.Lent.{started, sized_passes}
use Rattle.rules.proofs.GetSteps.{stops_at}
use Rattle.rules.proofs.GroupSteps.{group_frames}
use Rattle.rules.proofs.VisitExact.{few_is, visit_is_exact}

-- ---- get without a frame

-- a visit that does not go on ends the get
visit_stops : (on damage : Bool) (f : ℕ) → stops (pick on Pass (pick damage Damage (Place f))) ≡ not on
visit_stops true damage f = refl
visit_stops false true f = refl
visit_stops false false f = refl

-- with damage, or with its block
visit_ends : (h : ℕ) (m : Mem) (o p : ℕ) (on damage : Bool) (f : ℕ) → on ≡ false
    → (ended h m o p (pick on Pass (pick damage Damage (Place f)))).answer ≡ pick damage (got 8 0 p) (got 0 f p)
visit_ends h m o p on true f e = rw e
visit_ends h m o p on false f e = rw e

module _ {h : ℕ} (H : Huge h) (n t : ℕ) (m : Mem) (row o : ℕ) where
  abbrev x : ℕ
  x = row / rows_per h

  -- how many visits go on
  abbrev went_on : ℕ
  went_on = first (λ j. not (goes_on h n m row o (visit_at h t row o j))) (t / group_of h o) 0

  -- below the huge order each entry is a group
  module _ (s : sizes_refusal h n t m ≡ 0) (l : o < h) where
    one : group_of h o ≡ 1
    one = let z : o - h ≡ 0 = omega arith in rw z

    visits : t / group_of h o ≡ t
    visits = rw (one, div-one)

    visit_here : (j : ℕ) → visit_at h t row o j ≡ entry_at t x j
    visit_here j = rw (one, div-one, mul-one, mul-one)

    stops_here : (j : ℕ) → not (goes_on h n m row o (visit_at h t row o j)) ≡ stops_at h n t m row o j
    stops_here j =
        let y = entry_at t x j in
        rw (visit_here j) (sym (ap stops (visit_is_exact h n t m row o y H l s) ∙ visit_stops (goes_on h n m row o y) (damaged h n m row o y) (block h m row o y)))

    went_visits : went_on ≡ visits_passed h n t m row o
    unfolding visits_passed
    went_visits =
        ap (λ (k : ℕ). first (λ j. not (goes_on h n m row o (visit_at h t row o j))) k 0) visits
        ∙ first_same _ (stops_at h n t m row o) t 0 (λ j _ _. stops_here j)

    small_steps : (get_small h n t m row o).answer ≡ get_steps h n t m row o
    unfolding get_small get_steps visits_passed
    small_steps =
        let j = visits_passed h n t m row o in
        let y = entry_at t x j in
        elim (dec_lt j t) [
          | yes u ↦
              let hit : stops_at h n t m row o j ≡ true = first_hit (stops_at h n t m row o) t 0 (omega arith) in
              rw (went_visits, visits, lt-ltb j t u, visit_here j, visit_is_exact h n t m row o y H l s)
              (visit_ends h m o (j + 1) (goes_on h n m row o y) (damaged h n m row o y) (block h m row o y)
              (not-true (goes_on h n m row o y) (ap (λ (k : ℕ). not (goes_on h n m row o k)) (sym (visit_here j)) ∙ stops_here j ∙ hit)))
          | no u ↦ rw (went_visits, visits, le-ltb j t (omega arith))
        ]

  -- from the huge order up
  module _ (l : h ≤ o) where
    went_groups : went_on ≡ groups_passed h m.entries t (group_of h o) x
    unfolding groups_passed
    went_groups =
        first_same _ _ (t / group_of h o) 0 (λ j _ _. rw (le-ltb o h l) (not-not (entries_are (2 ^ h) m.entries (visit_at h t row o j) (group_of h o))))

    -- a group is taken unless it ends past N
    group_ends : (at p : ℕ) → (take_group h n m.entries at (group_of h o) p).answer ≡ pick (ltb n (at * 2 ^ h + 2 ^ o)) (got 8 0 p) (got 0 (at * 2 ^ h) p)
    unfolding take_group
    group_ends at p = rw (group_frames h at o l, ← not_leb (at * 2 ^ h + 2 ^ o) n) (go (leb (at * 2 ^ h + 2 ^ o) n) _)
      where
        go : (b : Bool) (left : List ℕ) → (pick b (out (got 0 (at * 2 ^ h) p) left) (out (got 8 0 p) m.entries)).answer ≡ pick (not b) (got 8 0 p) (got 0 (at * 2 ^ h) p)
        go true left = refl
        go false left = refl

    huge_steps : (get_huge h n t m.entries row o).answer ≡ get_steps h n t m row o
    unfolding get_huge get_steps
    huge_steps =
        let j = groups_passed h m.entries t (group_of h o) x in
        elim (dec_lt j (t / group_of h o)) [
          | yes u ↦ rw (went_groups, le-ltb o h l, lt-ltb j (t / group_of h o) u) (group_ends (visit_at h t row o j) (j + 1))
          | no u ↦ rw (went_groups, le-ltb o h l, le-ltb j (t / group_of h o) (omega arith))
        ]

  pub get_steps_lem : start_refusal h n t m row o ≡ 0 → (pick (ltb o h) (get_small h n t m row o) (on_entries m (get_huge h n t m.entries row o))).answer ≡ get_steps h n t m row o
  get_steps_lem s = elim (dec_lt o h) [
    | yes l ↦ rw (lt-ltb o h l) (small_steps (sized_passes (started h n t _ row o s).sized) l)
    | no l ↦ rw (le-ltb o h (omega arith)) (huge_steps (omega arith))
  ]

-- ---- get with a frame

module _ (h n t : ℕ) (m : Mem) (a o : ℕ) where
  abbrev e : ℕ
  e = entry_of m.entries (huge_of h a)

  -- the number k of a get with a frame, and its whole answer
  abbrev got_at : ℕ → Got
  got_at k = got k (pick (eqb k 0) a 0) 1

  small_at_steps : (get_small_at h m a o).answer ≡ got_at (pick (eqb e mark || ltb e (2 ^ o)) 7 (unless (block_is false m.rows a (2 ^ o)) (pick (ltb (2 ^ h) e) 8 7)))
  unfolding get_small_at
  small_at_steps = rw (← not_ltb (free_of e) (2 ^ o), few_is e o, ← not_ltb (2 ^ h) e) (go (eqb e mark || ltb e (2 ^ o)) (block_is false m.rows a (2 ^ o)) (ltb (2 ^ h) e) _)
    where
      go : (few clear above : Bool) (left : Mem)
          → (pick (not few) (pick clear (out (got 0 a 1) left) (out (got (pick (not above) 7 8) 0 1) m)) (out (got 7 0 1) m)).answer
          ≡ got_at (pick few 7 (unless clear (pick above 8 7)))
      go true clear above left = refl
      go false true above left = refl
      go false false true left = refl
      go false false false left = refl

  huge_at_steps : (get_huge_at h m.entries a o).answer ≡ got_at (unless (entries_are (2 ^ h) m.entries (huge_of h a) (group_of h o)) 7)
  unfolding get_huge_at
  huge_at_steps = go (entries_are (2 ^ h) m.entries (huge_of h a) (group_of h o)) _
    where
      go : (b : Bool) (left : List ℕ) → (pick b (out (got 0 a 1) left) (out (got 7 0 1) m.entries)).answer ≡ got_at (unless b 7)
      go true left = refl
      go false left = refl

  pub get_at_steps : (pick (ltb o h) (get_small_at h m a o) (on_entries m (get_huge_at h m.entries a o))).answer ≡ got_at (steps h n t m (Call.OnBlock BlockCall.GetAt a o))
  unfolding steps
  get_at_steps = elim (dec_lt o h) [
    | yes l ↦ rw (lt-ltb o h l) small_at_steps
    | no l ↦ rw (le-ltb o h (omega arith)) huge_at_steps
  ]

  -- ---- put

  put_small_steps : (put_small h m a o).answer
      ≡ pick (eqb e mark) (unless (block_is false m.rows (huge_of h a * 2 ^ h) (2 ^ h)) 8) (pick (ltb (2 ^ h - 2 ^ o) e || not (block_is true m.rows a (2 ^ o))) 7 0)
  unfolding put_small put_marked put_counted
  put_small_steps =
      rw (← not_leb e (2 ^ h - 2 ^ o), ← not_both (leb e (2 ^ h - 2 ^ o)) (block_is true m.rows a (2 ^ o)))
      (go (eqb e mark) (block_is false m.rows (huge_of h a * 2 ^ h) (2 ^ h)) (leb e (2 ^ h - 2 ^ o) && block_is true m.rows a (2 ^ o)) _ _)
    where
      go : (marked clear held : Bool) (b c : Mem)
          → (pick marked (pick clear (out 0 b) (out 8 m)) (pick held (out 0 c) (out 7 m))).answer ≡ pick marked (unless clear 8) (pick (not held) 7 0)
      go true true held b c = refl
      go true false held b c = refl
      go false clear true b c = refl
      go false clear false b c = refl

  put_huge_steps : (put_huge h m.entries a o).answer ≡ unless (entries_are mark m.entries (huge_of h a) (group_of h o)) 7
  unfolding put_huge
  put_huge_steps = pick_of (λ (r : Out ℕ (List ℕ)). r.answer) (entries_are mark m.entries (huge_of h a) (group_of h o)) _ _

  pub put_steps : (pick (ltb o h) (put_small h m a o) (on_entries m (put_huge h m.entries a o))).answer ≡ steps h n t m (Call.OnBlock BlockCall.Put a o)
  unfolding steps
  put_steps = elim (dec_lt o h) [
    | yes l ↦ rw (lt-ltb o h l) put_small_steps
    | no l ↦ rw (le-ltb o h (omega arith)) put_huge_steps
  ]

-- ---- recover

-- refused with 8 it answers no change
pub recover_refused : (h n t : ℕ) (m : Mem) → (recover h n t m).answer.code ≡ 8 → (recover h n t m).answer ≡ recovered 8 0 0
unfolding recover recover_all
recover_refused h n t m =
    let No : Out Recovered Mem → Type 0 = λ r. r.answer.code ≡ 8 → r.answer ≡ recovered 8 0 0 in
    pick_case No (eqb (sizes_refusal h n t m) 0) (λ _. pick_case No (recoverable h n t m) (λ _ z. absurd (omega arith)) (λ _ _. refl)) (λ _ z. rw z)

-- ---- the whole answers of gets

pub gets_answer : {h : ℕ} → Huge h → (n t : ℕ) (m : Mem) (row o : ℕ) → start_refusal h n t m row o ≡ 0 → (get h n t m row o).answer ≡ get_steps h n t m row o
unfolding get
gets_answer H n t m row o s = rw (eq-eqb (start_refusal _ n t m row o) 0 s) (get_steps_lem H n t m row o s)

pub gets_at_answer : (h n t : ℕ) (m : Mem) (a o : ℕ) → block_refusal h n t m a o ≡ 0
    → (get_at h n t m a o).answer ≡ got_at h n t m a o (steps h n t m (Call.OnBlock BlockCall.GetAt a o))
unfolding get_at
gets_at_answer h n t m a o s = rw (eq-eqb (block_refusal h n t m a o) 0 s) (get_at_steps h n t m a o)
