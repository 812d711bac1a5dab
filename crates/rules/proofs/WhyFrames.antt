-- Each reason of a get with a frame and of a put holds exactly when it is given, with the lowest frame, and the call answers so. Assumes nothing.
use mathlib.Core.Path.{◌≡◌, refl, sym, ap, ◌∙◌}
use mathlib.Core.Bool.{Bool, true, false, not, ◌&&◌, true≢false}
use Prim.Native.Nat.{ℕ, ◌+◌, ◌*◌, ◌^◌, ◌≤◌, ◌<◌}
use native.Mathlib.Decide.{dec_lt}
use native.Mathlib.Omega.{arith}
use lib.Dec.{eqb, leb, ltb}
use borrow.Author.Tests.{lt-ltb, le-ltb, le-leb, leb-true, not-true, not-false}
use Rattle.base.specs.Walk.{pick, first, all}
use Rattle.base.proofs.Tests.{both}
use Rattle.base.proofs.Walks.{pick_case, pick_of, all_of, all_not}
use Rattle.rules.specs.Numbered.{Got}
use Rattle.rules.specs.Numbered.{Why}
use Rattle.rules.specs.Numbers.{mark, huge_of, tree_of, group_of}
use Rattle.rules.specs.State.{Mem, entry_of, entries_are}
use Rattle.rules.specs.Refusals.{block_refusal}
use Rattle.rules.specs.Get.{got, get_at}
use Rattle.rules.specs.Put.{put}
use Rattle.rules.specs.Consistent.{free, held}
use Rattle.rules.specs.Exact.{ExactIn}
use Rattle.rules.specs.Why.{why, unmarked, get_at_reason, put_reason}
use Rattle.rules.specs.Whys.{GetAtTold, PutTold}
use Rattle.rules.proofs.Lowest.{always, never, search_lowest, search_none, lowest_some, none_some}

module _ (h n t : ℕ) (m : Mem) (a o : ℕ) (passed : block_refusal h n t m a o ≡ 0) (exact : ExactIn h n t m (tree_of h t a)) where
  abbrev all_free : Bool
  all_free = all (free h n m) (2 ^ o) a

  abbrev all_held : Bool
  all_held = all (held h n m) (2 ^ o) a

  -- ---- get with a frame

  abbrev GetSays : Why → Type 0
  GetSays = GetAtTold h n t m a o

  get_code : {b : Bool} → all_free ≡ b → (get_at h n t m a o).answer.code ≡ pick b 0 7
  get_code q =
      ap (λ (r : Got). r.code) (exact.gets_at a o refl passed).0 ∙ pick_of (λ (r : Got). r.code) all_free (got 0 a 1) (got 7 0 1) ∙ ap (λ (d : Bool). pick d 0 7) q

  pub get_at_told : GetSays (get_at_reason h n m a o)
  unfolding get_at_reason
  get_at_told =
      pick_case GetSays (ltb (first (held h n m) (2 ^ o) a) (a + 2 ^ o))
      (λ e. let low = search_lowest (held h n m) (2 ^ o) a e in
      let no : all_free ≡ false = all_not (free h n m) (2 ^ o) a (first (held h n m) (2 ^ o) a) low.from low.below (not-true _ low.has) in
      record {
        some_held = always refl (lowest_some low);
        lowest = λ _. low;
        done = never (λ z. omega arith) (λ q. true≢false (sym q ∙ no));
        frame = λ z. absurd (omega arith);
        answers = get_code no;
      })
      (λ e. let none = search_none (held h n m) (2 ^ o) a e in
      let yes : all_free ≡ true = all_of (free h n m) (2 ^ o) a (λ j u v. not-false _ (none j u v)) in
      record {
        some_held = never (λ z. omega arith) (none_some none);
        lowest = λ z. absurd (omega arith);
        done = always refl yes;
        frame = λ _. refl;
        answers = get_code yes;
      })

  -- ---- put

  abbrev PutSays : Why → Type 0
  PutSays = PutTold h n t m a o

  -- the huge frames of the block
  abbrev at : ℕ
  at = huge_of h a

  abbrev g : ℕ
  g = group_of h o

  abbrev all_marked : Bool
  all_marked = entries_are mark m.entries at g

  -- the lowest free frame, and the lowest huge frame without the mark
  abbrev f : ℕ
  f = first (free h n m) (2 ^ o) a

  abbrev x : ℕ
  x = first (unmarked m.entries) g at

  put_code : (b : Bool) → (all_held && pick (ltb o h) true all_marked) ≡ b → (put h n t m a o).answer ≡ pick b 0 7
  put_code b q = (exact.puts a o refl passed).0 ∙ ap (λ (d : Bool). pick d 0 7) q

  put_free : ltb f (a + 2 ^ o) ≡ true → PutSays (why 0 5 f)
  put_free e =
      let low = search_lowest (free h n m) (2 ^ o) a e in
      let no : all_held ≡ false = all_not (held h n m) (2 ^ o) a f low.from low.below (ap not low.has) in
      record {
        some_free = always refl (lowest_some low);
        lowest = λ _. low;
        single = never (λ z. omega arith) (λ w. true≢false (sym w.0 ∙ no));
        lowest_single = λ z. absurd (omega arith);
        done = never (λ z. omega arith) (λ w. true≢false (sym w.0 ∙ no));
        frame = λ z. absurd (omega arith);
        answers = put_code false (rw no);
      }

  module _ (none : (j : ℕ) → a ≤ j → j < a + 2 ^ o → free h n m j ≡ false) where
    all_held_lem : all_held ≡ true
    all_held_lem = all_of (held h n m) (2 ^ o) a (λ j u v. ap not (none j u v))

    put_single : h ≤ o → ltb x (at + g) ≡ true → PutSays (why 0 6 (x * 2 ^ h))
    put_single l e =
        let low = search_lowest (unmarked m.entries) g at e in
        let no : all_marked ≡ false = all_not (λ i. eqb (entry_of m.entries i) mark) g at x low.from low.below (not-true _ low.has) in
        record {
          some_free = never (λ z. omega arith) (none_some none);
          lowest = λ z. absurd (omega arith);
          single = always refl (all_held_lem, (l, lowest_some low));
          lowest_single = λ _. (x, (low, refl));
          done = never (λ z. omega arith) (λ w. true≢false (sym (w.1 l) ∙ no));
          frame = λ z. absurd (omega arith);
          answers = put_code false (rw (all_held_lem, le-ltb o h l, no));
        }

    put_done : (h ≤ o → ltb x (at + g) ≡ false) → PutSays (why 0 0 0)
    put_done e =
        let marked : h ≤ o → all_marked ≡ true = λ l. all_of (λ i. eqb (entry_of m.entries i) mark) g at (λ i u v. not-false _ (search_none (unmarked m.entries) g at (e l) i u v)) in
        record {
          some_free = never (λ z. omega arith) (none_some none);
          lowest = λ z. absurd (omega arith);
          single = never (λ z. omega arith) (λ w. none_some (search_none (unmarked m.entries) g at (e w.1.0)) w.1.1);
          lowest_single = λ z. absurd (omega arith);
          done = always refl (all_held_lem, marked);
          frame = λ _. refl;
          answers = put_code true (elim (dec_lt o h) [
            | yes l ↦ rw (all_held_lem, lt-ltb o h l)
            | no l ↦ rw (all_held_lem, le-ltb o h (omega arith), marked (omega arith))
          ]);
        }

  pub put_told : PutSays (put_reason h n m a o)
  unfolding put_reason
  put_told =
      pick_case PutSays (ltb f (a + 2 ^ o)) put_free (λ e. let none = search_none (free h n m) (2 ^ o) a e in
      pick_case PutSays (leb h o && ltb x (at + g))
      (λ q. let (l, w) = both (leb h o) _ q in put_single none (leb-true h o l) w)
      (λ q. put_done none (λ l. rw (le-leb h o l) at q)))
