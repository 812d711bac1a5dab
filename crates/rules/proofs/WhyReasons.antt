-- Each reason of a get without a frame holds exactly when it is given, and the get answers so. Assumes nothing.
use mathlib.Core.Path.{◌≡◌, refl, sym, ap, ◌∙◌}
use mathlib.Core.Bool.{true, false, true≢false}
use mathlib.Core.Logic.{⊎_elim}
use Prim.Native.Nat.{ℕ, ◌*◌, ◌^◌, ◌≤◌, ◌<◌}
use native.Mathlib.Omega.{arith}
use borrow.Author.Tests.{ltb-true, ltb-false}
use Rattle.base.proofs.Walks.{pick_case}
use Rattle.rules.specs.Numbered.{Got}
use Rattle.rules.specs.Numbers.{tree_of}
use Rattle.rules.specs.State.{Mem, lengths_of}
use Rattle.rules.specs.Refusals.{Started, start_refusal}
use Rattle.rules.specs.Get.{get}
use Rattle.rules.specs.Consistent.{free_frames}
use Rattle.rules.specs.Exact.{Missed, First, ExactIn}
use Rattle.rules.specs.Why.{why, too_few, spread, no_block, get_reason}
use Rattle.rules.specs.Whys.{GetTold}
use Rattle.rules.proofs.Lent.{started}
use Rattle.rules.proofs.Lowest.{always, never}
use Rattle.rules.proofs.WhyTests.{FreeBlock, FewEach, EnoughIn, enough_free, enough_here, spread_each, spread_not, none_each, none_not}

module _ (h n t : ℕ) (m : Mem) (row o : ℕ) (begins : start_refusal h n t m row o ≡ 0) (exact : ExactIn h n t m (tree_of h t (row * 64))) where
  -- the start row's tree, its free frames, and a free block of it
  abbrev y : ℕ
  y = tree_of h t (row * 64)

  abbrev frees : ℕ
  frees = free_frames h n m (2 ^ h * t) y

  abbrev Free : Type 0
  Free = FreeBlock h n t m row o

  b : Started h n t (lengths_of m) row o
  b = started h n t _ row o begins

  -- ---- what the get answers

  answers_none : (Free → ⊥) → (get h n t m row o).answer.code ≡ 7
  answers_none none = ⊎_elim
      (λ (k : Missed h n t m row o). ap (λ (r : Got). r.code) k.answer)
      (λ (k : First h n t m row o (get h n t m row o).answer.frame). absurd (none ((get h n t m row o).answer.frame, (k.block, k.taken.was))))
      (exact.gets row o refl begins)

  answers_some : Free → (get h n t m row o).answer.code ≡ 0
  answers_some (f, (c, e)) = ⊎_elim
      (λ (k : Missed h n t m row o). absurd (true≢false (sym e ∙ k.none f c)))
      (λ (k : First h n t m row o (get h n t m row o).answer.frame). ap (λ (r : Got). r.code) k.answer)
      (exact.gets row o refl begins)

  -- ---- what each reason tells

  abbrev Told : ℕ → Type 0
  Told r = GetTold h n t m row o y frees (why 0 r 0)

  told_few : frees < 2 ^ o → Told 1
  told_few l =
      let no : Free → ⊥ = λ w. omega (arith, enough_free h n t m row o b w) in
      record {
        few = always refl l;
        spread = never (λ z. omega arith) (λ w. omega (arith, w.0));
        none = never (λ z. omega arith) (λ w. omega (arith, w.0));
        done = never (λ z. omega arith) no;
        reasons = omega arith;
        frame = refl;
        answers = answers_none no;
      }

  module _ (many : 2 ^ o ≤ frees) where
    told_spread : spread h n t m y o ≡ true → Told 2
    told_spread e =
        let (low, each) = spread_each h n t m row o b e in
        let few : EnoughIn h n t m y o → ⊥ = λ (x, (own, l)). omega (arith, each x own) in
        let no : Free → ⊥ = λ w. few (enough_here h n t m row o b low w) in
        record {
          few = never (λ z. omega arith) (λ l. omega arith);
          spread = always refl (many, (low, each));
          none = never (λ z. omega arith) (λ w. few (w.1.0 low));
          done = never (λ z. omega arith) no;
          reasons = omega arith;
          frame = refl;
          answers = answers_none no;
        }

    module _ (here : o < h → EnoughIn h n t m y o) where
      not_spread : (2 ^ o ≤ frees) × ((o < h) × FewEach h n t m y o) → ⊥
      not_spread (_, (low, each)) = let (x, (own, l)) = here low in omega (arith, each x own)

      told_none : no_block h n t m y o ≡ true → Told 3
      told_none e =
          let none = none_each h n t m row o b e in
          let no : Free → ⊥ = λ (f, (c, q)). true≢false (sym q ∙ none f c) in
          record {
            few = never (λ z. omega arith) (λ l. omega arith);
            spread = never (λ z. omega arith) not_spread;
            none = always refl (many, (here, none));
            done = never (λ z. omega arith) no;
            reasons = omega arith;
            frame = refl;
            answers = answers_none no;
          }

      told_done : no_block h n t m y o ≡ false → Told 0
      told_done e =
          let (f, (c, q)) = none_not h n t m row o b e in
          record {
            few = never (λ z. omega arith) (λ l. omega arith);
            spread = never (λ z. omega arith) not_spread;
            none = never (λ z. omega arith) (λ w. true≢false (sym q ∙ w.1.1 f c));
            done = always refl (f, (c, q));
            reasons = omega arith;
            frame = refl;
            answers = answers_some (f, (c, q));
          }

  pub get_told : GetTold h n t m row o (tree_of h t (row * 64)) (free_frames h n m (2 ^ h * t) (tree_of h t (row * 64))) (why 0 (get_reason h n t m (tree_of h t (row * 64)) o) 0)
  unfolding get_reason
  get_told =
      pick_case Told (too_few h n t m y o) (λ e. told_few (ltb-true frees (2 ^ o) e)) (λ e. let many = ltb-false frees (2 ^ o) e in
      pick_case Told (spread h n t m y o) (told_spread many) (λ q. let here = spread_not h n t m row o b q in
      pick_case Told (no_block h n t m y o) (told_none many here) (told_done many here)))
