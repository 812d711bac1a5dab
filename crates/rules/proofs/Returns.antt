-- From a consistent state a put of what a get took is done, and leaves no trace: by the theorems. Assumes nothing.
use mathlib.Core.Path.{◌≡◌, refl, sym, ap, ◌∙◌}
use mathlib.Core.Bool.{Bool, true, false, not, ◌&&◌, ◌||◌, and-false, true≢false}
use mathlib.Core.List.{[], ◌∷◌}
use mathlib.Core.Logic.{⊎_elim}
use Prim.Native.Nat.{ℕ, ◌+◌, ◌*◌, ◌-◌, ◌^◌, ◌≤◌}
use native.Mathlib.Decide.{dec_lt}
use native.Mathlib.Omega.{arith}
use lib.Dec.{eqb, leb, ltb}
use borrow.Author.Tests.{eq-eqb, lt-ltb, le-ltb, leb-true, ltb-true}
use Rattle.base.specs.Walk.{pick, all}
use Rattle.base.specs.Code.{unless}
use Rattle.base.specs.Size.{Huge}
use Rattle.base.proofs.Tests.{both}
use Rattle.base.proofs.Walks.{all_each, all_of}
use Rattle.rules.specs.Numbered.{Got}
use Rattle.rules.specs.Numbers.{mark, huge_of, tree_of, group_of}
use Rattle.rules.specs.State.{Mem, entry_of, entries_are}
use Rattle.rules.specs.Refusals.{start_refusal}
use Rattle.rules.specs.Get.{get}
use Rattle.rules.specs.Put.{put}
use Rattle.rules.specs.Call.{RowCall, BlockCall, Call, called}
use Rattle.rules.specs.Consistent.{Consistent, free, held, in_block}
use Rattle.rules.specs.Exact.{Missed, First}
use Rattle.rules.specs.Runs.{noted, run, owed, given_back}
use Rattle.rules.proofs.Lent.{started, blocked_passes}
use Rattle.rules.proofs.Effects.{in_block_lem}
use Rattle.rules.proofs.Exacts.{get_passed}
use Rattle.rules.proofs.Theorems.{consistency, every_step, demand_2, borrowed_and_returned}

module _ {h n t : ℕ} {m : Mem} (H : Huge h) (k : Consistent h n t m) (row o : ℕ) (got : (get h n t m row o).answer.code ≡ 0) where
  -- the block at a that the get took, and the state that it left
  abbrev a : ℕ
  a = (get h n t m row o).answer.frame

  abbrev between : Mem
  between = (get h n t m row o).left

  passed : start_refusal h n t m row o ≡ 0
  passed = get_passed h n t m row o got

  first : First h n t m row o a
  first = ⊎_elim
      (λ (w : Missed h n t m row o). absurd (omega (arith, got, ap (λ (r : Got). r.code) w.answer))) (λ w. w) (((demand_2 h n t m H k).trees (tree_of h t (row * 64))).gets row o refl passed)

  consistent : Consistent h n t between
  unfolding called
  consistent = (consistency h n t m H (k 0).fits).keeps (Call.OnRow RowCall.Get row o) k

  -- its frames were free, and now they are held
  was_free : (f : ℕ) → in_block a o f ≡ true → free h n m f ≡ true
  was_free f e =
      let i = both (leb a f) (ltb f (a + 2 ^ o)) e in
      all_each (free h n m) (2 ^ o) a first.taken.was f (leb-true a f i.0) (ltb-true f (a + 2 ^ o) i.1)

  is_held : all (held h n between) (2 ^ o) a ≡ true
  is_held = all_of (held h n between) (2 ^ o) a (λ f low high. rw (first.taken.is f, in_block_lem a o f low high, and-false (free h n m f)))

  -- from the huge order up its entries are the mark
  marked : h ≤ o → entries_are mark between.entries (huge_of h a) (group_of h o) ≡ true
  marked l = all_of (λ x. eqb (entry_of between.entries x) mark) (group_of h o) (huge_of h a) (λ x low high.
      eq-eqb _ mark (((every_step h n t m H).takes row o got).entries x ∙ rw (in_block_lem (huge_of h a) (o - h) x low high, le-ltb o h l)))

  -- so a put of it is done
  put_done : (put h n t between a o).answer ≡ 0
  put_done =
      let passes = blocked_passes (record { sized = (consistent 0).sized; top = (started h n t _ row o passed).top; ends = first.block.ends; aligned = first.block.aligned }) in
      (((demand_2 h n t between H consistent).trees (tree_of h t a)).puts a o refl passes).0 ∙ rw is_held whole
    where
      whole : unless (pick (ltb o h) true (entries_are mark between.entries (huge_of h a) (group_of h o))) 7 ≡ 0
      whole = elim (dec_lt o h) [
        | yes l ↦ rw (lt-ltb o h l)
        | no l ↦ rw (le-ltb o h (omega arith), marked (omega arith))
      ]

  -- no frame held at the start is given back, and none is out at the end
  pub put_back : (put h n t between a o).left ≡ m
  unfolding run owed given_back noted called
  put_back =
      borrowed_and_returned h n t m (Call.OnRow RowCall.Get row o ∷ Call.OnBlock BlockCall.Put a o ∷ []) H k
      (λ f e. rw (eq-eqb (put h n t between a o).answer 0 put_done) (kept f e (in_block a o f) refl))
      (λ f. rw (eq-eqb (get h n t m row o).answer.code 0 got, eq-eqb (put h n t between a o).answer 0 put_done) (returned (in_block a o f)))
    where
      kept : (f : ℕ) → free h n m f ≡ false → (b : Bool) → in_block a o f ≡ b → (not (not b) || false) ≡ false
      kept f e true q = absurd (true≢false (sym (was_free f q) ∙ e))
      kept f e false q = refl

      returned : (b : Bool) → (b && not b) ≡ false
      returned true = refl
      returned false = refl
