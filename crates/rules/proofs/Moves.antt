-- What each call of a run does to a consistent state, by its own answer: the frames that it takes and gives back. And that a mark comes and goes with them. Assumes nothing.
use mathlib.Core.Path.{◌≡◌, refl, sym, ap, ap₂, ◌∙◌}
use mathlib.Core.Bool.{Bool, true, false, not, ◌&&◌, ◌||◌, false≢true, and-true, and-false, or-false, not-not}
use mathlib.Core.List.{List}
use mathlib.Core.Logic.{◌⊎◌, ⊎_elim}
use Prim.Native.Nat.{ℕ, ◌+◌, ◌-◌, ◌*◌, ◌^◌, ◌≤◌}
use native.Mathlib.Decide.{ℕ_discrete}
use native.Mathlib.Nat.{mul-div_cancel, mul-le-mul_right, div-mul-le_self}
use native.Mathlib.Omega.{arith}
use lib.Dec.{eqb, leb, ltb}
use lib.ListN.{get_or}
use lib.Pow.{pow_pos}
use borrow.Author.Tests.{eq-eqb, ne_eqb, leb-true, ltb-true, not-true}
use Rattle.base.specs.Code.{Out}
use Rattle.base.specs.Size.{Huge}
use Rattle.base.proofs.Tests.{not_both, not_either, both}
use Rattle.base.proofs.Walks.{all_each}
use Rattle.rules.specs.Numbers.{huge_of}
use Rattle.rules.specs.State.{Mem}
use Rattle.rules.specs.Numbered.{Recovered}
use Rattle.rules.specs.Call.{RowCall, BlockCall, FrameCall, AllCall, Call, called, left}
use Rattle.rules.specs.Consistent.{Consistent, free, held, in_block}
use Rattle.rules.specs.Marks.{meets, remarked}
use Rattle.rules.specs.Runs.{noted}
use Rattle.rules.proofs.Present.{huge_ends}
use Rattle.rules.proofs.Effects.{Took, Gave, in_block_lem}
use Rattle.rules.proofs.Recovers.{recover_keeps_consistent}
use Rattle.rules.proofs.Exacts.{get_does, get_at_does, put_does}

-- what call c does to state m
pub record Moves (h n t : ℕ) (m : Mem) (c : Call) : Type 0 where
  pub consistent : Consistent h n t (left h n t m c)
  pub frames : (f : ℕ) → held h n (left h n t m c) f ≡ noted c (called h n t m c).answer f (held h n m f)
  pub takes_free : (f : ℕ) → noted c (called h n t m c).answer f false ≡ true → free h n m f ≡ true

module _ {h n t : ℕ} {m : Mem} (k : Consistent h n t m) (c : Call) where
  -- a call that neither takes nor gives back, and leaves the memory as it was
  stays : left h n t m c ≡ m → ((f : ℕ) (was : Bool) → noted c (called h n t m c).answer f was ≡ was) → Moves h n t m c
  stays e same = record {
    consistent = rw e k;
    frames = λ f. rw e (sym (same f (held h n m f)));
    takes_free = λ f q. absurd (false≢true (sym (same f false) ∙ q));
  }

  -- one that takes a block if its code is 0
  takes_block : (code a o : ℕ) → ((code ≡ 0 → ⊥) × (left h n t m c ≡ m)) ⊎ ((code ≡ 0) × Took h n t m (left h n t m c) a o)
      → ((f : ℕ) (was : Bool) → noted c (called h n t m c).answer f was ≡ (was || (eqb code 0 && in_block a o f))) → Moves h n t m c
  takes_block code a o does notes = ⊎_elim
      (λ r. stays r.1 (λ f was. notes f was ∙ rw (ne_eqb code 0 r.0) (or-false was)))
      (λ r. record {
        consistent = λ y. r.1.keeps y (k y);
        frames = λ f. rw (r.1.taken.is f, done r.0 f (held h n m f)) (toggled (free h n m f) (in_block a o f));
        takes_free = λ f q.
            let i = both (leb a f) (ltb f (a + 2 ^ o)) (sym (done r.0 f false) ∙ q) in
            all_each (free h n m) (2 ^ o) a r.1.taken.was f (leb-true a f i.0) (ltb-true f (a + 2 ^ o) i.1);
      })
      does
    where
      done : code ≡ 0 → (f : ℕ) (was : Bool) → noted c (called h n t m c).answer f was ≡ (was || in_block a o f)
      done z f was = notes f was ∙ rw (eq-eqb code 0 z)

      toggled : (b i : Bool) → not (b && not i) ≡ (not b || i)
      toggled b i = not_both b (not i) ∙ ap (λ (c : Bool). not b || c) (not-not i)

  -- one that gives a block back if its code is 0
  gives_block : (code a o : ℕ) → ((code ≡ 0 → ⊥) × (left h n t m c ≡ m)) ⊎ ((code ≡ 0) × Gave h n t m (left h n t m c) a o)
      → ((f : ℕ) (was : Bool) → noted c (called h n t m c).answer f was ≡ (was && not (eqb code 0 && in_block a o f))) → Moves h n t m c
  gives_block code a o does notes = ⊎_elim
      (λ r. stays r.1 (λ f was. notes f was ∙ rw (ne_eqb code 0 r.0) (and-true was)))
      (λ r. record {
        consistent = λ y. r.1.keeps y (k y);
        frames = λ f. rw (r.1.given.is f, done r.0 f (held h n m f)) (not_either (free h n m f) (in_block a o f));
        takes_free = λ f q. absurd (false≢true (sym (done r.0 f false) ∙ q));
      })
      does
    where
      done : code ≡ 0 → (f : ℕ) (was : Bool) → noted c (called h n t m c).answer f was ≡ (was && not (in_block a o f))
      done z f was = notes f was ∙ rw (eq-eqb code 0 z)

-- every call does so to a consistent state
pub calls_move : (h n t : ℕ) (m : Mem) (c : Call) → Huge h → Consistent h n t m → Moves h n t m c
unfolding called noted
calls_move h n t m (Call.OnRow RowCall.Get row o) H k = takes_block k (Call.OnRow RowCall.Get row o) _ _ _ (get_does H (k _) row o refl) (λ f was. refl)
calls_move h n t m (Call.OnRow RowCall.WhyGet row o) H k = stays k (Call.OnRow RowCall.WhyGet row o) refl (λ f was. refl)
calls_move h n t m (Call.OnBlock BlockCall.GetAt a o) H k = takes_block k (Call.OnBlock BlockCall.GetAt a o) _ _ _ (get_at_does H (k _) a o refl) (λ f was. refl)
calls_move h n t m (Call.OnBlock BlockCall.Put a o) H k = gives_block k (Call.OnBlock BlockCall.Put a o) _ _ _ (put_does H (k _) a o refl) (λ f was. refl)
calls_move h n t m (Call.OnBlock BlockCall.IsFree a o) H k = stays k (Call.OnBlock BlockCall.IsFree a o) refl (λ f was. refl)
calls_move h n t m (Call.OnBlock BlockCall.WhyGetAt a o) H k = stays k (Call.OnBlock BlockCall.WhyGetAt a o) refl (λ f was. refl)
calls_move h n t m (Call.OnBlock BlockCall.WhyPut a o) H k = stays k (Call.OnBlock BlockCall.WhyPut a o) refl (λ f was. refl)
calls_move h n t m (Call.OnFrame (FrameCall.StatsAt o) a) H k = stays k (Call.OnFrame (FrameCall.StatsAt o) a) refl (λ f was. refl)
calls_move h n t m (Call.OnFrame FrameCall.Room a) H k = stays k (Call.OnFrame FrameCall.Room a) refl (λ f was. refl)
calls_move h n t m (Call.OnFrame FrameCall.TreeRun a) H k = stays k (Call.OnFrame FrameCall.TreeRun a) refl (λ f was. refl)
calls_move h n t m (Call.OnAll AllCall.Stats) H k = stays k (Call.OnAll AllCall.Stats) refl (λ f was. refl)
calls_move h n t m (Call.OnAll AllCall.Audit) H k = stays k (Call.OnAll AllCall.Audit) refl (λ f was. refl)
calls_move h n t m (Call.OnAll AllCall.Recover) H k =
    stays k (Call.OnAll AllCall.Recover) (ap (λ (r : Out Recovered Mem). r.left) (recover_keeps_consistent h n t m H k)) (λ f was. refl)

-- ---- a mark comes and goes with frames under it

module _ (h : ℕ) where
  -- a block that meets a huge frame has a frame there
  met : (a o x : ℕ) → meets h a o x ≡ true → (f : ℕ) × (huge_of h f ≡ x) × (in_block a o f ≡ true)
  met a o x e =
      let w = both (leb (huge_of h a) x) (leb x (huge_of h (a + 2 ^ o - 1))) e in
      let low = leb-true (huge_of h a) x w.0 in
      let size = pow_pos o in
      elim (ℕ_discrete (huge_of h a) x) [
        | yes k ↦ (a, k, in_block_lem a o a (omega arith) (omega arith))
        | no k ↦
            let above : (huge_of h a + 1) * 2 ^ h ≤ x * 2 ^ h = mul-le-mul_right (2 ^ h) (omega arith) in
            let below : x * 2 ^ h ≤ huge_of h (a + 2 ^ o - 1) * 2 ^ h = mul-le-mul_right (2 ^ h) (leb-true x _ w.1) in (
              x * 2 ^ h,
              mul-div_cancel x (pow_pos h),
              in_block_lem a o (x * 2 ^ h) (omega (arith, (huge_ends h a (huge_of h a) refl).1)) (omega (arith, div-mul-le_self (a + 2 ^ o - 1) (2 ^ h))),
            )
      ]

  -- one none of whose frames the block has is not met
  unmet : (d : Bool) (a o x : ℕ) → ((f : ℕ) → huge_of h f ≡ x → (d && in_block a o f) ≡ false) → (d && meets h a o x) ≡ false
  unmet d a o x none = go (d && meets h a o x) refl
    where
      go : (b : Bool) → (d && meets h a o x) ≡ b → b ≡ false
      go false e = refl
      go true e =
          let w = both d (meets h a o x) e in
          let k = met a o x w.1 in
          sym (ap₂ ◌&&◌ w.0 k.2) ∙ none k.0 k.1

  -- so a call that neither takes nor gives back a frame of a huge frame leaves its mark
  pub mark_stays : (c : Call) (r : List ℕ) (x : ℕ) → ((f : ℕ) → huge_of h f ≡ x → (was : Bool) → noted c r f was ≡ was) → (was : Bool) → remarked h c r x was ≡ was
  unfolding remarked noted
  mark_stays (Call.OnRow RowCall.Get row o) r x same was =
      rw (unmet (eqb (get_or r 0 0) 0) (get_or r 1 0) o x (λ f u. same f u false), and-false) (or-false was)
  mark_stays (Call.OnRow RowCall.WhyGet row o) r x same was = refl
  mark_stays (Call.OnBlock BlockCall.GetAt a o) r x same was =
      rw (unmet (eqb (get_or r 0 0) 0) (get_or r 1 0) o x (λ f u. same f u false), and-false) (or-false was)
  mark_stays (Call.OnBlock BlockCall.Put a o) r x same was = rw (unmet (eqb (get_or r 0 0) 0) a o x (λ f u. not-true _ (same f u true))) (and-true was)
  mark_stays (Call.OnBlock BlockCall.IsFree a o) r x same was = refl
  mark_stays (Call.OnBlock BlockCall.WhyGetAt a o) r x same was = refl
  mark_stays (Call.OnBlock BlockCall.WhyPut a o) r x same was = refl
  mark_stays (Call.OnFrame c a) r x same was = refl
  mark_stays (Call.OnAll c) r x same was = refl
