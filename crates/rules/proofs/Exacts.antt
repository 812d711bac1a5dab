-- Demand 2 and consistency: what each call answers and does in a consistent tree, put together from the orders below the huge order and from it up.
-- Assumes nothing.
use mathlib.Core.Path.{◌≡◌, refl, ap, ◌∙◌}
use mathlib.Core.Bool.{Bool, true, false, ◌&&◌, and-true}
use mathlib.Core.Logic.{◌⊎◌, inl, inr, ⊎_elim}
use Prim.Native.Nat.{ℕ, ◌*◌, ◌^◌, ◌≤◌, ◌<◌}
use native.Mathlib.Decide.{dec_lt, ℕ_discrete}
use native.Mathlib.Omega.{arith}
use lib.Dec.{ltb}
use borrow.Author.Tests.{eq-eqb, lt-ltb, le-ltb}
use Rattle.base.specs.Walk.{pick, all}
use Rattle.base.specs.Code.{Out, out, unless}
use Rattle.base.specs.Size.{Huge}
use Rattle.base.proofs.Codes.{done}
use Rattle.bitfield_rules.specs.Calls.{answered}
use Rattle.rules.specs.Numbered.{Got}
use Rattle.rules.specs.Numbers.{mark, huge_of, tree_of, group_of}
use Rattle.rules.specs.State.{Mem, on_entries, entries_are}
use Rattle.rules.specs.Refusals.{block_refusal, start_refusal}
use Rattle.rules.specs.Get.{got, get_huge_at, get_small_at, get, get_at}
use Rattle.rules.proofs.Lent.{blocked}
use Rattle.rules.specs.Put.{put_huge, put_small, put}
use Rattle.rules.specs.Queries.{is_free_huge, is_free_small, is_free}
use Rattle.rules.specs.Call.{RowCall, BlockCall, Call, called}
use Rattle.rules.specs.Consistent.{ConsistentIn, free, held}
use Rattle.rules.specs.Exact.{Missed, First, Demand2In}
use Rattle.rules.proofs.Effects.{Took, Gave}
use Rattle.rules.proofs.Smalls.{get_small_at_exact, put_small_exact, is_free_small_exact}
use Rattle.rules.proofs.Groups.{get_huge_at_exact, put_huge_exact, is_free_huge_exact}
use Rattle.rules.proofs.HugeFrames.{block_is_its_huge_frames, entry_tells}
use Rattle.rules.proofs.Gets.{get_below}
use Rattle.rules.proofs.HugeGets.{get_above}
use Rattle.rules.proofs.Turns.{turns_differ}
use Rattle.rules.proofs.FreeCounts.{stats_at_is_exact}
use Rattle.rules.proofs.Refusals.{call_refused}

-- ---- a call that passed its checks does as its order says

module _ (h n t : ℕ) (m : Mem) (a o : ℕ) (e : block_refusal h n t m a o ≡ 0) where
  get_at_low : o < h → get_at h n t m a o ≡ get_small_at h m a o
  unfolding get_at
  get_at_low l = rw (eq-eqb (block_refusal h n t m a o) 0 e, lt-ltb o h l)

  get_at_high : h ≤ o → get_at h n t m a o ≡ on_entries m (get_huge_at h m.entries a o)
  unfolding get_at
  get_at_high l = rw (eq-eqb (block_refusal h n t m a o) 0 e, le-ltb o h l)

  put_low : o < h → put h n t m a o ≡ put_small h m a o
  unfolding put
  put_low l = rw (eq-eqb (block_refusal h n t m a o) 0 e, lt-ltb o h l)

  put_high : h ≤ o → put h n t m a o ≡ on_entries m (put_huge h m.entries a o)
  unfolding put
  put_high l = rw (eq-eqb (block_refusal h n t m a o) 0 e, le-ltb o h l)

  is_free_low : o < h → is_free h n t m a o ≡ answered 0 (is_free_small h m a o)
  unfolding is_free
  is_free_low l = rw (eq-eqb (block_refusal h n t m a o) 0 e, lt-ltb o h l)

  is_free_high : h ≤ o → is_free h n t m a o ≡ answered 0 (is_free_huge h m.entries a o)
  unfolding is_free
  is_free_high l = rw (eq-eqb (block_refusal h n t m a o) 0 e, le-ltb o h l)

-- ---- past the checks, of any order

module _ {h n t : ℕ} {m : Mem} {y : ℕ} (H : Huge h) (c : ConsistentIn h n t m y) where
  get_exact : (row o : ℕ) → tree_of h t (row * 64) ≡ y → start_refusal h n t m row o ≡ 0
      → Missed h n t m row o ⊎ (First h n t m row o (get h n t m row o).answer.frame × Took h n t m (get h n t m row o).left (get h n t m row o).answer.frame o)
  get_exact row o own e = elim (dec_lt o h) [ yes l ↦ get_below H c row o own e l | no l ↦ get_above H c row o own e (omega arith) ]

  module _ (a o : ℕ) (own : tree_of h t a ≡ y) (e : block_refusal h n t m a o ≡ 0) where
    get_at_exact : ((get_at h n t m a o).answer ≡ pick (all (free h n m) (2 ^ o) a) (got 0 a 1) (got 7 0 1))
        × (all (free h n m) (2 ^ o) a ≡ true → Took h n t m (get_at h n t m a o).left a o)
    get_at_exact = elim (dec_lt o h) [
      | yes l ↦ let w = get_small_at_exact H c l (blocked h n t _ a o e) own in rw (get_at_low h n t m a o e l) (w.0, w.1)
      | no l ↦ let w = get_huge_at_exact H c a o (omega arith) (blocked h n t _ a o e) own in rw (get_at_high h n t m a o e (omega arith)) (w.0, w.1.0)
    ]

    put_exact : ((put h n t m a o).answer ≡ unless (all (held h n m) (2 ^ o) a && pick (ltb o h) true (entries_are mark m.entries (huge_of h a) (group_of h o))) 7)
        × ((put h n t m a o).answer ≡ 0 → Gave h n t m (put h n t m a o).left a o)
    put_exact = elim (dec_lt o h) [
      | yes l ↦
          let w = put_small_exact H c l (blocked h n t _ a o e) own in
          rw (put_low h n t m a o e l, lt-ltb o h l, and-true (all (held h n m) (2 ^ o) a)) w
      | no l ↦
          let w = put_huge_exact H c a o (omega arith) (blocked h n t _ a o e) own in
          rw (put_high h n t m a o e (omega arith), le-ltb o h (omega arith)) w
    ]

    is_free_exact : is_free h n t m a o ≡ answered 0 (all (free h n m) (2 ^ o) a)
    is_free_exact = elim (dec_lt o h) [
      | yes l ↦ is_free_low h n t m a o e l ∙ ap (answered 0) (is_free_small_exact H c l (blocked h n t _ a o e) own)
      | no l ↦ is_free_high h n t m a o e (omega arith) ∙ ap (answered 0) (is_free_huge_exact H c a o (omega arith) (blocked h n t _ a o e) own)
    ]

pub calls_are_exact : Demand2In
calls_are_exact h n t m y H c = record {
  gets = λ row o own e. ⊎_elim inl (λ w. inr w.0) (get_exact H c row o own e);
  ranks = λ row o f g. turns_differ h n t row o f g c.sized.tree;
  gets_at = λ a o own e. let w = get_at_exact H c a o own e in (w.0, λ q. (w.1 q).taken);
  huge_frames = block_is_its_huge_frames h n m;
  entry_tells = entry_tells H c;
  puts = λ a o own e. let w = put_exact H c a o own e in (w.0, λ q. (w.1 q).given);
  asks = is_free_exact H c;
  counts_at = stats_at_is_exact H c;
}

-- ---- what a get or a put in the tree does, whatever it is asked

-- one that is done passed its checks
module _ (h n t : ℕ) (m : Mem) (a o : ℕ) where
  pub get_passed : (get h n t m a o).answer.code ≡ 0 → start_refusal h n t m a o ≡ 0
  unfolding get
  get_passed z = (done _ (out (got (start_refusal h n t m a o) 0 0) m) (λ (r : Out Got Mem). r.answer.code) refl z).0

  get_at_passed : (get_at h n t m a o).answer.code ≡ 0 → block_refusal h n t m a o ≡ 0
  unfolding get_at
  get_at_passed z = (done _ (out (got (block_refusal h n t m a o) 0 0) m) (λ (r : Out Got Mem). r.answer.code) refl z).0

  put_passed : (put h n t m a o).answer ≡ 0 → block_refusal h n t m a o ≡ 0
  unfolding put
  put_passed z = (done _ (out (block_refusal h n t m a o) m) (λ (r : Out ℕ Mem). r.answer) refl z).0

module _ {h n t : ℕ} {m : Mem} {y : ℕ} (H : Huge h) (c : ConsistentIn h n t m y) where
  pub get_does : (row o : ℕ) → tree_of h t (row * 64) ≡ y → (((get h n t m row o).answer.code ≡ 0 → ⊥) × ((get h n t m row o).left ≡ m))
      ⊎ (((get h n t m row o).answer.code ≡ 0) × Took h n t m (get h n t m row o).left (get h n t m row o).answer.frame o)
  unfolding called
  get_does row o own = elim (ℕ_discrete (get h n t m row o).answer.code 0) [
    | yes z ↦
        inr (z, ⊎_elim (λ (k : Missed h n t m row o). absurd (omega (arith, z, ap (λ (r : Got). r.code) k.answer))) (λ w. w.1) (get_exact H c row o own (get_passed h n t m row o z)))
    | no q ↦ inl (q, call_refused h n t m (Call.OnRow RowCall.Get row o) q)
  ]

  pub get_at_does : (a o : ℕ) → tree_of h t a ≡ y → (((get_at h n t m a o).answer.code ≡ 0 → ⊥) × ((get_at h n t m a o).left ≡ m))
      ⊎ (((get_at h n t m a o).answer.code ≡ 0) × Took h n t m (get_at h n t m a o).left (get_at h n t m a o).answer.frame o)
  unfolding called
  get_at_does a o own = elim (ℕ_discrete (get_at h n t m a o).answer.code 0) [
    | yes z ↦ let w = get_at_exact H c a o own (get_at_passed h n t m a o z) in inr (z, took z (all (free h n m) (2 ^ o) a) w.0 w.1)
    | no q ↦ inl (q, call_refused h n t m (Call.OnBlock BlockCall.GetAt a o) q)
  ]
    where
      took : (get_at h n t m a o).answer.code ≡ 0 → (b : Bool) → (get_at h n t m a o).answer ≡ pick b (got 0 a 1) (got 7 0 1) → (b ≡ true → Took h n t m (get_at h n t m a o).left a o)
          → Took h n t m (get_at h n t m a o).left (get_at h n t m a o).answer.frame o
      took z true e w = rw e (w refl)
      took z false e w = absurd (omega (arith, z, ap (λ (r : Got). r.code) e))

  pub put_does : (a o : ℕ) → tree_of h t a ≡ y → (((put h n t m a o).answer ≡ 0 → ⊥) × ((put h n t m a o).left ≡ m)) ⊎ (((put h n t m a o).answer ≡ 0) × Gave h n t m (put h n t m a o).left a o)
  unfolding called
  put_does a o own = elim (ℕ_discrete (put h n t m a o).answer 0) [
    | yes z ↦ inr (z, (put_exact H c a o own (put_passed h n t m a o z)).1 z)
    | no q ↦ inl (q, call_refused h n t m (Call.OnBlock BlockCall.Put a o) q)
  ]
