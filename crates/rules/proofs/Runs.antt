-- Theorems over runs of calls: the state stays consistent, the ledger is the state, no frame is shared, and what was borrowed and returned leaves no trace.
-- Assumes nothing.
use mathlib.Core.Path.{◌≡◌, refl, sym, ap, ◌∙◌}
use mathlib.Core.Bool.{Bool, true, false, not}
use mathlib.Core.List.{List, [], ◌∷◌}
use Prim.Native.Nat.{ℕ}
use borrow.Author.Tests.{eqb-true, not-true, not-false}
use Rattle.base.specs.Size.{Huge}
use Rattle.base.proofs.Tests.{neither}
use Rattle.rules.specs.Numbers.{mark, huge_of}
use Rattle.rules.specs.State.{Mem}
use Rattle.rules.specs.Call.{Call, called, left}
use Rattle.rules.specs.Consistent.{Consistent, free, held}
use Rattle.rules.specs.Marks.{marked}
use Rattle.rules.specs.Runs.{noted, run, owed, given_back, LedgerIsState, BorrowedAndReturned, NeverShared}
use Rattle.rules.proofs.Frees.{held_mark}
use Rattle.rules.proofs.Beyond.{Beyond, unwritten, after_both, call_beyond}
use Rattle.rules.proofs.Moves.{Moves, calls_move, mark_stays}
use Rattle.rules.proofs.Marks.{calls_mark}
use Rattle.rules.proofs.Determined.{determined, same_all}

-- what no call touches, no run does
run_keeps_beyond : {h : ℕ} → Huge h → (n t : ℕ) (m : Mem) (cs : List Call) → Beyond h n t m (run h n t m cs)
unfolding run
run_keeps_beyond H n t m [] = unwritten m
run_keeps_beyond {h} H n t m (c ∷ cs) = after_both (call_beyond H n t m c) (run_keeps_beyond H n t (left h n t m c) cs)

-- ---- the ledger alone

module _ (h n t f : ℕ) where
  -- a frame that is out, and is never given back, stays out
  owed_stays : (m : Mem) (cs : List Call) → given_back h n t m f cs ≡ false → owed h n t m f true cs ≡ true
  unfolding owed given_back
  owed_stays m [] e = refl
  owed_stays m (c ∷ cs) e =
      let k = neither (not (noted c (called h n t m c).answer f true)) (given_back h n t (left h n t m c) f cs) e in
      rw (not-false (noted c (called h n t m c).answer f true) k.0) (owed_stays (left h n t m c) cs k.1)

pub calls_keep_consistent : (h n t : ℕ) (m : Mem) (c : Call) → Huge h → Consistent h n t m → Consistent h n t (left h n t m c)
calls_keep_consistent h n t m c H k = (calls_move h n t m c H k).consistent

module _ {h n t : ℕ} (H : Huge h) where
  -- ---- the state

  pub run_keeps_consistent : (m : Mem) (cs : List Call) → Consistent h n t m → Consistent h n t (run h n t m cs)
  unfolding run
  run_keeps_consistent m [] k = k
  run_keeps_consistent m (c ∷ cs) k = run_keeps_consistent (left h n t m c) cs (calls_keep_consistent h n t m c H k)

-- the ledger that starts with the held frames ends with the held frames
pub ledger_tells : LedgerIsState
unfolding run owed
ledger_tells h n t m [] f H k = refl
ledger_tells h n t m (c ∷ cs) f H k =
    ap (λ (was : Bool). owed h n t (left h n t m c) f was cs) (sym ((calls_move h n t m c H k).frames f))
    ∙ ledger_tells h n t (left h n t m c) cs f H (calls_keep_consistent h n t m c H k)

-- ---- the marks

module _ {h n t : ℕ} (H : Huge h) where
  -- a huge frame keeps its mark, or stays without, while its frames are held and none is given back
  run_keeps_mark : (m : Mem) (cs : List Call) → Consistent h n t m → (x : ℕ)
      → ((f : ℕ) → huge_of h f ≡ x → (held h n m f ≡ true) × (given_back h n t m f cs ≡ false)) → marked (run h n t m cs) x ≡ marked m x
  unfolding run given_back
  run_keeps_mark m [] k x idle = refl
  run_keeps_mark m (c ∷ cs) k x idle =
      run_keeps_mark (left h n t m c) cs moves.consistent x (λ f u. (moves.frames f ∙ rw (idle f u).0 (kept f u).0, (kept f u).1))
      ∙ (calls_mark h n t m x H (k 0).fits).0 c ∙ mark_stays h c (called h n t m c).answer x same (marked m x)
    where
      moves : Moves h n t m c
      moves = calls_move h n t m c H k

      kept : (f : ℕ) → huge_of h f ≡ x → (noted c (called h n t m c).answer f true ≡ true) × (given_back h n t (left h n t m c) f cs ≡ false)
      kept f u =
          let w = neither (not (noted c (called h n t m c).answer f true)) (given_back h n t (left h n t m c) f cs) (idle f u).1 in
          (not-false (noted c (called h n t m c).answer f true) w.0, w.1)

      same : (f : ℕ) → huge_of h f ≡ x → (was : Bool) → noted c (called h n t m c).answer f was ≡ was
      same f u true = (kept f u).0
      same f u false = go (noted c (called h n t m c).answer f false) refl
        where
          go : (b : Bool) → noted c (called h n t m c).answer f false ≡ b → b ≡ false
          go false e = refl
          go true e = sym (idle f u).0 ∙ ap not (moves.takes_free f e)

-- ---- the theorems

pub frames_never_shared : NeverShared
frames_never_shared h n t m cs c f H k e =
    let frees = (calls_move h n t (run h n t m cs) c H (run_keeps_consistent H m cs k)).takes_free f e in
    (frees, ledger_tells h n t m cs f H k ∙ ap not frees)

pub borrowed_leaves_no_trace : BorrowedAndReturned
borrowed_leaves_no_trace h n t m cs H k kept returned =
    same_all (determined h n t (run h n t m cs) m H (run_keeps_consistent H m cs k) k same_free (λ x _. same_mark x)) (run_keeps_beyond H n t m cs)
  where
    same_free : (f : ℕ) → free h n (run h n t m cs) f ≡ free h n m f
    same_free f = go (free h n m f) refl
      where
        go : (b : Bool) → free h n m f ≡ b → free h n (run h n t m cs) f ≡ b
        go true e = not-false (free h n (run h n t m cs) f) (sym (ledger_tells h n t m cs f H k) ∙ rw e (returned f))
        go false e = not-true (free h n (run h n t m cs) f) (sym (ledger_tells h n t m cs f H k) ∙ rw e (owed_stays h n t f m cs (kept f e)))

    same_mark : (x : ℕ) → marked (run h n t m cs) x ≡ marked m x
    same_mark x = go (marked m x) (marked (run h n t m cs) x) refl refl
      where
        stays : ((f : ℕ) → huge_of h f ≡ x → free h n m f ≡ false) → marked (run h n t m cs) x ≡ marked m x
        stays none = run_keeps_mark H m cs k x (λ f u. (ap not (none f u), kept f (none f u)))

        go : (b e : Bool) → marked m x ≡ b → marked (run h n t m cs) x ≡ e → e ≡ b
        go false false p q = refl
        go true e p q = sym q ∙ stays (λ f u. held_mark h n m f (rw u (eqb-true _ mark p))) ∙ p
        go false true p q = sym q ∙ stays (λ f u. sym (same_free f) ∙ held_mark h n (run h n t m cs) f (rw u (eqb-true _ mark q))) ∙ p
