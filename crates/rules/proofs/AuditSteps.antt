-- The walk of an audit over the huge frames: what its loop knows, what it answers, and that a clean answer says that no huge frame is faulty. Assumes nothing.
use mathlib.Core.Path.{◌≡◌, sym, ap, ◌∙◌}
use mathlib.Core.Bool.{Bool, not}
use Prim.Native.Nat.{ℕ, ◌+◌, ◌≤◌, ◌<◌}
use native.Mathlib.Decide.{dec_lt}
use native.Mathlib.Omega.{arith}
use lib.Dec.{eqb}
use borrow.Author.Tests.{eq-eqb, ne_eqb, eqb-true, eqb-false, lt-ltb, le-ltb, not-true, not-false}
use Rattle.base.proofs.Walks.{FirstAt, first_start, first_found, first_more, first_none, first_hit, first_before, first_never}
use Rattle.rules.specs.Numbers.{entries_needed}
use Rattle.rules.specs.State.{Mem}
use Rattle.rules.specs.Numbered.{Fault}
use Rattle.rules.specs.Audit.{fault, reason, faultless, audit_all}

-- whether huge frame x is faulty
abbrev pub faulty : ℕ → ℕ → Mem → ℕ → Bool
faulty h n m x = not (eqb (reason h n m x) 0)

-- what a loop knows at huge frame x, where the code counts to `needed`: none before x is faulty
pub record AuditAt (h n t : ℕ) (m : Mem) (needed x : ℕ) : Type 0 where
  pub all : needed ≡ entries_needed h n t
  pub walked : FirstAt (faulty h n m) (entries_needed h n t) x

module _ {h n t : ℕ} {m : Mem} {needed : ℕ} where
  -- before the first huge frame nothing is passed
  pub audit_start : needed ≡ entries_needed h n t → AuditAt h n t m needed 0
  audit_start e = record { all = e; walked = first_start _ _ }

  module _ {x : ℕ} (a : AuditAt h n t m needed x) where
    -- a huge frame with no reason is passed
    pub audit_more : {r : ℕ} → x < needed → r ≡ reason h n m x → r ≡ 0 → AuditAt h n t m needed (x + 1)
    audit_more l e z = record {
      all = a.all;
      walked = first_more _ _ x a.walked (rw a.all at l) (ap not (eq-eqb (reason h n m x) 0 (sym e ∙ z)));
    }

    -- one with a reason is the answer
    pub audit_found : {r : ℕ} → x < needed → r ≡ reason h n m x → (r ≡ 0 → ⊥) → fault 0 x r ≡ audit_all h n t m
    unfolding faultless audit_all
    audit_found l e z =
        let here : x ≡ faultless h n t m = first_found (faulty h n m) _ x a.walked (rw a.all at l) (ap not (ne_eqb (reason h n m x) 0 (λ q. z (e ∙ q)))) in
        rw (← here, lt-ltb x (entries_needed h n t) (rw a.all at l), e)

    -- past the last huge frame the answer is clean
    pub audit_passed : needed ≤ x → fault 0 0 0 ≡ audit_all h n t m
    unfolding faultless audit_all
    audit_passed l =
        let here : x ≡ faultless h n t m = first_none (faulty h n m) _ x a.walked (rw a.all at l) in
        rw (← here, le-ltb x (entries_needed h n t) (rw a.all at l))

-- ---- what an answer says

module _ (h n t : ℕ) (m : Mem) where
  -- one that is not clean names the first faulty huge frame
  pub audit_named : faultless h n t m < entries_needed h n t → audit_all h n t m ≡ fault 0 (faultless h n t m) (reason h n m (faultless h n t m))
  unfolding audit_all
  audit_named l = rw (lt-ltb (faultless h n t m) (entries_needed h n t) l)

  pub named_faulty : faultless h n t m < entries_needed h n t → reason h n m (faultless h n t m) ≡ 0 → ⊥
  unfolding faultless
  named_faulty l = eqb-false _ 0 (not-true _ (first_hit (faulty h n m) (entries_needed h n t) 0 (omega arith)))

  pub none_before : (x : ℕ) → x < faultless h n t m → reason h n m x ≡ 0
  unfolding faultless
  none_before x l = eqb-true (reason h n m x) 0 (not-false _ (first_before (faulty h n m) (entries_needed h n t) 0 x (omega arith) l))

  pub audit_none : entries_needed h n t ≤ faultless h n t m → audit_all h n t m ≡ fault 0 0 0
  unfolding audit_all
  audit_none l = rw (le-ltb (faultless h n t m) (entries_needed h n t) l)

  -- a clean one is given past the last huge frame, and says that none has a reason
  pub audit_clean_each : audit_all h n t m ≡ fault 0 0 0 → (x : ℕ) → x < entries_needed h n t → reason h n m x ≡ 0
  audit_clean_each e x l = elim (dec_lt (faultless h n t m) (entries_needed h n t)) [
    | yes u ↦ absurd (named_faulty u (ap (λ (a : Fault). a.reason) (sym (audit_named u) ∙ e)))
    | no u ↦ none_before x (omega arith)
  ]

  -- and where none has, the answer is clean
  pub audit_each_clean : ((x : ℕ) → x < entries_needed h n t → reason h n m x ≡ 0) → audit_all h n t m ≡ fault 0 0 0
  unfolding faultless
  audit_each_clean e =
      let last : faultless h n t m ≡ 0 + entries_needed h n t =
      first_never (faulty h n m) (entries_needed h n t) 0 (λ x _ l. ap not (eq-eqb (reason h n m x) 0 (e x (omega arith)))) in
      audit_none (omega arith)
