-- One law for each answer of the routines that look for a reason, in the values that the code computes. Assumes nothing.
use mathlib.Core.Path.{◌≡◌, refl, sym, ap, ◌∙◌}
use mathlib.Core.Bool.{Bool, true, false, not}
use mathlib.Core.List.{List}
use Rattle.std.proofs.Common.{zero-le}
use Prim.Native.Nat.{ℕ, ◌+◌, ◌-◌, ◌*◌, ◌^◌, ◌≤◌, ◌<◌}
use borrow.Author.Tests.{eq-eqb, ne_eqb, le-leb}
use native.Mathlib.Omega.{arith}
use lib.Dec.{eqb}
use Rattle.std.specs.Prelude.{Option, Some, None, Ok, MatchOption}
use Rattle.std.specs.Option.{is_none}
use Rattle.std.specs.Bool.{then_some}
use Rattle.base.specs.Bits.{block_is}
use Rattle.base.specs.Code.{unless}
use Rattle.base.proofs.Walks.{first_is}
use Rattle.answers.specs.declared.Faulty.{Faulty}
use Rattle.answers.specs.declared.Flaw.{Flaw}
use Rattle.answers.specs.declared.Flaw.TheVariants.{PartialMark, HeldUnderMark, ClearPastEnd, WrongCount, AbsentEntry}
use Rattle.answers.specs.Numbers.{flaw_number}
use Rattle.rules.specs.Answers.{reason_in, fault_of}
use Rattle.rules.specs.Numbers.{mark, entries_needed}
use Rattle.rules.specs.State.{Mem, entry_of, clear_of}
use Rattle.rules.specs.Audit.{marked_reason, counted_reason, reason, faultless, audit_all}
use Rattle.rules.proofs.AuditSteps.{faulty, audit_named, audit_each_clean}
use Rattle.rules.proofs.ClearBits.{all_are_clear, one_is_set}
use Rattle.rules.proofs.Reasons.{reason_absent, reason_marked, reason_counted}

-- ---- with the mark: the huge frame's end, its clear bits and its size

module _ (h n : ℕ) (rs : List ℕ) (x : ℕ) {end : ℕ} (end_is : end ≡ (x + 1) * 2 ^ h) where
  module _ {z s : ℕ} (ends : end ≤ n) (z_is : z ≡ clear_of h rs x) (s_is : s ≡ 2 ^ h) where
    pub marked_torn : (z ≡ s → ⊥) → 2 ≡ marked_reason h n rs x
    marked_torn differs = rw (le-leb ((x + 1) * 2 ^ h) n (rw end_is at ends), one_is_set h rs x (λ q. differs (z_is ∙ q ∙ sym s_is)))

    pub marked_clear : z ≡ s → 0 ≡ marked_reason h n rs x
    marked_clear e = rw (le-leb ((x + 1) * 2 ^ h) n (rw end_is at ends), all_are_clear h rs x (sym z_is ∙ e ∙ s_is))

-- ---- with a count e: whether the bits past N are set, and the clear bits

module _ (h n : ℕ) (rs : List ℕ) (e x : ℕ) {set : Bool} (set_is : set ≡ block_is true rs n ((x + 1) * 2 ^ h - n)) where
  pub counted_past : set ≡ false → 3 ≡ counted_reason h n rs e x
  counted_past q = rw (sym set_is ∙ q)

  module _ {z : ℕ} (all_set : set ≡ true) (z_is : z ≡ clear_of h rs x) where
    pub counted_other : (e ≡ z → ⊥) → 4 ≡ counted_reason h n rs e x
    counted_other differs = rw (sym set_is ∙ all_set, ne_eqb e (clear_of h rs x) (λ q. differs (q ∙ sym z_is)))

    pub counted_right : e ≡ z → 0 ≡ counted_reason h n rs e x
    counted_right q = rw (sym set_is ∙ all_set, eq-eqb e (clear_of h rs x) (q ∙ z_is))

-- no flaw has the number 0
flawed : (f : Flaw) → flaw_number f ≡ 0 → ⊥
flawed PartialMark z = omega arith
flawed HeldUnderMark z = omega arith
flawed ClearPastEnd z = omega arith
flawed WrongCount z = omega arith
flawed AbsentEntry z = omega arith

-- so none is told exactly where the reason is 0
pub clean_is : (r : Option Flaw) → is_none r ≡ eqb (reason_in r) 0
clean_is None = refl
clean_is (Some f) = sym (ne_eqb (flaw_number f) 0 (flawed f))

-- ---- any huge frame: its first frame

module _ (h n : ℕ) (m : Mem) (x : ℕ) {f : ℕ} (f_is : f ≡ x * 2 ^ h) where
  -- an absent one is told by whether its entry is 0
  pub absent_told : {r : Option Flaw} → n ≤ f → r ≡ then_some (not (eqb (entry_of m.entries x) 0)) AbsentEntry → reason_in r ≡ reason h n m x
  absent_told l e = ap reason_in e ∙ five (eqb (entry_of m.entries x) 0) ∙ sym (reason_absent h n m x (rw f_is at l))
    where
      five : (b : Bool) → reason_in (then_some (not b) AbsentEntry) ≡ unless b 5
      five true = refl
      five false = refl

  pub present_marked : {r : ℕ} → f < n → entry_of m.entries x ≡ mark → r ≡ marked_reason h n m.rows x → r ≡ reason h n m x
  present_marked l e q = q ∙ sym (reason_marked h n m x (rw f_is at l) e)

  pub present_counted : {r : ℕ} → f < n → (entry_of m.entries x ≡ mark → ⊥) → r ≡ counted_reason h n m.rows (entry_of m.entries x) x → r ≡ reason h n m x
  present_counted l e q = q ∙ sym (reason_counted h n m x (rw f_is at l) e)

-- ---- all huge frames

module _ (h n : ℕ) (m : Mem) where
  -- what is told of huge frame x is what is wrong with it
  abbrev pub Told : ℕ → Option Faulty → Type 0
  Told x told = MatchOption told (reason h n m x ≡ 0) (λ a. (a.huge ≡ x) × (flaw_number a.flaw ≡ reason h n m x))

  -- the first of which something is told is the answer
  pub all_told : (t : ℕ) {needed : ℕ} → needed ≡ entries_needed h n t → (r : Option Faulty)
      → MatchOption r ((x : ℕ) → 0 ≤ x → x < needed → Told x None) (λ a. (x : ℕ) × (0 ≤ x) × (x < needed) × Told x (Some a) × ((y : ℕ) → 0 ≤ y → y < x → Told y None))
      → fault_of (Ok r) ≡ audit_all h n t m
  unfolding faultless
  all_told t e None none = sym (audit_each_clean h n t m (λ x l. none x zero-le (rw e l)))
  all_told t e (Some a) (x, z, l, (here, its), before) =
      let passed : faultless h n t m ≡ x =
      first_is (faulty h n m) (entries_needed h n t) 0 x z (omega arith) (ap not (ne_eqb (reason h n m x) 0 (λ q. flawed a.flaw (its ∙ q))))
      (λ y _ b. ap not (eq-eqb (reason h n m y) 0 (before y zero-le b))) in
      sym (audit_named h n t m (rw passed (rw e at l)) ∙ rw (passed, here, its))
