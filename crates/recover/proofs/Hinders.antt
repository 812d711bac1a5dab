-- Where a reason can hinder: 1 and 3 at the last present huge frame, 5 at the absent ones. Assumes nothing.
use mathlib.Core.Path.{◌≡◌, refl, sym, ap, ◌∙◌}
use mathlib.Core.Bool.{Bool, true, false, not, ◌||◌}
use mathlib.Core.Logic.{⊎_elim}
use mathlib.Core.List.{List}
use Prim.Native.Nat.{ℕ, ◌+◌, ◌-◌, ◌*◌, ◌^◌, ◌≤◌, ◌<◌}
use native.Mathlib.Nat.{zero-add}
use native.Mathlib.Decide.{ℕ_discrete, dec_lt}
use native.Mathlib.Omega.{arith}
use lib.Dec.{eqb, lit<}
use borrow.Author.Tests.{ne_eqb}
use Rattle.base.specs.Walk.{pick, all}
use Rattle.base.specs.Code.{unless}
use Rattle.base.specs.Bits.{block_is}
use Rattle.base.proofs.Walks.{all_of, all_not, all_same, all_parts}
use Rattle.rules.specs.Numbers.{mark, huge_of, whole, entries_needed}
use Rattle.rules.specs.Refusals.{Sized}
use Rattle.rules.specs.State.{Mem, mem, entry_of, clear_of, entries_are, lengths_of}
use Rattle.rules.proofs.Present.{last_present, last_needed, before_whole, behind_absent}
use Rattle.rules.specs.Audit.{reason}
use Rattle.rules.proofs.Reasons.{reason_absent, reason_marked, reason_counted, reason_whole}
use Rattle.rules.specs.Recover.{blocks_recovery, recoverable}

-- ---- which reasons hinder

module _ (h n : ℕ) (m : Mem) (x : ℕ) where
  -- a whole huge frame's does not
  whole_free : (x + 1) * 2 ^ h ≤ n → blocks_recovery (reason h n m x) ≡ false
  whole_free w = ⊎_elim (λ e. ap blocks_recovery e) (⊎_elim (λ e. ap blocks_recovery e) (λ e. ap blocks_recovery e)) (reason_whole h n m x w)

  -- a present one's is below 5
  present_below_five : x * 2 ^ h < n → reason h n m x < 5
  present_below_five l = elim (ℕ_discrete (entry_of m.entries x) mark) [
    | yes k ↦ rw (reason_marked h n m x l k) (lower (whole h n x) (block_is false m.rows (x * 2 ^ h) (2 ^ h)) 2 1 (lit< tt) (lit< tt))
    | no k ↦
        rw (reason_counted h n m x l k)
        (lower (block_is true m.rows n ((x + 1) * 2 ^ h - n)) (eqb (entry_of m.entries x) (clear_of h m.rows x)) 4 3 (lit< tt) (lit< tt))
  ]
    where
      lower : (s t : Bool) (c d : ℕ) → c < 5 → d < 5 → pick s (unless t c) d < 5
      lower true true c d p q = lit< tt
      lower true false c d p q = p
      lower false t c d p q = q

  -- an absent one's does where its entry is not 0
  absent_free : n ≤ x * 2 ^ h → not (blocks_recovery (reason h n m x)) ≡ eqb (entry_of m.entries x) 0
  absent_free l = ap (λ (r : ℕ). not (blocks_recovery r)) (reason_absent h n m x l) ∙ five (eqb (entry_of m.entries x) 0)
    where
      five : (b : Bool) → not (blocks_recovery (unless b 5)) ≡ b
      five true = refl
      five false = refl

-- ---- the test of all huge frames

module _ {h n t : ℕ} (rs es : List ℕ) (s : Sized h n t (lengths_of (mem rs es))) {last r : ℕ} (last_is : last ≡ huge_of h (n - 1))
    (r_is : r ≡ reason h n (mem rs es) last) where
  -- a reason of the last present one that hinders is enough
  pub blocked_last : (eqb r 1 || eqb r 3) ≡ true → true ≡ not (recoverable h n t (mem rs es))
  unfolding recoverable
  blocked_last e =
      let hinders : blocks_recovery (reason h n (mem rs es) last) ≡ true = rw (← r_is, e) in
      sym (ap not (all_not (λ x. not (blocks_recovery (reason h n (mem rs es) x))) (entries_needed h n t) 0 last (omega arith) (omega (arith, last_needed s last_is))
      (ap not hinders)))

  -- without one, the absent entries decide
  pub blocked_absent : (eqb r 1 || eqb r 3) ≡ false → {needed : ℕ} {clean : Bool} → needed ≡ entries_needed h n t → clean ≡ entries_are 0 es (last + 1) (needed - (last + 1))
      → not clean ≡ not (recoverable h n t (mem rs es))
  unfolding recoverable
  blocked_absent other {needed} {clean} needed_is clean_is = ap not (clean_is ∙ sym split)
    where
      free : ℕ → Bool
      free x = not (blocks_recovery (reason h n (mem rs es) x))

      present_free : (x : ℕ) → x < last + 1 → free x ≡ true
      present_free x l = elim (dec_lt x last) [
        | yes q ↦ ap not (whole_free h n (mem rs es) x (before_whole s last_is q))
        | no q ↦
            let here : x ≡ last = omega arith in
            let low = present_below_five h n (mem rs es) last (last_present s last_is) in
            rw (here, ← r_is, other, ne_eqb r 5 (λ e. omega arith))
      ]

      split : all free (entries_needed h n t) 0 ≡ entries_are 0 es (last + 1) (needed - (last + 1))
      split =
          let parts : entries_needed h n t ≡ last + 1 + (needed - (last + 1)) = omega (arith, last_needed s last_is) in
          let front : all free (last + 1) 0 ≡ true = all_of free (last + 1) 0 (λ x _ l. present_free x (omega arith)) in
          ap (λ (k : ℕ). all free k 0) parts ∙ all_parts free (last + 1) (needed - (last + 1)) 0
          ∙ rw (front, zero-add) (all_same free (λ x. eqb (entry_of es x) 0) (needed - (last + 1)) (last + 1)
          (λ x l _. absent_free h n (mem rs es) x (behind_absent s last_is (omega arith))))
