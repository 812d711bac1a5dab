-- The reason of a huge frame: by the case that it is in, and what is known of a huge frame that has none. Assumes nothing.
use mathlib.Core.Path.{◌≡◌, refl, sym, ◌∙◌}
use mathlib.Core.Bool.{Bool, true, false}
use mathlib.Core.Logic.{◌⊎◌, inl, inr, ⊎_elim}
use Prim.Native.Nat.{ℕ, suc, ◌+◌, ◌-◌, ◌*◌, ◌^◌, ◌≤◌, ◌<◌}
use native.Mathlib.Decide.{ℕ_discrete}
use native.Mathlib.Omega.{arith}
use lib.Dec.{eqb}
use lib.Pow.{pow_pos}
use borrow.Author.Tests.{eq-eqb, ne_eqb, eqb-true, lt-ltb, le-ltb, le-leb, leb-true}
use Rattle.base.specs.Walk.{pick}
use Rattle.base.specs.Code.{unless}
use Rattle.base.specs.Bits.{block_is}
use Rattle.base.proofs.Codes.{holds}
use Rattle.rules.specs.Numbers.{mark, whole}
use Rattle.rules.specs.State.{Mem, entry_of, clear_of}
use Rattle.rules.proofs.ClearBits.{none_past}
use Rattle.rules.specs.Audit.{marked_reason, counted_reason, reason}

-- where neither of two codes is given, both tests hold
both_hold : (s t : Bool) (c d : ℕ) → pick s (unless t (suc c)) (suc d) ≡ 0 → (s ≡ true) × (t ≡ true)
both_hold true t c d e = (refl, holds t c e)
both_hold false t c d e = absurd (omega arith)

-- a code is given, or not
one_of : {r : ℕ} (t : Bool) (c : ℕ) → r ≡ unless t c → (r ≡ 0) ⊎ (r ≡ c)
one_of true c e = inl e
one_of false c e = inr e

-- ---- the three cases

module _ (h n : ℕ) (m : Mem) (x : ℕ) where
  -- an absent huge frame
  pub reason_absent : n ≤ x * 2 ^ h → reason h n m x ≡ unless (eqb (entry_of m.entries x) 0) 5
  unfolding reason
  reason_absent l = rw (le-ltb (x * 2 ^ h) n l)

  -- a present one with the mark
  pub reason_marked : x * 2 ^ h < n → entry_of m.entries x ≡ mark → reason h n m x ≡ marked_reason h n m.rows x
  unfolding reason
  reason_marked l e = rw (lt-ltb (x * 2 ^ h) n l, eq-eqb (entry_of m.entries x) mark e)

  -- a present one without it
  pub reason_counted : x * 2 ^ h < n → (entry_of m.entries x ≡ mark → ⊥) → reason h n m x ≡ counted_reason h n m.rows (entry_of m.entries x) x
  unfolding reason
  reason_counted l e = rw (lt-ltb (x * 2 ^ h) n l, ne_eqb (entry_of m.entries x) mark e)

  -- ---- what no reason says, and what says that there is none

  pub reason_clean_absent : n ≤ x * 2 ^ h → reason h n m x ≡ 0 → entry_of m.entries x ≡ 0
  reason_clean_absent l e = eqb-true (entry_of m.entries x) 0 (holds _ 4 (sym (reason_absent l) ∙ e))

  pub reason_absent_clean : n ≤ x * 2 ^ h → entry_of m.entries x ≡ 0 → reason h n m x ≡ 0
  reason_absent_clean l e = reason_absent l ∙ rw (eq-eqb (entry_of m.entries x) 0 e)

  pub reason_clean_marked : x * 2 ^ h < n → entry_of m.entries x ≡ mark → reason h n m x ≡ 0
      → ((x + 1) * 2 ^ h ≤ n) × (block_is false m.rows (x * 2 ^ h) (2 ^ h) ≡ true)
  reason_clean_marked l k e =
      let b = both_hold (whole h n x) (block_is false m.rows (x * 2 ^ h) (2 ^ h)) 1 0 (sym (reason_marked l k) ∙ e) in
      (leb-true ((x + 1) * 2 ^ h) n b.0, b.1)

  pub reason_marked_clean : x * 2 ^ h < n → entry_of m.entries x ≡ mark → (x + 1) * 2 ^ h ≤ n → block_is false m.rows (x * 2 ^ h) (2 ^ h) ≡ true
      → reason h n m x ≡ 0
  reason_marked_clean l k w e = reason_marked l k ∙ rw (le-leb ((x + 1) * 2 ^ h) n w, e)

  pub reason_clean_counted : x * 2 ^ h < n → (entry_of m.entries x ≡ mark → ⊥) → reason h n m x ≡ 0
      → (block_is true m.rows n ((x + 1) * 2 ^ h - n) ≡ true) × (entry_of m.entries x ≡ clear_of h m.rows x)
  reason_clean_counted l k e =
      let c = clear_of h m.rows x in
      let b = both_hold (block_is true m.rows n ((x + 1) * 2 ^ h - n)) (eqb (entry_of m.entries x) c) 3 2 (sym (reason_counted l k) ∙ e) in
      (b.0, eqb-true (entry_of m.entries x) c b.1)

  pub reason_counted_clean : x * 2 ^ h < n → (entry_of m.entries x ≡ mark → ⊥) → block_is true m.rows n ((x + 1) * 2 ^ h - n) ≡ true
      → entry_of m.entries x ≡ clear_of h m.rows x → reason h n m x ≡ 0
  reason_counted_clean l k p e = reason_counted l k ∙ rw (p, eq-eqb (entry_of m.entries x) (clear_of h m.rows x) e)

  -- ---- a huge frame that lies wholly below N has none of the reasons 1, 3 and 5

  pub reason_whole : (x + 1) * 2 ^ h ≤ n → (reason h n m x ≡ 0) ⊎ (reason h n m x ≡ 2) ⊎ (reason h n m x ≡ 4)
  reason_whole w =
      let l : x * 2 ^ h < n = omega (arith, pow_pos h) in
      let past = none_past m.rows n ((x + 1) * 2 ^ h) w in
      elim (ℕ_discrete (entry_of m.entries x) mark) [
        | yes k ↦ ⊎_elim inl (λ q. inr (inl q)) (one_of (block_is false m.rows (x * 2 ^ h) (2 ^ h)) 2 (reason_marked l k ∙ rw (le-leb ((x + 1) * 2 ^ h) n w)))
        | no k ↦ ⊎_elim inl (λ q. inr (inr q)) (one_of (eqb (entry_of m.entries x) (clear_of h m.rows x)) 4 (reason_counted l k ∙ rw past))
      ]
