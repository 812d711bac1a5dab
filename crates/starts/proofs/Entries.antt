-- The needed entries: those of whole huge frames, the partial one's, and the others. Assumes nothing.
use mathlib.Core.Path.{◌≡◌, sym, ap, ◌∙◌}
use mathlib.Core.List.{List}
use Prim.Native.Nat.{ℕ, ◌+◌, ◌-◌, ◌*◌, ◌^◌, ◌≤◌, ◌<◌}
use native.Mathlib.Decide.{dec_lt, ℕ_discrete}
use native.Mathlib.Nat.{zero-add, mul-le-mul_right}
use native.Mathlib.Omega.{arith}
use lib.ListN.{length, get_or, set, length-set}
use lib.Seq.{get_or-set_same, get_or-set_other, ext_get_or}
use borrow.Author.Tests.{le-leb, lt-leb}
use Rattle.base.specs.Walk.{pick, written}
use Rattle.base.proofs.Written.{length_written, written_in, written_beyond, written_same, written_parts}
use Rattle.rules.specs.Numbers.{huge_of, whole, entries_needed}
use Rattle.rules.specs.State.{Lengths}
use Rattle.rules.specs.Refusals.{Sized}
use Rattle.rules.proofs.Numbers.{tree_pos}
use Rattle.rules.proofs.Needed.{whole_needed}
use Rattle.rules.proofs.Present.{present_entry, huge_ends}
use Rattle.rules.specs.Starts.{free_entry}
use Rattle.starts.proofs.Rows.{begins_low}

-- the huge frames that lie wholly below N have needed entries
pub wholes_needed : {h n t : ℕ} {len : Lengths} {w : ℕ} → Sized h n t len → w ≡ huge_of h n → w ≤ entries_needed h n t
wholes_needed {h} {n} {t} {w = w} s w_is = whole_needed h n t w (tree_pos t s.tree) (begins_low h n w_is)

-- and so has a partial one, which begins below N
pub partial_needed : {h n t : ℕ} {len : Lengths} {w first : ℕ} → Sized h n t len → w ≡ huge_of h n → first ≡ w * 2 ^ h → (first ≡ n → ⊥) → w < entries_needed h n t
partial_needed {h} {n} {t} {w = w} s w_is first_is other = present_entry h n t w (tree_pos t s.tree) (omega (arith, begins_low h n w_is))

module _ (h n : ℕ) {w : ℕ} (w_is : w ≡ huge_of h n) where
  -- a huge frame before that of N lies wholly below N
  whole_before : (x : ℕ) → x < w → (x + 1) * 2 ^ h ≤ n
  whole_before x l =
      let m : (x + 1) * 2 ^ h ≤ w * 2 ^ h = mul-le-mul_right (2 ^ h) (omega arith) in
      omega (arith, (huge_ends h n w (sym w_is)).0)

  -- that one and those behind it do not
  past_end : (x : ℕ) → w ≤ x → n < (x + 1) * 2 ^ h
  past_end x l =
      let m : (w + 1) * 2 ^ h ≤ (x + 1) * 2 ^ h = mul-le-mul_right (2 ^ h) (omega arith) in
      omega (arith, (huge_ends h n w (sym w_is)).1)

  -- the first w of k entries made v, and the others 0
  pub wholes_written : (es : List ℕ) (v k : ℕ) → w ≤ k → written (λ _. 0) (written (λ _. v) es 0 w) w (k - w) ≡ written (λ x. pick (whole h n x) v 0) es 0 k
  wholes_written es v k l =
      let ends : w + (k - w) ≡ k = omega arith in
      written_same (λ _. 0) f (written (λ _. v) es 0 w) w (k - w) (λ x a _. rw (lt-leb _ _ (past_end x a)))
      ∙ ap (λ (front : List ℕ). written f front w (k - w))
      (written_same (λ _. v) f es 0 w (λ x _ b. let below : x < w = omega arith in rw (le-leb _ _ (whole_before x below))))
      ∙ rw (zero-add, ends) at (written_parts f es 0 w (k - w))
    where
      f : ℕ → ℕ
      f x = pick (whole h n x) v 0

  -- a whole huge frame, and an absent one, has its free frames
  free_other : (x : ℕ) → (x ≡ w → n ≡ w * 2 ^ h) → pick (whole h n x) (2 ^ h) 0 ≡ free_entry h n x
  free_other x e = elim (dec_lt x w) [
    | yes l ↦ let m = whole_before x l in rw (le-leb _ _ m) (omega arith)
    | no l ↦
        let m : w ≤ x = omega arith in
        rw (lt-leb _ _ (past_end x m)) (absent m)
  ]
    where
      absent : w ≤ x → 0 ≡ free_entry h n x
      absent m = elim (ℕ_discrete x w) [
        | yes q ↦ let z = e q in rw q (omega arith)
        | no q ↦
            let later : (w + 1) * 2 ^ h ≤ x * 2 ^ h = mul-le-mul_right (2 ^ h) (omega arith) in
            omega (arith, past_end w (omega arith))
      ]

  module _ (es : List ℕ) (k : ℕ) where
    -- where no huge frame is partial, that is all
    pub free_even : w * 2 ^ h ≡ n → written (λ x. pick (whole h n x) (2 ^ h) 0) es 0 k ≡ written (free_entry h n) es 0 k
    free_even e = written_same (λ x. pick (whole h n x) (2 ^ h) 0) (free_entry h n) es 0 k (λ x _ _. free_other x (λ _. sym e))

    -- else the partial one's is left
    pub free_partial : w < k → k ≤ length es
        → set (written (λ x. pick (whole h n x) (2 ^ h) 0) es 0 k) w (n - w * 2 ^ h) ≡ written (free_entry h n) es 0 k
    free_partial l lent = ext_get_or 0 (set (written f es 0 k) w v) (written (free_entry h n) es 0 k) (long ∙ sym (length_written (free_entry h n) es 0 k)) each
      where
        f : ℕ → ℕ
        f x = pick (whole h n x) (2 ^ h) 0

        v : ℕ
        v = n - w * 2 ^ h

        long : length (set (written f es 0 k) w v) ≡ length es
        long = length-set (written f es 0 k) w v ∙ length_written f es 0 k

        each : (x : ℕ) → x < length (set (written f es 0 k) w v) → get_or (set (written f es 0 k) w v) x 0 ≡ get_or (written (free_entry h n) es 0 k) x 0
        each x u = elim (ℕ_discrete x w) [
          | yes q ↦
              let inside : w < length (written f es 0 k) = omega (arith, length_written f es 0 k) in
              let e : v ≡ free_entry h n w = omega (arith, past_end w (omega arith)) in
              rw q (get_or-set_same (written f es 0 k) w v 0 inside ∙ e ∙ sym (written_in (free_entry h n) es 0 k w (omega arith) (omega arith) (omega arith)))
          | no q ↦ get_or-set_other (written f es 0 k) w x v 0 q ∙ elim (dec_lt x k) [
            | yes m ↦
                written_in f es 0 k x (omega arith) (omega arith) (omega arith) ∙ free_other x (λ p. absurd (q p))
                ∙ sym (written_in (free_entry h n) es 0 k x (omega arith) (omega arith) (omega arith))
            | no m ↦ written_beyond f es 0 k x (omega arith) ∙ sym (written_beyond (free_entry h n) es 0 k x (omega arith))
          ]
        ]
