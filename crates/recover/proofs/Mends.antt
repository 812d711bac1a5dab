-- One huge frame recovered, a law for each answer: what the code's tests lead to is its share of the recovery. Assumes nothing.
use mathlib.Core.Path.{◌≡◌, refl, sym, ap, ap₂, ◌∙◌}
use mathlib.Core.Bool.{Bool, true, false, not}
use mathlib.Core.List.{List, ◌++◌}
use Prim.Native.Nat.{ℕ, ◌+◌, ◌*◌, ◌/◌, ◌^◌, ◌≤◌, ◌<◌}
use native.Mathlib.Nat.{add-zero}
use native.Mathlib.Decide.{ℕ_discrete}
use native.Mathlib.Omega.{arith}
use lib.Dec.{eqb}
use lib.ListN.{length, get_or, set, take, drop, replicate}
use lib.Seq.{set-get_or}
use borrow.Author.Tests.{eq-eqb, ne_eqb, eqb-true, eqb-false}
use Rattle.base.specs.Walk.{pick, all, written}
use Rattle.base.specs.Code.{out}
use Rattle.base.specs.Size.{Huge, rows_per}
use Rattle.base.specs.Bits.{bit_is, block_is}
use Rattle.base.proofs.Walks.{all_each, all_of, all_same, all_shift, count_le}
use Rattle.base.proofs.Written.{written_same, written_stays, solid_part}
use Rattle.base.proofs.Rests.{quotient_is}
use Rattle.base.proofs.Sizes.{first_row, rows_frames, frames_fit}
use Rattle.base.proofs.Rows.{block_rows}
use Rattle.base.proofs.Parts.{part_long}
use Rattle.rules.specs.Numbers.{mark}
use Rattle.rules.specs.State.{mem, entry_of, clear_of}
use Rattle.rules.proofs.ClearBits.{all_are_clear, one_is_set}
use Rattle.rules.specs.Recover.{recovered, entry_after, row_after}
use Rattle.recover.specs.Mend.{entry_differs, rows_differ, mended_at}

-- ---- the rows of huge frame x

module _ (h x : ℕ) where
  -- row i is one of them
  abbrev pub Its : ℕ → Type 0
  Its i = (x * rows_per h ≤ i) × (i < x * rows_per h + rows_per h)

  pub its_huge : (i : ℕ) → Its i → i / rows_per h ≡ x
  its_huge i w = quotient_is (rows_per h) x i w.0 w.1

  module _ (rs es : List ℕ) where
    -- under a mark they are cleared
    pub row_marked : entry_of es x ≡ mark → (i : ℕ) → Its i → row_after h (mem rs es) i ≡ 0
    row_marked e i w = rw (its_huge i w, eq-eqb (entry_of es x) mark e)

    -- any others stay
    pub row_counted : (entry_of es x ≡ mark → ⊥) → (i : ℕ) → Its i → row_after h (mem rs es) i ≡ get_or rs i 0
    row_counted n i w = rw (its_huge i w, ne_eqb (entry_of es x) mark n)

-- a count of clear bits fits an entry
pub zeros_fit : {h : ℕ} → Huge h → (rs : List ℕ) (x : ℕ) {zeros : ℕ} → zeros ≡ clear_of h rs x → zeros < 65536
zeros_fit {h} H rs x e = omega (arith, count_le (bit_is false rs) (2 ^ h) (x * 2 ^ h), frames_fit H)

-- all bits are clear exactly if each row is 0
module _ {h : ℕ} (H : Huge h) (rs : List ℕ) (x : ℕ) (fits : (j : ℕ) → get_or rs j 0 < 2 ^ 64) where
  pub rows_clear : all (λ i. eqb (get_or rs i 0) 0) (rows_per h) (x * rows_per h) ≡ eqb (clear_of h rs x) (2 ^ h)
  rows_clear =
      ap (all (λ i. eqb (get_or rs i 0) 0) (rows_per h)) (sym (add-zero (x * rows_per h)))
      ∙ sym (all_shift (λ i. eqb (get_or rs i 0) 0) (x * rows_per h) (rows_per h) 0)
      ∙ sym (block_rows false rs fits (x * rows_per h) (rows_per h)) ∙ ap₂ (block_is false rs) (first_row H x) (sym (rows_frames H)) ∙ counted (eqb (clear_of h rs x) (2 ^ h)) refl
    where
      counted : (b : Bool) → eqb (clear_of h rs x) (2 ^ h) ≡ b → block_is false rs (x * 2 ^ h) (2 ^ h) ≡ b
      counted true e = all_are_clear h rs x (eqb-true _ _ e)
      counted false e = one_is_set h rs x (eqb-false _ _ e)

-- ---- the answers

module _ (h : ℕ) (rs es : List ℕ) (x : ℕ) where
  -- from what becomes of the entry and of the rows
  answer : {rs' es' : List ℕ} (e b : Bool) → entry_differs h (mem rs es) x ≡ e → rows_differ h (mem rs es) x ≡ b
      → rs' ≡ written (row_after h (mem rs es)) rs (x * rows_per h) (rows_per h) → es' ≡ set es x (entry_after h (mem rs es) x)
      → out (recovered 0 (pick e 1 0) (pick b 1 0)) (mem rs' es') ≡ mended_at h (mem rs es) x
  unfolding mended_at
  answer e b p q r s = rw (p, q, r, s)

  -- an entry that stays
  module _ (same : entry_after h (mem rs es) x ≡ entry_of es x) where
    same_entry : entry_differs h (mem rs es) x ≡ false
    unfolding entry_differs
    same_entry = ap not (eq-eqb _ _ (sym same))

    kept_entry : es ≡ set es x (entry_after h (mem rs es) x)
    kept_entry = sym (ap (set es x) same ∙ set-get_or es x 0)

module _ {h : ℕ} (H : Huge h) (rs es : List ℕ) (x : ℕ) (fits : (j : ℕ) → get_or rs j 0 < 2 ^ 64) {zeros : ℕ} (zeros_are : zeros ≡ clear_of h rs x) where
  -- ---- its entry is the mark
  module _ (marked : entry_of es x ≡ mark) where
    -- which stays
    mark_after : entry_after h (mem rs es) x ≡ entry_of es x
    mark_after = rw (eq-eqb (entry_of es x) mark marked) (sym marked)

    -- its rows differ unless all bits are clear
    rows_differ_lem : rows_differ h (mem rs es) x ≡ not (eqb zeros (2 ^ h))
    unfolding rows_differ
    rows_differ_lem =
        ap not (all_same _ (λ i. eqb (get_or rs i 0) 0) (rows_per h) (x * rows_per h) (λ i a b. ap (eqb (get_or rs i 0)) (row_marked h x rs es marked i (a, b)))
        ∙ rows_clear H rs x fits)
        ∙ rw zeros_are

    mark_clear : zeros ≡ 2 ^ h → out (recovered 0 0 0) (mem rs es) ≡ mended_at h (mem rs es) x
    mark_clear e =
        answer h rs es x false false (same_entry h rs es x mark_after) (rows_differ_lem ∙ ap not (eq-eqb zeros (2 ^ h) e)) (sym (written_stays _ rs _ _ zero))
        (kept_entry h rs es x mark_after)
      where
        zero : (i : ℕ) → x * rows_per h ≤ i → i < x * rows_per h + rows_per h → row_after h (mem rs es) i ≡ get_or rs i 0
        zero i a b =
            row_marked h x rs es marked i (a, b)
            ∙ sym (eqb-true _ _ (all_each (λ j. eqb (get_or rs j 0) 0) (rows_per h) (x * rows_per h) (rows_clear H rs x fits ∙ eq-eqb _ _ (sym zeros_are ∙ e)) i a b))

    -- k rows from row a on are lent, and come back as ys
    mark_cleared : (zeros ≡ 2 ^ h → ⊥) → (x + 1) * rows_per h ≤ length rs → {a k : ℕ} {ys : List ℕ} → a ≡ x * rows_per h → k ≡ rows_per h
        → ys ≡ replicate (length (take k (drop a rs))) 0 → out (recovered 0 0 1) (mem (take a rs ++ (ys ++ drop k (drop a rs))) es) ≡ mended_at h (mem rs es) x
    mark_cleared n lent {a} {k} {ys} ea ek q =
        answer h rs es x false true (same_entry h rs es x mark_after) (rows_differ_lem ∙ ap not (ne_eqb zeros (2 ^ h) n))
        (rw (q, long, ea, ek) (solid_part rs 0 (x * rows_per h) (rows_per h) (omega arith) ∙ written_same _ _ rs _ _ (λ i lo hi. sym (row_marked h x rs es marked i (lo, hi)))))
        (kept_entry h rs es x mark_after)
      where
        long : length (take k (drop a rs)) ≡ k
        long = part_long rs a k (rw (ea, ek) (omega arith))

  -- ---- its entry is a count
  module _ (counted : entry_of es x ≡ mark → ⊥) where
    -- which becomes the number of clear bits
    count_after : entry_after h (mem rs es) x ≡ zeros
    count_after = rw (ne_eqb (entry_of es x) mark counted) (sym zeros_are)

    -- and the rows stay
    same_rows : rows_differ h (mem rs es) x ≡ false
    unfolding rows_differ
    same_rows = ap not (all_of _ (rows_per h) (x * rows_per h) (λ i a b. eq-eqb _ _ (sym (row_counted h x rs es counted i (a, b)))))

    kept_rows : rs ≡ written (row_after h (mem rs es)) rs (x * rows_per h) (rows_per h)
    kept_rows = sym (written_stays _ rs _ _ (λ i a b. row_counted h x rs es counted i (a, b)))

    count_right : zeros ≡ entry_of es x → out (recovered 0 0 0) (mem rs es) ≡ mended_at h (mem rs es) x
    count_right e = let after = count_after ∙ e in answer h rs es x false false (same_entry h rs es x after) same_rows kept_rows (kept_entry h rs es x after)

    count_replaced : (zeros ≡ entry_of es x → ⊥) → out (recovered 0 1 0) (mem rs (set es x zeros)) ≡ mended_at h (mem rs es) x
    unfolding entry_differs
    count_replaced n = answer h rs es x true false (ap not (ne_eqb _ _ (λ e. n (sym count_after ∙ sym e)))) same_rows kept_rows (ap (set es x) (sym count_after))

  -- ---- by the clear bits that the entry expects

  module _ {told : ℕ} (told_is : told ≡ pick (eqb (entry_of es x) mark) (2 ^ h) (entry_of es x)) where
    told_marked : entry_of es x ≡ mark → told ≡ 2 ^ h
    told_marked marked = told_is ∙ rw (eq-eqb (entry_of es x) mark marked)

    told_counted : (entry_of es x ≡ mark → ⊥) → told ≡ entry_of es x
    told_counted counted = told_is ∙ rw (ne_eqb (entry_of es x) mark counted)

    -- where the bits agree, nothing is changed
    pub agrees : zeros ≡ told → out (recovered 0 0 0) (mem rs es) ≡ mended_at h (mem rs es) x
    agrees e = elim (ℕ_discrete (entry_of es x) mark) [
      | yes marked ↦ mark_clear marked (e ∙ told_marked marked)
      | no counted ↦ count_right counted (e ∙ told_counted counted)
    ]

    -- where they don't, a mark's are cleared: k rows from row a on are lent, and come back as ys
    pub clears : (zeros ≡ told → ⊥) → entry_of es x ≡ mark → (x + 1) * rows_per h ≤ length rs → {a k : ℕ} {ys : List ℕ} → a ≡ x * rows_per h → k ≡ rows_per h
        → ys ≡ replicate (length (take k (drop a rs))) 0 → out (recovered 0 0 1) (mem (take a rs ++ (ys ++ drop k (drop a rs))) es) ≡ mended_at h (mem rs es) x
    clears n marked = mark_cleared marked (λ e. n (e ∙ sym (told_marked marked)))

    -- and a count is replaced
    pub replaces : (zeros ≡ told → ⊥) → (entry_of es x ≡ mark → ⊥) → out (recovered 0 1 0) (mem rs (set es x zeros)) ≡ mended_at h (mem rs es) x
    replaces n counted = count_replaced counted (λ e. n (e ∙ sym (told_counted counted)))
