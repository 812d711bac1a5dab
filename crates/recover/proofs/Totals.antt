-- The walk of a recovery over the present huge frames: what its loop knows, and that its totals are the numbers of those that differ before and after. Assumes nothing.
use mathlib.Core.Path.{◌≡◌, refl, sym, ap, ap₂, ◌∙◌}
use mathlib.Core.Bool.{Bool, true, false, not}
use mathlib.Core.List.{List}
use Prim.Native.Nat.{ℕ, ◌+◌, ◌-◌, ◌*◌, ◌/◌, ◌^◌, ◌≤◌, ◌<◌}
use native.Mathlib.Nat.{zero-add, mul_comm, mul-le-mul_right}
use native.Mathlib.Omega.{arith}
use lib.Dec.{eqb}
use lib.ListN.{length, get_or}
use borrow.Author.Tests.{not-true, not-false}
use Rattle.base.specs.Walk.{pick, count, written}
use Rattle.base.specs.Code.{Out, out}
use Rattle.base.specs.Size.{Huge, rows_per}
use Rattle.base.specs.Bits.{bit_is}
use Rattle.base.proofs.Walks.{all_same, count_le, count_same, count_more}
use Rattle.base.proofs.Written.{written_more, written_same, written_beyond, length_written, written_parts}
use Rattle.base.proofs.Sizes.{rows_frames}
use Rattle.base.proofs.Frames.{same_bit}
use Rattle.rules.specs.Numbers.{huge_of, ceil, rows_needed}
use Rattle.rules.specs.Refusals.{Sized}
use Rattle.rules.specs.State.{Mem, mem, entry_of, clear_of, lengths_of}
use Rattle.rules.proofs.Present.{present_is, last_present, last_needed}
use Rattle.rules.proofs.Lent.{present_rows}
use Rattle.rules.proofs.Differs.{entries_differ_lem, bitfields_differ_lem}
use Rattle.rules.specs.Numbered.{Recovered}
use Rattle.rules.specs.Recover.{recovered, recoverable, entry_after, row_after, mended, entries_differ, bitfields_differ, recover_all}
use Rattle.recover.specs.Mend.{entry_differs, rows_differ, mended_at}
use Rattle.recover.proofs.Mends.{Its, its_huge}

-- ---- two memories that agree on huge frame x give it the same share

module _ {h : ℕ} (H : Huge h) (x : ℕ) (m m' : Mem) (entry : entry_of m'.entries x ≡ entry_of m.entries x)
    (rows : (i : ℕ) → x * rows_per h ≤ i → get_or m'.rows i 0 ≡ get_or m.rows i 0) where
  same_clear : clear_of h m'.rows x ≡ clear_of h m.rows x
  same_clear = count_same (bit_is false m'.rows) (bit_is false m.rows) (2 ^ h) (x * 2 ^ h) (λ f a _. bit f (rw (rows_frames H) at a))
    where
      bit : (f : ℕ) → x * (rows_per h * 64) ≤ f → bit_is false m'.rows f ≡ bit_is false m.rows f
      bit f a = same_bit false m'.rows m.rows f (rows (f / 64) (omega arith))

  same_entry : entry_after h m' x ≡ entry_after h m x
  same_entry = rw (entry, same_clear)

  same_row : (i : ℕ) → Its h x i → row_after h m' i ≡ row_after h m i
  same_row i w = rw (its_huge h x i w, entry, rows i w.0)

  same_entry_differs : entry_differs h m' x ≡ entry_differs h m x
  unfolding entry_differs
  same_entry_differs = ap not (ap₂ eqb entry same_entry)

  same_rows_differ : rows_differ h m' x ≡ rows_differ h m x
  unfolding rows_differ
  same_rows_differ = ap not (all_same _ _ (rows_per h) (x * rows_per h) (λ i a b. ap₂ eqb (rows i a) (same_row i (a, b))))

-- ---- the loop

-- what it knows before huge frame x, where k are present: those below x are recovered, the others as they were, and the totals are those that differ
pub record MendAt (h : ℕ) (m : Mem) (k : ℕ) (rs es : List ℕ) (e b x : ℕ) : Type 0 where
  pub inside : x ≤ k
  pub rows_long : length rs ≡ length m.rows
  pub entries_long : length es ≡ length m.entries
  pub rows : rs ≡ written (row_after h m) m.rows 0 (x * rows_per h)
  pub entries : es ≡ written (entry_after h m) m.entries 0 x
  pub changed : e ≡ count (entry_differs h m) x 0
  pub cleared : b ≡ count (rows_differ h m) x 0

module _ {h : ℕ} (m : Mem) {k : ℕ} where
  -- before the first huge frame nothing is
  pub mend_start : MendAt h m k m.rows m.entries 0 0 0
  unfolding written count
  mend_start = record { inside = omega arith; rows_long = refl; entries_long = refl; rows = none (0 * rows_per h) (omega arith); entries = refl; changed = refl; cleared = refl }
    where
      none : (z : ℕ) → z ≡ 0 → m.rows ≡ written (row_after h m) m.rows 0 z
      none z e = rw e

  module _ {rs es : List ℕ} {e b x : ℕ} (at : MendAt h m k rs es e b x) where
    -- the totals are at most the huge frames passed
    pub totals_low : (e ≤ x) × (b ≤ x)
    totals_low = (omega (arith, at.changed, count_le (entry_differs h m) x 0), omega (arith, at.cleared, count_le (rows_differ h m) x 0))

    -- a turn recovers one more
    pub mend_more : Huge h → {r : Recovered} {rs' es' : List ℕ} → x < k → out r (mem rs' es') ≡ mended_at h (mem rs es) x
        → MendAt h m k rs' es' (e + r.entries) (b + r.bitfields) (x + 1)
    unfolding mended_at
    mend_more H {r} {rs'} {es'} l q =
        let entry : entry_of es x ≡ entry_of m.entries x = rw at.entries (written_beyond (entry_after h m) m.entries 0 x x (omega arith)) in
        let row : (i : ℕ) → x * rows_per h ≤ i → get_or rs i 0 ≡ get_or m.rows i 0 =
        λ i a. rw at.rows (written_beyond (row_after h m) m.rows 0 (x * rows_per h) i (omega arith)) in
        let more : (x + 1) * rows_per h ≡ x * rows_per h + rows_per h = omega arith in
        let rows_left : rs' ≡ written (row_after h m) m.rows 0 ((x + 1) * rows_per h) =
        ap (λ (o : Out Recovered Mem). o.left.rows) q
        ∙ written_same _ (row_after h m) rs (x * rows_per h) (rows_per h) (λ i a c. same_row H x m (mem rs es) entry row i (a, c))
        ∙ rw (at.rows, more) (rw zero-add at (written_parts (row_after h m) m.rows 0 (x * rows_per h) (rows_per h))) in
        let entries_left : es' ≡ written (entry_after h m) m.entries 0 (x + 1) =
        ap (λ (o : Out Recovered Mem). o.left.entries) q
        ∙ rw (same_entry H x m (mem rs es) entry row, at.entries) (rw zero-add at (written_more (entry_after h m) m.entries 0 x)) in
        record {
          inside = omega arith;
          rows_long = ap length rows_left ∙ length_written (row_after h m) m.rows 0 ((x + 1) * rows_per h);
          entries_long = ap length entries_left ∙ length_written (entry_after h m) m.entries 0 (x + 1);
          rows = rows_left;
          entries = entries_left;
          changed = counted (entry_differs h m) at.changed (ap (λ (o : Out Recovered Mem). o.answer.entries) q) (same_entry_differs H x m (mem rs es) entry row);
          cleared = counted (rows_differ h m) at.cleared (ap (λ (o : Out Recovered Mem). o.answer.bitfields) q) (same_rows_differ H x m (mem rs es) entry row);
        }
      where
        -- a total, with 1 for a huge frame that differs
        counted : (p : ℕ → Bool) {d : Bool} {total r : ℕ} → total ≡ count p x 0 → r ≡ pick d 1 0 → d ≡ p x → total + r ≡ count p (x + 1) 0
        counted p {d} {total} {r} is one same = rw (is, one, same) (sym (rw zero-add at (count_more p x 0)))

-- ---- the call

module _ {h n t : ℕ} (H : Huge h) (rs es : List ℕ) (s : Sized h n t (lengths_of (mem rs es))) {last : ℕ} (last_is : last ≡ huge_of h (n - 1)) where
  -- the entry and the rows of each are lent
  pub mend_asked : {rs' es' : List ℕ} {e b x : ℕ} → MendAt h (mem rs es) (last + 1) rs' es' e b x → x < last + 1
      → (x < length es') × ((x + 1) * rows_per h ≤ length rs')
  mend_asked {x = x} at l =
      let below : x * 2 ^ h ≤ last * 2 ^ h = mul-le-mul_right (2 ^ h) (omega arith) in
      (rw at.entries_long (omega (arith, s.entries, last_needed s last_is)), rw at.rows_long (present_rows H s x (omega (arith, last_present s last_is))))

  -- past the last, all is recovered
  pub recovers : {is_blocked : Bool} → is_blocked ≡ not (recoverable h n t (mem rs es)) → is_blocked ≡ false
      → {rs' es' : List ℕ} {e b x : ℕ} → MendAt h (mem rs es) (last + 1) rs' es' e b x → last + 1 ≤ x → out (recovered 0 e b) (mem rs' es') ≡ recover_all h n t (mem rs es)
  unfolding recover_all mended entry_differs rows_differ
  recovers q going {rs'} {es'} {e} {b} {x} at l =
      let all_present : x ≡ ceil n (2 ^ h) = omega (arith, at.inside, present_is s last_is) in
      let needed : x * rows_per h ≡ rows_needed h n = rw all_present (mul_comm (ceil n (2 ^ h)) (rows_per h)) in
      let rows_left : rs' ≡ written (row_after h (mem rs es)) rs 0 (rows_needed h n) = at.rows ∙ ap (written (row_after h (mem rs es)) rs 0) needed in
      let entries_left : es' ≡ written (entry_after h (mem rs es)) es 0 (ceil n (2 ^ h)) = at.entries ∙ ap (written (entry_after h (mem rs es)) es 0) all_present in
      let lent : x ≤ length es = omega (arith, s.entries, last_needed s last_is, at.inside) in
      let changed : e ≡ entries_differ es es' = at.changed ∙ sym (ap (entries_differ es) at.entries ∙ entries_differ_lem (entry_after h (mem rs es)) es x lent) in
      let cleared : b ≡ bitfields_differ h rs rs' = at.cleared ∙ sym (ap (bitfields_differ h rs) at.rows ∙ bitfields_differ_lem h (row_after h (mem rs es)) rs x (rw needed s.rows)) in
      rw (not-false (recoverable h n t (mem rs es)) (sym q ∙ going), changed, cleared, rows_left, entries_left)

-- a huge frame damaged beyond recovery is refused with 8
pub refuses : (h n t : ℕ) (rs es : List ℕ) {is_blocked : Bool} → is_blocked ≡ not (recoverable h n t (mem rs es)) → is_blocked ≡ true
    → out (recovered 8 0 0) (mem rs es) ≡ recover_all h n t (mem rs es)
unfolding recover_all
refuses h n t rs es q stopped = rw (not-true (recoverable h n t (mem rs es)) (sym q ∙ stopped))
