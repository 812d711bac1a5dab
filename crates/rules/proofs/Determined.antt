-- A consistent state is determined by its free frames and its marks, and by what lies beyond the needed rows and entries. Assumes nothing.
use mathlib.Core.Path.{◌≡◌, refl, sym, ap₂, ◌∙◌}
use mathlib.Core.Bool.{false, ◌||◌}
use mathlib.Core.Logic.{⊎_elim}
use Prim.Native.Nat.{ℕ, ◌+◌, ◌*◌, ◌/◌, ◌^◌, ◌≤◌, ◌<◌}
use native.Mathlib.Decide.{dec_lt}
use native.Mathlib.Omega.{arith}
use lib.Dec.{eqb}
use lib.ListN.{get_or}
use lib.Seq.{ext_get_or}
use borrow.Author.Tests.{eq-eqb, ne_eqb}
use Rattle.base.specs.Bits.{bit_is}
use Rattle.base.specs.Size.{Huge, rows_per}
use Rattle.base.proofs.SameRows.{same_row}
use Rattle.base.proofs.Walks.{count_same}
use Rattle.rules.specs.Numbers.{mark, rows_needed, entries_needed}
use Rattle.rules.specs.State.{Mem, mem, entry_of, clear_of}
use Rattle.rules.proofs.Present.{present_entry, row_present, row_within}
use Rattle.rules.proofs.Numbers.{tree_pos}
use Rattle.rules.specs.Consistent.{ByCount, Consistent, free}
use Rattle.rules.specs.Marks.{marked}
use Rattle.rules.specs.Same.{Same, StateIsDetermined}
use Rattle.rules.proofs.Beyond.{Beyond}
use Rattle.rules.proofs.Frees.{no_mark, counted_free, entry_told}

-- ---- one present huge frame

module _ {h n t : ℕ} {m : Mem} (H : Huge h) (c : Consistent h n t m) (x : ℕ) (l : x * 2 ^ h < n) where
  -- a frame's bit is clear exactly if the frame is free or under the mark
  clear_told : (f : ℕ) → x * 2 ^ h ≤ f → f < (x + 1) * 2 ^ h → bit_is false m.rows f ≡ (eqb (entry_of m.entries x) mark || free h n m f)
  clear_told f a u = ⊎_elim
      (λ k. rw (eq-eqb _ _ k.marked) (k.clear f a u))
      (λ (k : ByCount h n m x). rw (ne_eqb _ _ (no_mark H k)) (sym (counted_free H k f a u)))
      ((c (x / t)).present x refl l)

-- ---- two states

module _ {h n t : ℕ} {a b : Mem} (H : Huge h) (ca : Consistent h n t a) (cb : Consistent h n t b)
    (frees : (f : ℕ) → free h n a f ≡ free h n b f)
    (marks : (x : ℕ) → x < entries_needed h n t → marked a x ≡ marked b x) where
  module _ (x : ℕ) (l : x * 2 ^ h < n) where
    same_mark : marked a x ≡ marked b x
    same_mark = marks x (present_entry h n t x (tree_pos t (ca 0).sized.tree) l)

    same_clear : (f : ℕ) → x * 2 ^ h ≤ f → f < (x + 1) * 2 ^ h → bit_is false a.rows f ≡ bit_is false b.rows f
    same_clear f low high = clear_told H ca x l f low high ∙ ap₂ ◌||◌ same_mark (frees f) ∙ sym (clear_told H cb x l f low high)

    same_count : clear_of h a.rows x ≡ clear_of h b.rows x
    same_count = count_same (bit_is false a.rows) (bit_is false b.rows) (2 ^ h) (x * 2 ^ h) (λ f low high. same_clear f low (omega arith))

  same : Same h n t a b
  same = record {
    rows = λ i l. same_row a.rows b.rows (ca 0).fits.rows (cb 0).fits.rows i
        (λ f low high. let own = row_within H i f low high in same_clear (i / rows_per h) (row_present h n i l) f own.0 own.1);
    entries = λ x u. elim (dec_lt (x * 2 ^ h) n) [
      | yes l ↦ entry_told H (ca (x / t)) x refl l ∙ rw (same_mark x l, same_count x l) (sym (entry_told H (cb (x / t)) x refl l))
      | no l ↦ (ca (x / t)).absent x refl (omega arith) u ∙ sym ((cb (x / t)).absent x refl (omega arith) u)
    ];
  }

pub determined : StateIsDetermined
determined h n t a b H ca cb = same H ca cb

-- with what lies beyond, all of the memory is the same
pub same_all : {h n t : ℕ} {a b : Mem} → Same h n t b a → Beyond h n t a b → b ≡ a
same_all {h} {n} {t} {a} {b} s k = ap₂ mem (ext_get_or 0 b.rows a.rows k.long.0 (λ i _. rows i)) (ext_get_or 0 b.entries a.entries k.long.1 (λ x _. entries x))
  where
    rows : (i : ℕ) → get_or b.rows i 0 ≡ get_or a.rows i 0
    rows i = elim (dec_lt i (rows_needed h n)) [ yes l ↦ s.rows i l | no l ↦ k.rows i (omega arith) ]

    entries : (x : ℕ) → entry_of b.entries x ≡ entry_of a.entries x
    entries x = elim (dec_lt x (entries_needed h n t)) [ yes l ↦ s.entries x l | no l ↦ k.entries x (omega arith) ]
