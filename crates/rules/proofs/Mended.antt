-- Memory that recover has mended: its entries, rows and bits, in the huge frames that are marked and in the others. Assumes nothing.
use mathlib.Core.Path.{◌≡◌, ◌∙◌}
use mathlib.Core.Bool.{Bool, true, false}
use Prim.Native.Nat.{ℕ, ◌*◌, ◌^◌, ◌≤◌, ◌<◌}
use native.Mathlib.Decide.{dec_lt}
use native.Mathlib.Omega.{arith}
use lib.ListN.{get_or}
use borrow.Author.Tests.{eq-eqb, ne_eqb}
use Rattle.base.specs.Bits.{bit_is}
use Rattle.base.specs.Size.{Huge}
use Rattle.base.proofs.Frames.{same_bit, zero_bit}
use Rattle.base.proofs.Written.{written_in, written_beyond, length_written}
use Rattle.rules.specs.Numbers.{mark, huge_of, row_of, ceil, rows_needed}
use Rattle.rules.specs.Refusals.{Sized}
use Rattle.rules.specs.State.{Mem, entry_of, clear_of, lengths_of}
use Rattle.rules.proofs.Numbers.{huge_of_row, rows_cover, tree_pos}
use Rattle.rules.proofs.Present.{present_low, absent_high, present_entry}
use Rattle.rules.specs.Recover.{entry_after, row_after, mended}

-- ---- what stays, however much is lent

module _ (h n : ℕ) (m : Mem) where
  -- the rows beyond those that n frames need
  pub rows_beyond : (i : ℕ) → rows_needed h n ≤ i → get_or (mended h n m).rows i 0 ≡ get_or m.rows i 0
  unfolding mended
  rows_beyond i l = written_beyond (row_after h m) m.rows 0 (rows_needed h n) i (omega arith)

  -- the entries of absent huge frames, and those beyond them
  pub entries_beyond : (x : ℕ) → n ≤ x * 2 ^ h → entry_of (mended h n m).entries x ≡ entry_of m.entries x
  unfolding mended
  entries_beyond x l = written_beyond (entry_after h m) m.entries 0 (ceil n (2 ^ h)) x (omega (arith, absent_high h n x l))

-- ---- what is mended

module _ {h n t : ℕ} (m : Mem) (s : Sized h n t (lengths_of m)) where
  pub mended_sized : Sized h n t (lengths_of (mended h n m))
  unfolding mended
  mended_sized = rw (length_written (row_after h m) m.rows 0 (rows_needed h n), length_written (entry_after h m) m.entries 0 (ceil n (2 ^ h))) s

  -- the entries of present huge frames
  module _ (x : ℕ) (l : x * 2 ^ h < n) where
    pub mended_entry : entry_of (mended h n m).entries x ≡ entry_after h m x
    unfolding mended
    mended_entry =
        written_in (entry_after h m) m.entries 0 (ceil n (2 ^ h)) x (omega arith) (omega (arith, present_low h n x l))
        (omega (arith, present_entry h n t x (tree_pos t s.tree) l, s.entries))

    -- a mark stays
    pub mended_mark : entry_of m.entries x ≡ mark → entry_of (mended h n m).entries x ≡ mark
    mended_mark e = mended_entry ∙ rw (eq-eqb (entry_of m.entries x) mark e)

    -- any other entry is the number of clear bits
    pub mended_count : (entry_of m.entries x ≡ mark → ⊥) → entry_of (mended h n m).entries x ≡ clear_of h m.rows x
    mended_count e = mended_entry ∙ rw (ne_eqb (entry_of m.entries x) mark e)

  -- the needed rows, and each frame's bit
  pub mended_row : (i : ℕ) → i < rows_needed h n → get_or (mended h n m).rows i 0 ≡ row_after h m i
  unfolding mended
  mended_row i l = written_in (row_after h m) m.rows 0 (rows_needed h n) i (omega arith) (omega arith) (omega (arith, s.rows))

  module _ (H : Huge h) (f : ℕ) where
    -- a frame under a mark has its bit clear
    pub mended_clear : entry_of m.entries (huge_of h f) ≡ mark → f < n → bit_is false (mended h n m).rows f ≡ true
    mended_clear e l = zero_bit (mended h n m).rows f (mended_row (row_of f) (rows_cover n f H l) ∙ rw (← huge_of_row f H, eq-eqb _ _ e))

    -- any other keeps its own
    pub mended_same : (entry_of m.entries (huge_of h f) ≡ mark → ⊥) → (b : Bool) → bit_is b (mended h n m).rows f ≡ bit_is b m.rows f
    mended_same e b = same_bit b (mended h n m).rows m.rows f (elim (dec_lt (row_of f) (rows_needed h n)) [
      | yes l ↦ mended_row (row_of f) l ∙ rw (← huge_of_row f H, ne_eqb _ _ e)
      | no l ↦ rows_beyond h n m (row_of f) (omega arith)
    ])
