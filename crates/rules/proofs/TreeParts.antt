-- Two states that agree on tree y: what is read alike there, and that the same write to both leaves them agreeing. Assumes nothing.
use mathlib.Core.Path.{◌≡◌, refl, sym, ap, ◌∙◌}
use mathlib.Core.Bool.{Bool, true, false}
use Prim.Native.Nat.{ℕ, ◌+◌, ◌-◌, ◌*◌, ◌/◌, ◌^◌, ◌≤◌, ◌<◌}
use native.Mathlib.Nat.{mul_comm, div-div-eq-div-mul, div-lt_iff_lt-mul}
use native.Mathlib.Omega.{arith}
use lib.Arith.{digits_div}
use lib.Dec.{eqb}
use lib.ListN.{length, get_or, set, length-set}
use lib.Pow.{pow_pos}
use Rattle.base.specs.Walk.{pick, written}
use Rattle.base.specs.Code.{Out, out}
use Rattle.base.specs.Size.{Huge, rows_per}
use Rattle.base.specs.Bits.{bit_is, block_is, with_bits}
use Rattle.base.proofs.Rests.{quotient_is}
use Rattle.base.proofs.Walks.{pick_both, all_same, count_same}
use Rattle.base.proofs.Written.{length_written, set_alike, written_alike}
use Rattle.base.proofs.Writes.{length_with, with_alike}
use Rattle.base.proofs.Frames.{same_bit}
use Rattle.base.proofs.Parts.{part_same}
use Rattle.rules.specs.Numbers.{huge_of, rows_needed}
use Rattle.rules.specs.Refusals.{Sized}
use Rattle.rules.specs.State.{Mem, entry_of, rows_of, clear_of, entries_are, lengths_of, with_rows, with_entries, with_entry}
use Rattle.rules.proofs.Numbers.{huge_of_row}
use Rattle.rules.proofs.Present.{present_low, huge_is}
use Rattle.rules.proofs.Lent.{present_rows, frame_entry}
use Rattle.rules.specs.OneTree.{Agree}

-- ---- two states that agree

-- two states of one N and one T that are lent enough and agree on tree y
pub record Agreeing (h n t y : ℕ) (a b : Mem) : Type 0 where
  pub huge : Huge h
  pub sized : Sized h n t (lengths_of a)
  pub other : Sized h n t (lengths_of b)
  pub agree : Agree h n t y a b

module _ {h n t y : ℕ} {a b : Mem} (w : Agreeing h n t y a b) where
  -- ---- what is read alike

  -- the rows of the tree's present huge frames
  row_alike : (i : ℕ) → i / rows_per h / t ≡ y → i / rows_per h * 2 ^ h < n → get_or a.rows i 0 ≡ get_or b.rows i 0
  row_alike i e l =
      let below : i < rows_needed h n = rw (mul_comm (rows_per h)) ((div-lt_iff_lt-mul (pow_pos (h - 6))).0 (present_low h n (i / rows_per h) l)) in
      w.agree.rows i below (sym (div-div-eq-div-mul i (rows_per h) t) ∙ e)

  pub bit_alike : (c : Bool) (f : ℕ) → huge_of h f / t ≡ y → huge_of h f * 2 ^ h < n → bit_is c a.rows f ≡ bit_is c b.rows f
  bit_alike c f e l = same_bit c a.rows b.rows f (row_alike (f / 64) (rw (huge_of_row f w.huge) at e) (rw (huge_of_row f w.huge) at l))

  module _ (x : ℕ) (here : x / t ≡ y) (present : x * 2 ^ h < n) where
    pub block_alike : (c : Bool) (f s : ℕ) → x * 2 ^ h ≤ f → s ≤ (x + 1) * 2 ^ h - f → block_is c a.rows f s ≡ block_is c b.rows f s
    unfolding block_is
    block_alike c f s lo hi =
        all_same _ _ s 0 (λ j _ l. let is : huge_of h (f + j) ≡ x = huge_is h x (f + j) (omega arith) (omega arith) in bit_alike c (f + j) (rw is here) (rw is present))

    pub clear_alike : clear_of h a.rows x ≡ clear_of h b.rows x
    clear_alike = count_same _ _ (2 ^ h) (x * 2 ^ h) (λ f l u. let is : huge_of h f ≡ x = huge_is h x f l (omega arith) in bit_alike false f (rw is here) (rw is present))

    pub part_alike : rows_of h a.rows x ≡ rows_of h b.rows x
    part_alike =
        part_same a.rows b.rows (x * rows_per h) (rows_per h) (omega (arith, present_rows w.huge w.sized x present))
        (omega (arith, present_rows w.huge w.other x present))
        (λ i l. let is : (x * rows_per h + i) / rows_per h ≡ x = digits_div x l in row_alike (x * rows_per h + i) (rw is here) (rw is present))

  -- the tree's entries
  pub entry_alike : (x : ℕ) → y * t ≤ x → x < y * t + t → entry_of a.entries x ≡ entry_of b.entries x
  entry_alike x lo hi = w.agree.entries x (quotient_is t y x lo hi)

  pub entries_alike : (v at k : ℕ) → y * t ≤ at → at + k ≤ y * t + t → entries_are v a.entries at k ≡ entries_are v b.entries at k
  entries_alike v at k lo hi = all_same _ _ k at (λ x l u. ap (λ (e : ℕ). eqb e v) (entry_alike x (omega arith) (omega arith)))

  -- ---- what is written alike

  pub rows_written : (c : Bool) (p e : ℕ) → Agreeing h n t y (with_rows a (with_bits c a.rows p e)) (with_rows b (with_bits c b.rows p e))
  rows_written c p e = record {
    huge = w.huge;
    sized = rw (length_with c a.rows p e) w.sized;
    other = rw (length_with c b.rows p e) w.other;
    agree = record {
      rows = λ i l q. with_alike c a.rows b.rows p e i (omega (arith, w.sized.rows)) (omega (arith, w.other.rows)) (w.agree.rows i l q);
      entries = w.agree.entries;
    };
  }

  entry_set : (x v : ℕ) → x < length a.entries → x < length b.entries
      → Agreeing h n t y (with_entries a (set a.entries x v)) (with_entries b (set b.entries x v))
  entry_set x v l k = record {
    huge = w.huge;
    sized = rw (length-set a.entries x v) w.sized;
    other = rw (length-set b.entries x v) w.other;
    agree = record {
      rows = w.agree.rows;
      entries = λ i q. set_alike a.entries b.entries x i v l k (w.agree.entries i q);
    };
  }

  pub entries_written : (f : ℕ → ℕ) (at k : ℕ) → at + k ≤ length a.entries → at + k ≤ length b.entries
      → Agreeing h n t y (with_entries a (written f a.entries at k)) (with_entries b (written f b.entries at k))
  entries_written f at k l u = record {
    huge = w.huge;
    sized = rw (length_written f a.entries at k) w.sized;
    other = rw (length_written f b.entries at k) w.other;
    agree = record {
      rows = w.agree.rows;
      entries = λ i q. written_alike f a.entries b.entries at k i l u (w.agree.entries i q);
    };
  }

-- frames from f on, and the entry of f, which is below N
pub block_written : {h n t y : ℕ} {a b : Mem} (w : Agreeing h n t y a b) (c : Bool) (f e v : ℕ) → f < n
    → Agreeing h n t y (with_entry (with_rows a (with_bits c a.rows f e)) (huge_of h f) v) (with_entry (with_rows b (with_bits c b.rows f e)) (huge_of h f) v)
block_written {h} w c f e v l =
    entry_set (rows_written w c f e) (huge_of h f) v
    (frame_entry w.huge (record { sized = w.sized; below = l })) (frame_entry w.huge (record { sized = w.other; below = l }))

-- ---- what a call leaves of each

-- equal answers, and states that agree still
pub record Alike {A : Type 0} (h n t y : ℕ) (o p : Out A Mem) : Type 0 where
  pub answer : o.answer ≡ p.answer
  pub left : Agreeing h n t y o.left p.left

module _ {A : Type 0} {h n t y : ℕ} where
  -- both states handed back
  pub same_alike : {a b : Mem} → Agreeing h n t y a b → (v : A) → Alike h n t y (out v a) (out v b)
  same_alike w v = record { answer = refl; left = w }

  -- both picked by one test
  pub pick_alike : (s : Bool) {o p o' p' : Out A Mem} → (s ≡ true → Alike h n t y o p) → (s ≡ false → Alike h n t y o' p') → Alike h n t y (pick s o o') (pick s p p')
  pick_alike = pick_both (Alike h n t y)
