-- The entries of a group of huge frames written all alike: whose frames they are, and what else stays as it was. Assumes nothing.
use mathlib.Core.Path.{◌≡◌, ◌∙◌}
use mathlib.Core.Bool.{true, false}
use mathlib.Core.List.{List}
use mathlib.Core.Logic.{◌⊎◌, inl, inr, ⊎_elim}
use Prim.Native.Nat.{ℕ, ◌+◌, ◌*◌, ◌^◌, ◌≤◌, ◌<◌}
use native.Mathlib.Decide.{dec_lt}
use native.Mathlib.Nat.{mul-le-mul_right, le-div_iff_mul-le, div-lt_iff_lt-mul}
use native.Mathlib.Omega.{arith}
use lib.Pow.{pow_pos}
use Rattle.base.specs.Walk.{written}
use Rattle.base.proofs.Written.{written_in, written_before, written_beyond, length_written}
use Rattle.rules.specs.Numbers.{huge_of, group_of}
use Rattle.rules.specs.State.{Mem, mem, entry_of, with_entries}
use Rattle.rules.proofs.Numbers.{tree_pos}
use Rattle.rules.proofs.Present.{present_entry}
use Rattle.rules.proofs.GroupSteps.{group_frames}
use Rattle.rules.specs.Consistent.{ByMark, ByCount, ConsistentIn, free, in_block}
use Rattle.rules.proofs.Effects.{in_block_lem, out_of_block}

-- ---- the group from huge frame `at` on that a block of order o is

module _ (h at o : ℕ) (l : h ≤ o) where
  abbrev pub Within : ℕ → Type 0
  Within x = (at ≤ x) × (x < at + group_of h o)

  abbrev pub Beside : ℕ → Type 0
  Beside x = (x < at) ⊎ (at + group_of h o ≤ x)

  pub within_or_beside : (x : ℕ) → Within x ⊎ Beside x
  within_or_beside x = elim (dec_lt x at) [
    | yes a ↦ inr (inl a)
    | no a ↦ elim (dec_lt x (at + group_of h o)) [ yes b ↦ inl (omega arith, b) | no b ↦ inr (inr (omega arith)) ]
  ]

  -- its frames are the block's
  pub within_block : (f : ℕ) → Within (huge_of h f) → in_block (at * 2 ^ h) o f ≡ true
  within_block f w =
      let low : at * 2 ^ h ≤ f = (le-div_iff_mul-le (pow_pos h)).0 w.0 in
      let high : f < (at + group_of h o) * 2 ^ h = (div-lt_iff_lt-mul (pow_pos h)).0 w.1 in
      in_block_lem (at * 2 ^ h) o f low (omega (arith, group_frames h at o l))

  pub in_group : (f : ℕ) → at * 2 ^ h ≤ f → f < at * 2 ^ h + 2 ^ o → Within (huge_of h f)
  in_group f a b = ((le-div_iff_mul-le (pow_pos h)).1 a, (div-lt_iff_lt-mul (pow_pos h)).1 (omega (arith, group_frames h at o l)))

  pub beside_block : (f : ℕ) → Beside (huge_of h f) → in_block (at * 2 ^ h) o f ≡ false
  beside_block f b = out_of_block (at * 2 ^ h) o f (⊎_elim
      (λ u. inl ((div-lt_iff_lt-mul (pow_pos h)).0 u))
      (λ u. inr (let high = (le-div_iff_mul-le (pow_pos h)).0 u in omega (arith, group_frames h at o l)))
      b)

-- ---- the group's entries written with v

-- what a huge frame is goes by its entry and its bits
same_entry : {h n : ℕ} {rows entries left : List ℕ} {x : ℕ} → entry_of left x ≡ entry_of entries x
    → ByMark h n (mem rows entries) x ⊎ ByCount h n (mem rows entries) x → ByMark h n (mem rows left) x ⊎ ByCount h n (mem rows left) x
same_entry e = ⊎_elim
    (λ k. inl (record { marked = e ∙ k.marked; below = k.below; clear = k.clear }))
    (λ k. inr (record { most = omega (arith, k.most); counts = e ∙ k.counts; past = k.past }))

module _ {h n t : ℕ} {m : Mem} {z : ℕ} (c : ConsistentIn h n t m z) (at o : ℕ) (l : h ≤ o) (ends : (at + group_of h o) * 2 ^ h ≤ n) where
  pub within_below : (x : ℕ) → Within h at o l x → (x + 1) * 2 ^ h ≤ n
  within_below x w =
      let below : (x + 1) * 2 ^ h ≤ (at + group_of h o) * 2 ^ h = mul-le-mul_right (2 ^ h) (omega (arith, w.1)) in
      omega arith

  pub within_present : (x : ℕ) → Within h at o l x → x * 2 ^ h < n
  within_present x w = omega (arith, within_below x w, pow_pos h)

  module _ (v : ℕ) where
    abbrev pub group_written : Mem
    group_written = with_entries m (written (λ i. v) m.entries at (group_of h o))

    pub entry_within : (x : ℕ) → Within h at o l x → entry_of group_written.entries x ≡ v
    entry_within x w =
        let needed = present_entry h n t x (tree_pos t c.sized.tree) (within_present x w) in
        written_in (λ i. v) m.entries at (group_of h o) x w.0 w.1 (omega (arith, c.sized.entries))

    pub entry_beside : (x : ℕ) → Beside h at o l x → entry_of group_written.entries x ≡ entry_of m.entries x
    entry_beside x = ⊎_elim (written_before (λ i. v) m.entries at (group_of h o) x) (written_beyond (λ i. v) m.entries at (group_of h o) x)

    pub free_beside : (f : ℕ) → Beside h at o l (huge_of h f) → free h n group_written f ≡ free h n m f
    free_beside f b = rw (entry_beside (huge_of h f) b)

    -- a consistent tree stays so if the group's huge frames are
    pub group_keeps : v < 2 ^ 16 → ((x : ℕ) → Within h at o l x → ByMark h n group_written x ⊎ ByCount h n group_written x)
        → (y : ℕ) → ConsistentIn h n t m y → ConsistentIn h n t group_written y
    group_keeps few each _ k = record {
      sized = rw (length_written (λ i. v) m.entries at (group_of h o)) c.sized;
      fits = record {
        rows = c.fits.rows;
        entries = λ x. ⊎_elim (λ w. rw (entry_within x w) few) (λ b. rw (entry_beside x b) (c.fits.entries x)) (within_or_beside h at o l x);
      };
      present = λ x own u. ⊎_elim (each x) (λ b. same_entry (entry_beside x b) (k.present x own u)) (within_or_beside h at o l x);
      absent = λ x own u needed. ⊎_elim (λ w. absurd (omega (arith, within_present x w))) (λ b. entry_beside x b ∙ k.absent x own u needed) (within_or_beside h at o l x);
    }
