-- A block from the huge order up is free where its huge frames are, and in a consistent tree their entries tell so. Assumes nothing.
use mathlib.Core.Path.{◌≡◌, sym, ap, ◌∙◌}
use mathlib.Core.Bool.{false}
use mathlib.Core.Logic.{⊎_elim}
use Prim.Native.Nat.{ℕ, ◌+◌, ◌*◌, ◌/◌, ◌%◌, ◌^◌, ◌≤◌, ◌<◌}
use native.Mathlib.Decide.{dec_lt}
use native.Mathlib.Nat.{mul-le-mul_right}
use native.Mathlib.Omega.{arith}
use lib.Dec.{eqb}
use lib.Pow.{pow_pos}
use Rattle.base.specs.Walk.{all, count}
use Rattle.base.specs.Bits.{bit_is}
use Rattle.base.specs.Size.{Huge}
use Rattle.base.proofs.Sizes.{pow_divides}
use Rattle.base.proofs.Counting.{all_runs, count_tells_all}
use Rattle.base.proofs.Walks.{all_same, count_none, count_same}
use Rattle.rules.specs.Numbers.{huge_of, entries_needed, group_of}
use Rattle.rules.specs.State.{Mem, entry_of, free_of, entries_are}
use Rattle.rules.proofs.Entries.{free_mark, free_own, whole_free}
use Rattle.rules.proofs.Numbers.{tree_pos, block_begins}
use Rattle.rules.proofs.Present.{present_entry, huge_is}
use Rattle.rules.specs.Consistent.{ByMark, ByCount, ConsistentIn, free, entirely}
use Rattle.rules.proofs.Frees.{no_mark, counted_free, held_mark, held_past}

-- ---- a block by its huge frames

-- the frames of a group of huge frames
group_is_huge_frames : (h n : ℕ) (m : Mem) (at o : ℕ) → h ≤ o → all (free h n m) (2 ^ o) (at * 2 ^ h) ≡ all (entirely h n m (2 ^ h)) (group_of h o) at
group_is_huge_frames h n m at o l = rw (← pow_divides h o l) (all_runs (free h n m) (2 ^ h) (group_of h o) at)

pub block_is_its_huge_frames : (h n : ℕ) (m : Mem) (a o : ℕ) → h ≤ o → a % 2 ^ o ≡ 0 → all (free h n m) (2 ^ o) a ≡ all (entirely h n m (2 ^ h)) (group_of h o) (huge_of h a)
block_is_its_huge_frames h n m a o l e =
    ap (all (free h n m) (2 ^ o)) (sym (block_begins h a o l e)) ∙ group_is_huge_frames h n m (huge_of h a) o l

-- ---- what an entry tells

module _ {h n t : ℕ} {m : Mem} {y : ℕ} (H : Huge h) (c : ConsistentIn h n t m y) where
  -- the free count of a needed entry is the number of free frames of its huge frame
  pub entry_counts : (x : ℕ) → x / t ≡ y → x < entries_needed h n t → free_of (entry_of m.entries x) ≡ count (free h n m) (2 ^ h) (x * 2 ^ h)
  entry_counts x own u = elim (dec_lt (x * 2 ^ h) n) [
    | yes l ↦ ⊎_elim
        (λ (k : ByMark h n m x). sym (free_mark k.marked) ∙ sym (count_none (free h n m) (2 ^ h) (x * 2 ^ h)
        (λ f a b. held_mark h n m f (ap (entry_of m.entries) (huge_is h x f a (omega arith)) ∙ k.marked))))
        (λ (k : ByCount h n m x). sym (free_own (no_mark H k)) ∙ k.counts
        ∙ count_same (bit_is false m.rows) (free h n m) (2 ^ h) (x * 2 ^ h) (λ f a b. sym (counted_free H k f a (omega arith))))
        (c.present x own l)
    | no l ↦ ap free_of (c.absent x own (omega arith) u) ∙ sym (count_none (free h n m) (2 ^ h) (x * 2 ^ h) (λ f a b. held_past h n m f (omega arith)))
  ]

  -- so it tells whether all of them are free
  pub entry_tells : (x : ℕ) → x / t ≡ y → x < entries_needed h n t → entirely h n m (2 ^ h) x ≡ eqb (entry_of m.entries x) (2 ^ h)
  entry_tells x own u =
      sym (count_tells_all (free h n m) (2 ^ h) (x * 2 ^ h)) ∙ rw (← entry_counts x own u) (whole_free (entry_of m.entries x) H)

-- so the entries of a group of the tree that ends at or before N tell whether it is free
pub groups_free : {h n t : ℕ} {m : Mem} {y : ℕ} → Huge h → ConsistentIn h n t m y → (at o : ℕ) → h ≤ o → (at + group_of h o) * 2 ^ h ≤ n
    → ((x : ℕ) → at ≤ x → x < at + group_of h o → x / t ≡ y)
    → all (free h n m) (2 ^ o) (at * 2 ^ h) ≡ entries_are (2 ^ h) m.entries at (group_of h o)
groups_free {h} {n} {t} {m} H c at o l ends own =
    group_is_huge_frames h n m at o l ∙ all_same (entirely h n m (2 ^ h)) (λ x. eqb (entry_of m.entries x) (2 ^ h)) (group_of h o) at (λ x a b.
    let below : (x + 1) * 2 ^ h ≤ (at + group_of h o) * 2 ^ h = mul-le-mul_right (2 ^ h) (omega arith) in
    entry_tells H c x (own x a b) (present_entry h n t x (tree_pos t c.sized.tree) (omega (arith, pow_pos h))))
