-- What a consistent tree says of a huge frame by its entry, and of a block below the huge order by its bits and its entry. Assumes nothing.
use mathlib.Core.Path.{◌≡◌, sym, ap, ◌∙◌}
use mathlib.Core.Bool.{true, false, not, and-true}
use mathlib.Core.Logic.{⊎_elim}
use Prim.Native.Nat.{ℕ, ◌+◌, ◌*◌, ◌/◌, ◌%◌, ◌^◌, ◌≤◌, ◌<◌}
use native.Mathlib.Nat.{div-mul-le_self}
use native.Mathlib.Omega.{arith}
use lib.ListN.{length}
use lib.Pow.{pow_pos}
use borrow.Author.Tests.{ne_eqb, lt-ltb}
use Rattle.base.specs.Walk.{all}
use Rattle.base.specs.Bits.{bit_is, block_is}
use Rattle.base.specs.Size.{Huge}
use Rattle.base.proofs.Walks.{all_of, all_not, all_same}
use Rattle.base.proofs.Counting.{count_run}
use Rattle.base.proofs.Frames.{block_walk, set_not_clear, zeros_block}
use Rattle.rules.specs.Numbers.{mark, huge_of}
use Rattle.rules.specs.State.{Mem, entry_of}
use Rattle.rules.proofs.Present.{present_ends, block_within, block_huge}
use Rattle.rules.specs.Consistent.{ByMark, ByCount, ConsistentIn, free, held}
use Rattle.rules.proofs.Frees.{no_mark, held_mark}

-- below N, and not under a mark, the bit tells whether a frame is free
pub free_bit : (h n : ℕ) (m : Mem) (g : ℕ) → g < n → (entry_of m.entries (huge_of h g) ≡ mark → ⊥) → free h n m g ≡ bit_is false m.rows g
free_bit h n m g l q = rw (lt-ltb g n l, ne_eqb (entry_of m.entries (huge_of h g)) mark q) (and-true (bit_is false m.rows g))

module _ {h n t : ℕ} {m : Mem} {y : ℕ} (c : ConsistentIn h n t m y) where
  -- a present huge frame without the mark is counted
  pub is_counted : (x : ℕ) → x / t ≡ y → x * 2 ^ h < n → (entry_of m.entries x ≡ mark → ⊥) → ByCount h n m x
  is_counted x own l q = ⊎_elim (λ (k : ByMark h n m x). absurd (q k.marked)) (λ k. k) (c.present x own l)

  -- and one with it is not
  pub is_marked : Huge h → (x : ℕ) → x / t ≡ y → x * 2 ^ h < n → entry_of m.entries x ≡ mark → ByMark h n m x
  is_marked H x own l q = ⊎_elim (λ k. k) (λ (k : ByCount h n m x). absurd (no_mark H k q)) (c.present x own l)

  module _ (f o : ℕ) (low : o < h) (even : f % 2 ^ o ≡ 0) (ends : f + 2 ^ o ≤ n) where
    -- the block's huge frame is present
    pub block_present : huge_of h f * 2 ^ h < n
    block_present = omega (arith, pow_pos o, div-mul-le_self f (2 ^ h))

    -- and all its rows are lent
    pub block_lent : Huge h → (huge_of h f + 1) * 2 ^ h ≤ length m.rows * 64
    block_lent H = omega (arith, present_ends H n (huge_of h f) block_present, c.sized.rows)

    -- under a mark, each frame of the block is held
    under_mark : entry_of m.entries (huge_of h f) ≡ mark → (g : ℕ) → f ≤ g → g < f + 2 ^ o → free h n m g ≡ false
    under_mark q g a b = held_mark h n m g (ap (entry_of m.entries) (block_huge f o low even g a b) ∙ q)

    pub block_marked : entry_of m.entries (huge_of h f) ≡ mark → all (free h n m) (2 ^ o) f ≡ false
    block_marked q = all_not (free h n m) (2 ^ o) f f (omega arith) (omega (arith, pow_pos o)) (held_mark h n m f q)

    pub marked_held : entry_of m.entries (huge_of h f) ≡ mark → all (held h n m) (2 ^ o) f ≡ true
    marked_held q = all_of (held h n m) (2 ^ o) f (λ g a b. ap not (under_mark q g a b))

    module _ (q : entry_of m.entries (huge_of h f) ≡ mark → ⊥) where
      -- without one, each frame's bit tells
      block_bit : (g : ℕ) → f ≤ g → g < f + 2 ^ o → free h n m g ≡ bit_is false m.rows g
      block_bit g a b = free_bit h n m g (omega arith) (λ e. q (ap (entry_of m.entries) (sym (block_huge f o low even g a b)) ∙ e))

      pub block_free : all (free h n m) (2 ^ o) f ≡ block_is false m.rows f (2 ^ o)
      block_free = all_same (free h n m) (bit_is false m.rows) (2 ^ o) f block_bit ∙ sym (block_walk false m.rows f (2 ^ o))

      pub block_held : all (held h n m) (2 ^ o) f ≡ block_is true m.rows f (2 ^ o)
      block_held =
          all_same (held h n m) (bit_is true m.rows) (2 ^ o) f (λ g a b. ap not (block_bit g a b) ∙ sym (set_not_clear m.rows g))
          ∙ sym (block_walk true m.rows f (2 ^ o))

      -- the entry counts at least the block's frames where they are free
      pub block_counts : huge_of h f / t ≡ y → block_is false m.rows f (2 ^ o) ≡ true → 2 ^ o ≤ entry_of m.entries (huge_of h f)
      block_counts own e =
          omega (
            arith,
            (is_counted (huge_of h f) own block_present q).counts,
            zeros_block false m.rows f (2 ^ o) e,
            count_run (bit_is false m.rows) (2 ^ h) (huge_of h f * 2 ^ h) f (2 ^ o) (div-mul-le_self f (2 ^ h)) (omega (arith, block_within f o low even)),
          )
