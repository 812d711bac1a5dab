-- The bits of one huge frame as the code reaches them: the clear ones in its own rows, and those past N in the rows up to its end. Assumes nothing.
use mathlib.Core.Path.{◌≡◌, refl, ◌∙◌}
use mathlib.Core.Bool.{Bool, true, false}
use mathlib.Core.List.{List}
use Prim.Native.Nat.{ℕ, ◌+◌, ◌-◌, ◌*◌, ◌^◌, ◌≤◌, ◌<◌}
use native.Mathlib.Nat.{zero-add, sub-zero}
use native.Mathlib.Omega.{arith}
use lib.ListN.{length, take}
use lib.Seq.{length-take-le}
use Rattle.base.specs.Bits.{bit_is, block_is}
use Rattle.base.specs.Size.{Huge, rows_per}
use Rattle.base.proofs.Walks.{count_full}
use Rattle.base.proofs.Sizes.{first_row}
use Rattle.base.proofs.Frames.{block_of, zeros_block}
use Rattle.base.proofs.Parts.{part_long, block_part}
use Rattle.rules.specs.State.{rows_of, clear_of}
use Rattle.rules.proofs.Needed.{frames_word}

-- ---- clear bits

module _ {h : ℕ} (H : Huge h) (rs : List ℕ) (x : ℕ) (lent : (x + 1) * rows_per h ≤ length rs) where
  -- as many rows as a huge frame has are lent to it
  rows_long : length (rows_of h rs x) ≡ rows_per h
  rows_long = part_long rs (x * rows_per h) (rows_per h) (omega arith)

module _ (h : ℕ) (rs : List ℕ) (x : ℕ) where
  -- they are all of its bits exactly if all of these are clear
  pub all_are_clear : clear_of h rs x ≡ 2 ^ h → block_is false rs (x * 2 ^ h) (2 ^ h) ≡ true
  all_are_clear e = block_of false rs (x * 2 ^ h) (2 ^ h) (count_full (bit_is false rs) (2 ^ h) (x * 2 ^ h) e)

  pub one_is_set : (clear_of h rs x ≡ 2 ^ h → ⊥) → block_is false rs (x * 2 ^ h) (2 ^ h) ≡ false
  one_is_set differs = go (block_is false rs (x * 2 ^ h) (2 ^ h)) refl
    where
      go : (b : Bool) → block_is false rs (x * 2 ^ h) (2 ^ h) ≡ b → b ≡ false
      go true q = absurd (differs (zeros_block false rs (x * 2 ^ h) (2 ^ h) q))
      go false q = refl

-- ---- bits past N

-- where a huge frame ends at N or before, it has none
pub none_past : (rs : List ℕ) (n end : ℕ) → end ≤ n → block_is true rs n (end - n) ≡ true
none_past rs n end l = block_of true rs n (end - n) (λ f lo hi. absurd (omega arith))

-- else they end with its last row, and the code takes the k rows up to that one
module _ {h : ℕ} (H : Huge h) (rs : List ℕ) (n x k : ℕ) (lent : (x + 1) * rows_per h ≤ length rs) (k_is : k ≡ (x + 1) * rows_per h) where
  -- so many rows there are
  first_long : length (take (k - 0) rs) ≡ (x + 1) * rows_per h
  first_long = rw (sub-zero, k_is) (length-take-le ((x + 1) * rows_per h) rs lent)

  -- whose bits end where the huge frame does
  first_bits : length (take (k - 0) rs) * 64 ≡ (x + 1) * 2 ^ h
  first_bits = rw first_long (first_row H (x + 1))

  -- few enough for a word, and bit n among them
  pub past_asked : x < 1048576 → n < (x + 1) * 2 ^ h → (n < length (take (k - 0) rs) * 64) × (length (take (k - 0) rs) * 64 < 2 ^ 64)
  past_asked low l = rw first_bits (l, frames_word H (omega arith))

  -- the bits past N are the rest of theirs
  pub past_by_rows : n < (x + 1) * 2 ^ h → block_is true (take (k - 0) rs) n (length (take (k - 0) rs) * 64 - n) ≡ block_is true rs n ((x + 1) * 2 ^ h - n)
  past_by_rows l = rw (first_bits, sub-zero) (block_part true rs 0 k n ((x + 1) * 2 ^ h - n) (omega (arith, k_is, first_bits, first_long)) ∙ rw (zero-add n))
