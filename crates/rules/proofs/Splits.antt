-- A block below the huge order given back to a huge frame with the mark: all its bits are set, and then the block's cleared. Assumes nothing.
use mathlib.Core.Path.{◌≡◌, sym, ap, ◌∙◌}
use mathlib.Core.Bool.{true, false}
use mathlib.Core.List.{List}
use Prim.Native.Nat.{ℕ, ◌+◌, ◌*◌, ◌/◌, ◌%◌, ◌^◌, ◌≤◌, ◌<◌}
use native.Mathlib.Nat.{div-mul-le_self}
use native.Mathlib.Omega.{arith}
use lib.ListN.{length}
use Rattle.base.specs.Bits.{bit_is, with_bits}
use Rattle.base.specs.Size.{Huge}
use Rattle.base.proofs.Walks.{count_none}
use Rattle.base.proofs.Writes.{length_with}
use Rattle.base.proofs.Frames.{bit_written, bit_kept}
use Rattle.rules.specs.Numbers.{mark, huge_of}
use Rattle.rules.specs.State.{Mem, entry_of, clear_of, with_rows, with_entry}
use Rattle.rules.proofs.Present.{huge_is, huge_ends, block_within, block_huge}
use Rattle.rules.specs.Consistent.{ConsistentIn, free}
use Rattle.rules.proofs.Effects.{Gave, Beside}
use Rattle.rules.proofs.Frees.{held_mark}
use Rattle.rules.proofs.Blocks.{block_present, block_lent, marked_held, is_marked}
use Rattle.rules.proofs.Rewrites.{Rewritten, rewritten_twice, run_rewritten, run_clears, Renewed, renewed}
use Rattle.rules.proofs.Flips.{gave}

-- all bits of the block's huge frame set
abbrev filled : ℕ → List ℕ → ℕ → List ℕ
filled h rows f = with_bits true rows (huge_of h f * 2 ^ h) (huge_of h f * 2 ^ h + 2 ^ h)

-- then the block's clear
abbrev pub split : ℕ → Mem → ℕ → ℕ → Mem
split h m f o = with_entry (with_rows m (with_bits false (filled h m.rows f) f (f + 2 ^ o))) (huge_of h f) (2 ^ o)

module _ {h n t : ℕ} {m : Mem} {y : ℕ} (H : Huge h) (c : ConsistentIn h n t m y) (f o : ℕ) (low : o < h) (even : f % 2 ^ o ≡ 0) (ends : f + 2 ^ o ≤ n)
    (own : huge_of h f / t ≡ y) (q : entry_of m.entries (huge_of h f) ≡ mark) where
  abbrev full : List ℕ
  full = filled h m.rows f

  lent : (huge_of h f + 1) * 2 ^ h ≤ length m.rows * 64
  lent = block_lent c f o low even ends H

  full_long : length full ≡ length m.rows
  full_long = length_with true m.rows (huge_of h f * 2 ^ h) (huge_of h f * 2 ^ h + 2 ^ h)

  full_set : (g : ℕ) → huge_of h g ≡ huge_of h f → bit_is false full g ≡ false
  full_set g k =
      let within = huge_ends h g (huge_of h f) k in
      bit_written true m.rows (huge_of h f * 2 ^ h) (huge_of h f * 2 ^ h + 2 ^ h) (omega arith) false g (omega (arith, lent, within.1)) within.0 (omega (arith, within.1))

  full_clears : clear_of h full (huge_of h f) ≡ 0
  full_clears = count_none (bit_is false full) (2 ^ h) (huge_of h f * 2 ^ h) (λ g a u. full_set g (huge_is h (huge_of h f) g a (omega arith)))

  split_clears : 2 ^ o ≡ clear_of h (split h m f o).rows (huge_of h f)
  split_clears =
      omega (
        arith,
        run_clears h false full (huge_of h f) f (2 ^ o) (div-mul-le_self f (2 ^ h)) (block_within f o low even) (omega (arith, lent, full_long)),
        full_clears,
        count_none (bit_is false full) (2 ^ o) f (λ g a u. full_set g (block_huge f o low even g a u)),
      )

  split_rewritten : Rewritten h m.rows (split h m f o).rows (huge_of h f)
  split_rewritten =
      let v = run_rewritten h true m.rows (huge_of h f) (huge_of h f * 2 ^ h) (2 ^ h) (omega arith) (omega arith) c.fits.rows in
      rewritten_twice v (run_rewritten h false full (huge_of h f) f (2 ^ o) (div-mul-le_self f (2 ^ h)) (block_within f o low even) v.wide)

  split_renewed : Renewed h n t m (split h m f o) (huge_of h f)
  split_renewed =
      let here = block_present c f o low even ends in
      renewed H c (huge_of h f) here (split h m f o).rows split_rewritten (2 ^ o) split_clears
      (λ g a u. absurd (omega (arith, (is_marked c H (huge_of h f) own here q).below)))

  split_beside : (g : ℕ) → huge_of h g ≡ huge_of h f → g < n → Beside f o g → bit_is false (split h m f o).rows g ≡ free h n m g
  split_beside g k l s =
      bit_kept false full f (f + 2 ^ o) (omega arith) false g (omega (arith, lent, full_long, (huge_ends h g (huge_of h f) k).1)) s
      ∙ full_set g k ∙ sym (held_mark h n m g (ap (entry_of m.entries) k ∙ q))

  pub split_gave : Gave h n t m (split h m f o) f o
  split_gave =
      gave f o low even ends split_renewed split_beside (marked_held c f o low even ends q)
      (λ g l u. bit_written false full f (f + 2 ^ o) (omega arith) false g (omega (arith, lent, full_long, block_within f o low even)) l u)
