-- A block of the lent rows as the code reaches it: by a mask of one row to order 6, and above as whole rows. Assumes nothing.
use mathlib.Core.Path.{◌≡◌, sym, ap₂, ◌∙◌}
use mathlib.Core.Bool.{Bool}
use mathlib.Core.List.{List, ◌++◌}
use Prim.Native.Nat.{ℕ, ◌+◌, ◌-◌, ◌*◌, ◌/◌, ◌%◌, ◌^◌, ◌≤◌, ◌<◌}
use native.Mathlib.Omega.{arith}
use lib.Bits.{bit_and}
use lib.Dec.{eqb}
use lib.ListN.{length, get_or, take, drop, replicate, length-drop}
use lib.Seq.{length-take-le, get_or-take, get_or-drop, drop-drop}
use Rattle.base.specs.Walk.{all}
use Rattle.base.specs.Bits.{solid, block_is, with_bits}
use Rattle.base.proofs.Walks.{all_same}
use Rattle.base.proofs.Masks.{block, test_bits, bits_test}
use Rattle.base.proofs.Rows.{row_fits, rows_size, rows_start, same_test, block_row, block_rows}
use Rattle.base.proofs.Writes.{with_rows}
use Rattle.bits.specs.Block.{Block}

-- the rows of a block above order 6
abbrev pub rows_at : List ℕ → ℕ → ℕ → List ℕ
rows_at rows p o = take (2 ^ (o - 6)) (drop (p / 64) rows)

module _ {rows : List ℕ} {p o : ℕ} (k : Block rows p o) where
  -- to order 6 a block ends in the row where it starts
  pub row_end : o ≤ 6 → p % 64 + 2 ^ o ≤ 64
  row_end h = row_fits p o h k.aligned

  -- and is all b exactly if the masked row has b's bits there
  pub block_by_mask : (b : Bool) → o ≤ 6 → eqb (bit_and (get_or rows (p / 64) 0) (block (p % 64) (2 ^ o))) (solid b (2 ^ o) * 2 ^ (p % 64)) ≡ block_is b rows p (2 ^ o)
  block_by_mask b h =
      let v = get_or rows (p / 64) 0 in
      same_test _ _ _ _ (test_bits b v (p % 64) (2 ^ o)) (bits_test b v (p % 64) (2 ^ o)) ∙ sym (block_row b rows p (2 ^ o) (row_end h))

  -- above it ends with one of the rows
  pub rows_end : 6 < o → p / 64 + 2 ^ (o - 6) ≤ length rows
  rows_end h = omega (arith, rows_size o (omega arith))

  module _ (b : Bool) (h : 6 < o) (fits : (j : ℕ) → get_or rows j 0 < 2 ^ 64) where
    -- the code's part holds as many rows as the block has
    rows_many : length (rows_at rows p o) ≡ 2 ^ (o - 6)
    rows_many = length-take-le (2 ^ (o - 6)) (drop (p / 64) rows) (omega (arith, length-drop (p / 64) rows, rows_end h))

    -- the block starts where its first row does
    starts : p / 64 * 64 ≡ p
    starts = sym (rows_start p o (omega arith) k.aligned)

    -- it is all b exactly if each of its rows is
    pub block_by_rows : all (λ j. eqb (get_or (rows_at rows p o) j 0) (solid b 64)) (length (rows_at rows p o)) 0 ≡ block_is b rows p (2 ^ o)
    block_by_rows =
        rw rows_many (all_same _ (λ j. eqb (get_or rows (p / 64 + j) 0) (solid b 64)) (2 ^ (o - 6)) 0 (λ j _ l. same j l))
        ∙ sym (block_rows b rows fits (p / 64) (2 ^ (o - 6))) ∙ ap₂ (block_is b rows) starts (sym (rows_size o (omega arith)))
      where
        -- row j of the part, among all the rows
        same : (j : ℕ) → j < 0 + 2 ^ (o - 6) → eqb (get_or (rows_at rows p o) j 0) (solid b 64) ≡ eqb (get_or rows (p / 64 + j) 0) (solid b 64)
        same j l =
            let below : j < 2 ^ (o - 6) = omega arith in
            rw (get_or-take, get_or-drop)

    -- it is written by solid rows put in their place
    pub with_by_rows : take (p / 64) rows ++ (replicate (length (rows_at rows p o)) (solid b 64) ++ drop (2 ^ (o - 6)) (drop (p / 64) rows)) ≡ with_bits b rows p (p + 2 ^ o)
    with_by_rows =
        let ends : (p / 64 + 2 ^ (o - 6)) * 64 ≡ p + 2 ^ o = omega (arith, starts, rows_size o (omega arith)) in
        rw (rows_many, drop-drop) (sym (with_rows b rows (p / 64) (2 ^ (o - 6)) fits (rows_end h))) ∙ ap₂ (with_bits b rows) starts ends
