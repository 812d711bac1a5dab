-- The bits from a place on to the end of the rows, as the code reaches them: the first row's by a shift, and the other rows whole. Assumes nothing.
use mathlib.Core.Path.{◌≡◌, sym, ap, ap₂, ◌∙◌}
use mathlib.Core.Bool.{Bool, true, false}
use mathlib.Core.List.{List}
use Prim.Native.Nat.{ℕ, ◌+◌, ◌-◌, ◌*◌, ◌/◌, ◌%◌, ◌^◌, ◌<◌}
use native.Mathlib.Nat.{mod-eq_of_lt}
use native.Mathlib.Omega.{arith}
use lib.Dec.{eqb}
use lib.ListN.{length, get_or, take, drop, length-drop}
use lib.Pow.{shr_lt, high, ones_lt, ones_split}
use lib.Seq.{length-take-le, get_or-take, get_or-drop}
use borrow.Author.Tests.{eq-eqb, ne_eqb}
use Rattle.base.specs.Walk.{pick, all}
use Rattle.base.specs.Bits.{bits_at, block_is}
use Rattle.base.proofs.Walks.{all_same}
use Rattle.base.proofs.Rows.{block_parts, block_row, block_rows}

-- a row that is shifted down by k has 64 - k bits left
shifted_bits : (v k : ℕ) → v < 2 ^ 64 → k < 64 → bits_at v k (64 - k) ≡ v / 2 ^ k
shifted_bits v k l h =
    let w : 64 - k + k ≡ 64 = omega arith in
    mod-eq_of_lt (shr_lt (64 - k) k (rw w l))

-- which are all set in a row that is
shifted_ones : (k : ℕ) → k < 64 → (2 ^ 64 - 1) / 2 ^ k ≡ 2 ^ (64 - k) - 1
shifted_ones k h =
    let w : 64 - k + k ≡ 64 = omega arith in
    ap (λ (j : ℕ). (2 ^ j - 1) / 2 ^ k) (sym w) ∙ ap (λ (x : ℕ). x / 2 ^ k) (ones_split (64 - k) k) ∙ high (2 ^ (64 - k) - 1) k (ones_lt k)

-- the rows behind that of place p
abbrev pub behind : List ℕ → ℕ → List ℕ
behind rows p = take (length rows - (p / 64 + 1)) (drop (p / 64 + 1) rows)

module _ (rows : List ℕ) (p : ℕ) (inside : p < length rows * 64) (fits : (j : ℕ) → get_or rows j 0 < 2 ^ 64) where
  -- the bits of the place's own row
  first_row : block_is true rows p (64 - p % 64) ≡ eqb (get_or rows (p / 64) 0 / 2 ^ (p % 64)) ((2 ^ 64 - 1) / 2 ^ (p % 64))
  first_row =
      block_row true rows p (64 - p % 64) (omega arith)
      ∙ ap₂ eqb (shifted_bits (get_or rows (p / 64) 0) (p % 64) (fits (p / 64)) (omega arith)) (sym (shifted_ones (p % 64) (omega arith)))

  -- and those behind it
  rows_behind : all (λ j. eqb (get_or (behind rows p) j 0) (2 ^ 64 - 1)) (length (behind rows p)) 0 ≡ block_is true rows ((p / 64 + 1) * 64) ((length rows - (p / 64 + 1)) * 64)
  rows_behind =
      let many : length (behind rows p) ≡ length rows - (p / 64 + 1) = length-take-le _ _ (omega (arith, length-drop (p / 64 + 1) rows)) in
      rw many (all_same _ (λ j. eqb (get_or rows (p / 64 + 1 + j) 0) (2 ^ 64 - 1)) (length rows - (p / 64 + 1)) 0 (λ j _ l. same j l))
      ∙ sym (block_rows true rows fits (p / 64 + 1) (length rows - (p / 64 + 1)))
    where
      same : (j : ℕ) → j < 0 + (length rows - (p / 64 + 1)) → eqb (get_or (behind rows p) j 0) (2 ^ 64 - 1) ≡ eqb (get_or rows (p / 64 + 1 + j) 0) (2 ^ 64 - 1)
      same j l =
          let below : j < length rows - (p / 64 + 1) = omega arith in
          rw (get_or-take, get_or-drop)

  -- all of them
  in_two : block_is true rows p (length rows * 64 - p)
      ≡ pick (block_is true rows p (64 - p % 64)) (block_is true rows ((p / 64 + 1) * 64) ((length rows - (p / 64 + 1)) * 64)) false
  in_two =
      let size : length rows * 64 - p ≡ 64 - p % 64 + (length rows - (p / 64 + 1)) * 64 = omega arith in
      let next : p + (64 - p % 64) ≡ (p / 64 + 1) * 64 = omega arith in
      rw (size, ← next) (block_parts true rows p (64 - p % 64) ((length rows - (p / 64 + 1)) * 64))

  -- a clear bit in the place's own row is one of the rest
  pub rest_broken : (get_or rows (p / 64) 0 / 2 ^ (p % 64) ≡ (2 ^ 64 - 1) / 2 ^ (p % 64) → ⊥) → false ≡ block_is true rows p (length rows * 64 - p)
  rest_broken differs = sym (rw (in_two, first_row, ne_eqb _ _ differs))

  -- where it has none, the rest is set if the rows behind are
  pub rest_behind : {r : Bool} → get_or rows (p / 64) 0 / 2 ^ (p % 64) ≡ (2 ^ 64 - 1) / 2 ^ (p % 64)
      → r ≡ all (λ j. eqb (get_or (behind rows p) j 0) (2 ^ 64 - 1)) (length (behind rows p)) 0 → r ≡ block_is true rows p (length rows * 64 - p)
  rest_behind equal e = rw (in_two, first_row, eq-eqb _ _ equal) (e ∙ rows_behind)
