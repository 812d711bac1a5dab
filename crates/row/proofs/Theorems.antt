-- A term of the theorem. Assumes nothing.
use Rattle.std.proofs.Common.{◌≡◌, ℕ, ◌+◌, ◌-◌, ◌^◌, ◌<◌, ◌≤◌, true, false, eqb, ◌⊎◌, sym, refl, ◌∙◌, inl, inr, ⊎_elim, add-zero, arith, pow_pos, le-ltb, lt-ltb, eq-eqb, eqb-true, le-leb}
use native.Mathlib.Decide.{dec_lt}
use borrow.Author.Tests.{lt-leb}
use Rattle.base.specs.Walk.{all}
use Rattle.base.specs.Bits.{bits_at, overlay}
use Rattle.base.proofs.Walks.{all_each, all_of}
use Rattle.base.proofs.Rows.{solid_test}
use Rattle.base.proofs.Frames.{overlay_below, overlay_in, overlay_above}
use Rattle.row.specs.Row.{numbers, lowest, first_zeros}
use Rattle.row.specs.Means.{Clear, LowestTaken, RowSearchMeans}
use Rattle.row.proofs.Laws.{lowest_clear, lowest_least}

-- ---- a block of the row is 0 as a number exactly if each of its bits is

module _ (v p s : ℕ) where
  walked : all (λ j. eqb (bits_at v (p + j) 1) 0) s 0 ≡ eqb (bits_at v p s) 0
  walked = solid_test false v p s 0 ∙ rw (add-zero p)

  each_clear : bits_at v p s ≡ 0 → (q : ℕ) → p ≤ q → q < p + s → bits_at v q 1 ≡ 0
  each_clear z q lo hi =
      let e : p + (q - p) ≡ q = omega arith in
      rw e at (eqb-true (bits_at v (p + (q - p)) 1) 0 (all_each (λ j. eqb (bits_at v (p + j) 1) 0) s 0 (walked ∙ eq-eqb _ _ z) (q - p) (omega arith) (omega arith)))

  all_clear : ((q : ℕ) → p ≤ q → q < p + s → bits_at v q 1 ≡ 0) → bits_at v p s ≡ 0
  all_clear each = eqb-true _ _ (sym walked ∙ all_of (λ j. eqb (bits_at v (p + j) 1) 0) s 0 (λ j _ l. eq-eqb _ _ (each (p + j) (omega arith) (omega arith))))

-- ---- the answer

module _ (v o : ℕ) where
  -- no aligned block below the lowest place is clear
  none_below : (q : ℕ) → Clear v o q → lowest o v ≤ q
  none_below q c = elim (dec_lt q (lowest o v)) [
    | yes l ↦ absurd (lowest_least o v q c.aligned l (all_clear v q (2 ^ o) c.clear))
    | no l ↦ omega arith
  ]

  -- the lowest place, and the row with its block set
  taken : o ≤ 6 → lowest o v < 64 → LowestTaken v o (lowest o v) (overlay true v (lowest o v) (lowest o v + 2 ^ o))
  taken low l =
      let p = lowest o v in
      let z = lowest_clear o v low l in
      record {
        block = record { aligned = z.aligned; within = z.within; clear = each_clear v p (2 ^ o) z.bits };
        least = none_below;
        set = overlay_in true v p (p + 2 ^ o) (omega arith);
        kept = λ q. ⊎_elim (overlay_below true v p (p + 2 ^ o) (omega arith) q) (overlay_above true v p (p + 2 ^ o) (omega arith) q);
      }

  searches : o ≤ 6
      → ((first_zeros v o ≡ numbers 7 0 0) × ((q : ℕ) → Clear v o q → ⊥)) ⊎ (((first_zeros v o).code ≡ 0) × LowestTaken v o (first_zeros v o).place (first_zeros v o).row)
  unfolding first_zeros
  searches low = rw (le-leb o 6 low) (elim (dec_lt (lowest o v) 64) [
    | yes l ↦ rw (lt-ltb (lowest o v) 64 l) (inr (refl, taken low l))
    | no l ↦ rw (le-ltb (lowest o v) 64 (omega arith)) (inl (refl, λ q c. omega (arith, none_below q c, c.within, pow_pos o)))
  ])

  refuses : 6 < o → first_zeros v o ≡ numbers 4 0 0
  unfolding first_zeros
  refuses high = rw (lt-leb o 6 high)

pub row_search_means : RowSearchMeans
row_search_means v o = record { searches = searches v o; refuses = refuses v o }
