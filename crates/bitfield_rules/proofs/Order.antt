-- The order of a search: it visits each aligned place of the huge frame once, by its distance behind the origin. Assumes nothing.
use mathlib.Core.Path.{◌≡◌, sym, ap, ◌∙◌, subst}
use Prim.Native.Nat.{ℕ, ◌+◌, ◌-◌, ◌*◌, ◌/◌, ◌%◌, ◌^◌, ◌≤◌, ◌<◌}
use native.Mathlib.Nat.{sub-add_cancel, mod-mod, mod-eq_of_lt, mul-add-mod_self_right, mul-mod_left, div-add-mod', mul-le-mul_right, mul-div_cancel, add-mul}
use native.Mathlib.Omega.{arith}
use lib.Pow.{pow_pos, shr_lt}
use Rattle.base.specs.Size.{Huge, rows_per}
use Rattle.base.proofs.Rings.{steps_rest, steps_low, steps_ahead, ahead_steps}
use Rattle.base.proofs.Sizes.{pow_divides, rows_wrap, rest_by_less, place_ends, blocks_wrap, block_wraps, rows_rounded}
use Rattle.bitfield_rules.specs.Calls.{origin, visited, distance}

module _ {h : ℕ} (H : Huge h) (start o : ℕ) (lh : o ≤ h) where
  -- the origin's first place is that of the block which holds the start row
  pub origin_block : origin h start o * 64 ≡ start * 64 / 2 ^ o * 2 ^ o % 2 ^ h
  origin_block = rows_rounded (start % rows_per h) o ∙ rw (rows_wrap H start) (block_wraps (start * 64) o h lh)

  -- so it is aligned
  origin_even : origin h start o * 64 ≡ origin h start o * 64 / 2 ^ o * 2 ^ o
  origin_even =
      let b = start * 64 / 2 ^ o % 2 ^ (h - o) in
      let e : origin h start o * 64 ≡ b * 2 ^ o = origin_block ∙ blocks_wrap (start * 64 / 2 ^ o) o h lh in
      e ∙ sym (ap (λ (x : ℕ). x / 2 ^ o * 2 ^ o) e ∙ ap (λ (x : ℕ). x * 2 ^ o) (mul-div_cancel b (pow_pos o)))

  -- each step from it is aligned
  step_even : (j : ℕ) → (origin h start o * 64 + j * 2 ^ o) % 2 ^ o ≡ 0
  step_even j =
      ap (λ (x : ℕ). (x + j * 2 ^ o) % 2 ^ o) origin_even
      ∙ ap (λ (x : ℕ). x % 2 ^ o) (sym (add-mul (origin h start o * 64 / 2 ^ o) j (2 ^ o))) ∙ mul-mod_left (origin h start o * 64 / 2 ^ o + j) (2 ^ o)

  -- so a place that is visited is aligned, and its block lies in the huge frame
  pub visited_aligned : (j : ℕ) → visited h start o j % 2 ^ o ≡ 0
  visited_aligned j = rest_by_less (origin h start o * 64 + j * 2 ^ o) o h lh ∙ step_even j

  pub visited_ends : (j : ℕ) → visited h start o j + 2 ^ o ≤ 2 ^ h
  visited_ends j = place_ends (origin h start o * 64 + j * 2 ^ o) o h lh (step_even j)

  -- the j-th place lies j blocks behind the origin
  pub distance_visited : (j : ℕ) → j < 2 ^ (h - o) → distance h start o (visited h start o j) ≡ j * 2 ^ o
  distance_visited j l =
      let fit : (j + 1) * 2 ^ o ≤ 2 ^ (h - o) * 2 ^ o = mul-le-mul_right (2 ^ o) (omega arith) in
      let s = origin h start o * 64 in
      steps_rest (2 ^ h) s (visited h start o j) (s + j * 2 ^ o) (mod-mod (s + j * 2 ^ o) (2 ^ h)) ∙ steps_ahead (2 ^ h) s (pow_pos h) (j * 2 ^ o)
      ∙ mod-eq_of_lt (omega (arith, pow_divides o h lh, pow_pos o))

  -- each aligned place is visited, after as many others as there are blocks in its distance
  module _ (p : ℕ) (even : p % 2 ^ o ≡ 0) (low : p < 2 ^ h) where
    distance_even : distance h start o p / 2 ^ o * 2 ^ o ≡ distance h start o p
    distance_even =
        let s = origin h start o * 64 in
        let d = distance h start o p in
        let z : d % 2 ^ o ≡ 0 =
        sym (mul-add-mod_self_right (s / 2 ^ o) (2 ^ o) d) ∙ ap (λ (x : ℕ). (x + d) % 2 ^ o) (sym origin_even) ∙ sym (rest_by_less (s + d) o h lh)
        ∙ ap (λ (x : ℕ). x % 2 ^ o) (ahead_steps (2 ^ h) s (pow_pos h) p) ∙ rest_by_less p o h lh ∙ even in
        omega (arith, div-add-mod' d (2 ^ o))

    pub turn_low : distance h start o p / 2 ^ o < 2 ^ (h - o)
    turn_low = shr_lt (h - o) o (subst (λ (k : ℕ). distance h start o p < 2 ^ k) (sym (sub-add_cancel lh)) (steps_low (2 ^ h) (origin h start o * 64) (pow_pos h) p))

    pub visited_at : visited h start o (distance h start o p / 2 ^ o) ≡ p
    visited_at = ap (λ (x : ℕ). (origin h start o * 64 + x) % 2 ^ h) distance_even ∙ ahead_steps (2 ^ h) (origin h start o * 64) (pow_pos h) p ∙ mod-eq_of_lt low
