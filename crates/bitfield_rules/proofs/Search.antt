-- The search, place by place, as the code makes it: from the start row on, or from the group that holds it, wrapping. Assumes nothing.
use mathlib.Core.Path.{◌≡◌, sym, ap, ◌∙◌, subst}
use mathlib.Core.Bool.{Bool, true, false}
use mathlib.Core.List.{List}
use Prim.Native.Nat.{ℕ, ◌+◌, ◌-◌, ◌*◌, ◌/◌, ◌%◌, ◌^◌, ◌≤◌, ◌<◌}
use native.Mathlib.Decide.{dec_lt}
use native.Mathlib.Nat.{sub-add_cancel, mod-mod, mul-mod_left, div-one, div-add-mod', mul-one, zero-add, mul-le-mul_right, mul_assoc, add-mul, add-mul-div_right}
use native.Mathlib.Omega.{arith}
use lib.Bits.{bit_and}
use lib.Dec.{eqb}
use lib.Pow.{pow_pos, pow-add, shr_lt}
use lib.ListN.{length, get_or}
use borrow.Author.Tests.{eq-eqb, ne_eqb, le-leb, lt-ltb, le-ltb}
use Rattle.base.specs.Code.{or_else, out}
use Rattle.base.specs.Size.{Huge, rows_per}
use Rattle.base.specs.Bits.{bits_at, block_is, with_bits}
use Rattle.base.proofs.Rests.{mod_sum, mod_rows}
use Rattle.base.proofs.Walks.{first_is, first_never}
use Rattle.base.proofs.Sizes.{rows_frames, pow_divides, blocks_wrap, kept}
use Rattle.base.proofs.Rows.{block_row}
use Rattle.bitfield_rules.specs.Calls.{Placed}
use Rattle.bitfield_rules.specs.Calls.{placed, order_code, group_rows, visited, passed, first_zeros, set_first_zeros}

-- whether the place that is visited after j others is clear
abbrev pub clear_at : ℕ → List ℕ → ℕ → ℕ → ℕ → Bool
clear_at h rows start o j = block_is false rows (visited h start o j) (2 ^ o)

-- none of the first k places is clear
abbrev pub NoneOf : ℕ → List ℕ → ℕ → ℕ → ℕ → Type 0
NoneOf h rows start o k = (j : ℕ) → j < k → clear_at h rows start o j ≡ false

-- ---- from places to the answer
module _ (h : ℕ) (rows : List ℕ) (start o : ℕ) (long : length rows ≡ rows_per h) (low : o ≤ h) where
  unrefused : order_code h (length rows) o ≡ 0
  unfolding or_else
  unrefused = rw (eq-eqb (length rows) (rows_per h) long, le-leb o h low)

  -- a place that is clear, with none before it, is the answer
  pub answer_found : (j : ℕ) → j < 2 ^ (h - o) → NoneOf h rows start o j → clear_at h rows start o j ≡ true → placed 0 (visited h start o j) ≡ first_zeros h rows start o
  unfolding first_zeros passed
  answer_found j l none hit =
      let e : passed h rows start o ≡ j = first_is (clear_at h rows start o) (2 ^ (h - o)) 0 j (omega arith) (omega arith) hit (λ k _ c. none k c) in
      rw (eq-eqb (order_code h (length rows) o) 0 unrefused, e, lt-ltb j (2 ^ (h - o)) l)

  -- where no place is clear, the answer is 7
  pub answer_missed : NoneOf h rows start o (2 ^ (h - o)) → placed 7 0 ≡ first_zeros h rows start o
  unfolding first_zeros passed
  answer_missed none =
      let e : passed h rows start o ≡ 2 ^ (h - o) = first_never (clear_at h rows start o) (2 ^ (h - o)) 0 (λ k _ c. none k (omega arith)) ∙ zero-add (2 ^ (h - o)) in
      rw (eq-eqb (order_code h (length rows) o) 0 unrefused, e, le-ltb (2 ^ (h - o)) (2 ^ (h - o)) (omega arith))

-- ---- from the search to the store
module _ (h : ℕ) (rows : List ℕ) (start o : ℕ) {a : Placed} (is : a ≡ first_zeros h rows start o) where
  pub search_stores : a.code ≡ 0 → {after : List ℕ} → after ≡ with_bits true rows a.place (a.place + 2 ^ o) → out a after ≡ set_first_zeros h rows start o
  unfolding set_first_zeros
  search_stores z e = rw (e, ← is, eq-eqb a.code 0 z)

  pub search_stores_nothing : (a.code ≡ 0 → ⊥) → out a rows ≡ set_first_zeros h rows start o
  unfolding set_first_zeros
  search_stores_nothing n = rw (← is, ne_eqb a.code 0 n)

-- a start row counts modulo the rows
pub start_mod : (h : ℕ) (rows : List ℕ) (start o : ℕ) → first_zeros h rows (start % rows_per h) o ≡ first_zeros h rows start o
unfolding first_zeros passed
start_mod h rows start o = simp (mod-mod start (rows_per h))

-- ---- to order 6: row by row

-- the places of all rows are all places
pub all_places : {h : ℕ} (o : ℕ) → Huge h → o ≤ 6 → rows_per h * 2 ^ (6 - o) ≡ 2 ^ (h - o)
all_places {h} o H l =
    let low = H.low in
    let e : h - 6 + (6 - o) ≡ h - o = omega arith in
    sym (pow-add 2 (h - 6) (6 - o)) ∙ ap (λ (k : ℕ). 2 ^ k) e

module _ {h : ℕ} (H : Huge h) (rows : List ℕ) (start o : ℕ) (l6 : o ≤ 6) where
  -- place k of the row that is visited after t others
  place_in : (t k : ℕ) → k < 2 ^ (6 - o) → visited h start o (t * 2 ^ (6 - o) + k) ≡ (start + t) % rows_per h * 64 + k * 2 ^ o
  place_in t k l =
      let full = pow_divides o 6 l6 in
      let fit : (k + 1) * 2 ^ o ≤ 2 ^ (6 - o) * 2 ^ o = mul-le-mul_right (2 ^ o) (omega arith) in
      let pos : 0 < rows_per h = pow_pos (h - 6) in
      let p = pow_pos o in
      let small : k * 2 ^ o < 64 = omega arith in
      let w : (t * 2 ^ (6 - o) + k) * 2 ^ o ≡ t * 64 + k * 2 ^ o = add-mul (t * 2 ^ (6 - o)) k (2 ^ o) ∙ ap (λ (x : ℕ). x + k * 2 ^ o) (mul_assoc t (2 ^ (6 - o)) (2 ^ o) ∙ ap (λ (x : ℕ). t * x) full) in
      let s : start % rows_per h * 64 + (t * 64 + k * 2 ^ o) ≡ (start % rows_per h + t) * 64 + k * 2 ^ o = omega arith in
      let one : o - 6 ≡ 0 = omega arith in
      rw (one, div-one, mul-one, w, s, rows_frames H)
      (mod_rows (start % rows_per h + t) (k * 2 ^ o) (rows_per h) small pos ∙ ap (λ (x : ℕ). x * 64 + k * 2 ^ o) (mod_sum start t (rows_per h)))

  -- is clear where its bits in that row are
  clear_in : (t k : ℕ) → k < 2 ^ (6 - o) → clear_at h rows start o (t * 2 ^ (6 - o) + k) ≡ eqb (bits_at (get_or rows ((start + t) % rows_per h) 0) (k * 2 ^ o) (2 ^ o)) 0
  clear_in t k l =
      let full = pow_divides o 6 l6 in
      let fit : (k + 1) * 2 ^ o ≤ 2 ^ (6 - o) * 2 ^ o = mul-le-mul_right (2 ^ o) (omega arith) in
      let p = pow_pos o in
      let i = (start + t) % rows_per h in
      let small : k * 2 ^ o < 64 = omega arith in
      let row : ((start + t) % rows_per h * 64 + k * 2 ^ o) / 64 ≡ (start + t) % rows_per h = omega arith in
      let bit : ((start + t) % rows_per h * 64 + k * 2 ^ o) % 64 ≡ k * 2 ^ o = omega arith in
      ap (λ (q : ℕ). block_is false rows q (2 ^ o)) (place_in t k l)
      ∙ block_row false rows (i * 64 + k * 2 ^ o) (2 ^ o) (rw bit (omega arith)) ∙ rw (row, bit)

  -- a row of whose places below p none is clear, after rows that have none
  module _ (t p : ℕ) (none : NoneOf h rows start o (t * 2 ^ (6 - o))) (high : p ≤ 64)
      (least : (q : ℕ) → q % 2 ^ o ≡ 0 → q < p → bits_at (get_or rows ((start + t) % rows_per h) 0) q (2 ^ o) ≡ 0 → ⊥) where
    below : (k : ℕ) → k < 2 ^ (6 - o) → k * 2 ^ o < p → clear_at h rows start o (t * 2 ^ (6 - o) + k) ≡ false
    below k l c = clear_in t k l ∙ ne_eqb _ _ (least (k * 2 ^ o) (mul-mod_left k (2 ^ o)) c)

    passed_below : (n : ℕ) → n ≤ 2 ^ (6 - o) → n * 2 ^ o ≤ p → NoneOf h rows start o (t * 2 ^ (6 - o) + n)
    passed_below n l c j a = elim (dec_lt j (t * 2 ^ (6 - o))) [
      | yes b ↦ none j b
      | no b ↦ at (j - t * 2 ^ (6 - o)) (omega arith) (omega arith)
    ]
      where
        at : (k : ℕ) → j ≡ t * 2 ^ (6 - o) + k → k < n → clear_at h rows start o j ≡ false
        at k e q =
            let m : (k + 1) * 2 ^ o ≤ n * 2 ^ o = mul-le-mul_right (2 ^ o) (omega arith) in
            let z = pow_pos o in
            ap (clear_at h rows start o) e ∙ below k (omega arith) (omega arith)

    -- such a row that is all passed
    pub row_passed : p ≡ 64 → NoneOf h rows start o ((t + 1) * 2 ^ (6 - o))
    row_passed e =
        let s : (t + 1) * 2 ^ (6 - o) ≡ t * 2 ^ (6 - o) + 2 ^ (6 - o) = omega arith in
        rw s (passed_below (2 ^ (6 - o)) (omega arith) (omega (arith, pow_divides o 6 l6)))

    -- such a row with a clear block at p
    pub row_found : length rows ≡ rows_per h → t < rows_per h → p < 64 → p % 2 ^ o ≡ 0 → bits_at (get_or rows ((start + t) % rows_per h) 0) p (2 ^ o) ≡ 0
        → placed 0 ((start + t) % rows_per h * 64 + p) ≡ first_zeros h rows start o
    row_found long inside low even clear =
        let full = pow_divides o 6 l6 in
        let low9 = H.low in
        let k = p / 2 ^ o in
        let back : p / 2 ^ o * 2 ^ o ≡ p = omega (arith, div-add-mod' p (2 ^ o)) in
        let lk : p / 2 ^ o < 2 ^ (6 - o) = shr_lt (6 - o) o (subst (λ (x : ℕ). p < 2 ^ x) (sym (sub-add_cancel l6)) low) in
        let le : (t + 1) * 2 ^ (6 - o) ≤ rows_per h * 2 ^ (6 - o) = mul-le-mul_right (2 ^ (6 - o)) (omega arith) in
        let lj : t * 2 ^ (6 - o) + k < 2 ^ (h - o) = omega (arith, all_places o H l6) in
        let at : visited h start o (t * 2 ^ (6 - o) + k) ≡ (start + t) % rows_per h * 64 + p = place_in t k lk ∙ ap (λ (x : ℕ). (start + t) % rows_per h * 64 + x) back in
        ap (placed 0) (sym at)
        ∙ answer_found h rows start o long (omega arith) (t * 2 ^ (6 - o) + k) lj (passed_below k (omega arith) (omega arith))
        (clear_in t k lk ∙ eq-eqb _ _ (ap (λ (x : ℕ). bits_at (get_or rows ((start + t) % rows_per h) 0) x (2 ^ o)) back ∙ clear))

-- ---- above order 6: group by group

module _ (h o : ℕ) (l6 : 6 < o) (lh : o ≤ h) where
  -- the rows of all groups are all rows
  pub all_groups : 2 ^ (h - o) * group_rows o ≡ rows_per h
  all_groups = let e : h - 6 - (o - 6) ≡ h - o = omega arith in rw (← e) (pow_divides (o - 6) (h - 6) (omega arith))

  -- the group that is visited after k others begins with the row k groups on from the start row, rounded down to a whole group and wrapped: one mask does both
  pub group_at : (start k row : ℕ) {rows group : ℕ} → rows ≡ rows_per h → group ≡ group_rows o → row ≡ start % rows_per h + k * group_rows o
      → visited h start o k ≡ bit_and row (rows - group) * 64
  group_at start k row all one is =
      let s = start % rows_per h in
      let g = s / group_rows o in
      let size : group_rows o * 64 ≡ 2 ^ o = pow_divides 6 o (omega arith) in
      let e : g * group_rows o * 64 ≡ g * 2 ^ o = mul_assoc g (group_rows o) 64 ∙ ap (λ (x : ℕ). g * x) size in
      let less : h - 6 - (o - 6) ≡ h - o = omega arith in
      let number : row / group_rows o ≡ g + k = ap (λ (x : ℕ). x / group_rows o) is ∙ add-mul-div_right s k (pow_pos (o - 6)) in
      let masked : bit_and row (rows_per h - group_rows o) ≡ (g + k) % 2 ^ (h - o) * group_rows o =
      kept row (o - 6) (h - 6) (omega arith) ∙ ap (λ (x : ℕ). row / group_rows o % 2 ^ x * group_rows o) less ∙ ap (λ (x : ℕ). x % 2 ^ (h - o) * group_rows o) number in
      rw (all, one, e, masked)
      (ap (λ (x : ℕ). x % 2 ^ h) (sym (add-mul g k (2 ^ o))) ∙ blocks_wrap (g + k) o h lh ∙ sym (mul_assoc ((g + k) % 2 ^ (h - o)) (group_rows o) 64 ∙ ap (λ (x : ℕ). (g + k) % 2 ^ (h - o) * x) size))
