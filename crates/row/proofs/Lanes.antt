-- The words that mark the lowest clear lane, one for each way the code makes them. Assumes nothing.
use Rattle.std.proofs.Common.{◌≡◌, ℕ, zero, suc, ◌+◌, ◌-◌, ◌*◌, ◌/◌, ◌%◌, ◌^◌, ◌<◌, ◌≤◌, min, max, ◌⊎◌, sym, refl, ap, ◌∙◌, ap₂, inl, inr, ⊎_elim, mod-lt, zero-lt-suc, suc-mul, eq-zero-or-pos, add_comm, add-one, one-add, arith, pow_pos, pow-add, shr-shr}
use native.Mathlib.Decide.{dec_le}
use native.Mathlib.Nat.{div-div-eq-div-mul}
use lib.Arith.{digits_div}
use lib.Pow.{high, low, pow-lt, split, mod-mod-pow, mod-pow-add}
use lib.Bits.{bit_and, bit_or, and_mask, and_shr, and_step, and_mod, or_lt, or_shr, or_step, shifted_even}
use lib.Count.{count_trailing_zeros}
use Rattle.row.specs.Row.{lowest, units}
use Rattle.row.proofs.Marks.{Marks, none, free, held, lowest_marked}

-- i is x inverted, as a number of k bits
abbrev Inverted : ℕ → ℕ → ℕ → Type 0
Inverted k x i = i + x + 1 ≡ 2 ^ k

-- `!x` is x inverted
inverted : (k x : ℕ) → x < 2 ^ k → Inverted k x (2 ^ k - 1 - x)
inverted k x h = omega arith

-- one lane of w bits more is w bits more
lane_more : (w n : ℕ) → 2 ^ (suc n * w) ≡ 2 ^ (n * w) * 2 ^ w
lane_more w n = ap (λ (k : ℕ). 2 ^ k) (suc-mul n w) ∙ pow-add 2 (n * w) w

-- ---- order 0: the inverted row

-- an inverted bit is set where it was clear
bit_marks : (n v i : ℕ) → Inverted n v i → Marks 1 n v i
bit_marks zero v i e = none
bit_marks (suc n) v i e =
    ⊎_elim (λ (z : v % 2 ≡ 0). free z (omega arith))
    (λ (q : 0 < v % 2). held {k = i / 2} (λ z. omega arith) (omega arith) (bit_marks n (v / 2) (i / 2) (omega arith)))
    (eq-zero-or-pos (v % 2))

-- the trailing ones of a row end at its lowest clear bit
pub bit_law : (v : ℕ) → v < 2 ^ 64 → count_trailing_zeros 64 (2 ^ 64 - 1 - v) ≡ lowest 0 v
bit_law v h = lowest_marked 0 64 v _ (omega arith) refl (bit_marks 64 v _ (inverted 64 v h))

-- ---- order 1: the row ored with itself shifted by one, and with the upper bit of each pair, then inverted

-- what is inverted: of each of n pairs the upper bit is set, and the lower where either was
abbrev pairs : ℕ → ℕ → ℕ
pairs n v = bit_or (bit_or v (v / 2)) (units 2 n * 2)

-- the lowest pair, and the others
pairs_step : (n v : ℕ) → pairs (suc n) v ≡ pairs n (v / 4) * 4 + 2 + max (v % 2) (v / 2 % 2)
unfolding units
pairs_step n v =
    let y : ℕ = bit_or v (v / 2) in
    let low : y % 2 ≡ max (v % 2) (v / 2 % 2) = omega (arith, or_step v (v / 2)) in
    let quarter : y / 2 / 2 ≡ bit_or (v / 4) (v / 4 / 2) = div-div-eq-div-mul y 2 2 ∙ or_shr v (v / 2) 2 ∙ ap (bit_or (v / 4)) (omega arith) in
    let rest : units 2 (suc n) * 2 / 2 / 2 ≡ units 2 n * 2 = omega arith in
    let halves : bit_or (y / 2 / 2) (units 2 (suc n) * 2 / 2 / 2) ≡ pairs n (v / 4) = ap₂ bit_or quarter rest in
    omega (arith, or_step y (units 2 (suc n) * 2), or_step (y / 2) (units 2 (suc n) * 2 / 2))

-- inverted, the lower bit of a pair is set where both were clear, and no upper bit is
pair_marks : (n v i : ℕ) → Inverted (n * 2) (pairs n v) i → Marks 2 n v i
pair_marks zero v i e = none
pair_marks (suc n) v i e =
    let q = lane_more 2 n in
    let s = pairs_step n v in
    let d = div-div-eq-div-mul v 2 2 in
    ⊎_elim
    (λ (z : v % 4 ≡ 0).
    let m : max (v % 2) (v / 2 % 2) ≡ 0 = omega arith in
    free z (omega arith))
    (λ (p : 0 < v % 4).
    let m : max (v % 2) (v / 2 % 2) ≡ 1 = omega arith in
    held {k = i / 4} (λ z. omega arith) (omega arith) (pair_marks n (v / 4) (i / 4) (omega arith)))
    (eq-zero-or-pos (v % 4))

-- the trailing zeros end at the lowest clear pair
pub pair_law : (v : ℕ) → v < 2 ^ 64 → count_trailing_zeros 64 (2 ^ 64 - 1 - bit_or (bit_or v (v / 2)) 0xaaaa_aaaa_aaaa_aaaa) ≡ lowest 1 v
unfolding units
pair_law v h =
    lowest_marked 1 32 v _ (omega arith) refl
    (pair_marks 32 v _ (inverted 64 (pairs 32 v) (or_lt 64 (bit_or v (v / 2)) (units 2 32 * 2) (or_lt 64 v (v / 2) h (omega arith)) (omega arith))))

-- ---- orders 2, 3 and 4: the lowest bit of each lane taken off, with a borrow

-- one number written in two ways to the base p, s being a digit and r below 2 p: r is that digit, or carries one into x
carries : (p x r y s : ℕ) → x * p + r ≡ y * p + s → r < p + p → s < p → ((x ≡ y) × (r ≡ s)) ⊎ ((suc x ≡ y) × (r ≡ p + s))
carries p x r y s e hr hs =
    elim (dec_le p r) [
      | yes h ↦
          let q : suc x ≡ y = same (suc x) (r - p) (omega arith) (omega arith) in
          inr (q, omega (arith, ap (λ (k : ℕ). k * p) q))
      | no h ↦
          let q : x ≡ y = same x r e (omega arith) in
          inl (q, omega (arith, ap (λ (k : ℕ). k * p) q))
    ]
  where
    same : (z t : ℕ) → z * p + t ≡ y * p + s → t < p → z ≡ y
    same z t f ht = sym (digits_div z ht) ∙ ap (λ (k : ℕ). k / p) f ∙ digits_div y hs

-- an inverted number is inverted in its lowest lane, and in the others
inverted_lane : (w n v i : ℕ) → Inverted (suc n * w) v i → Inverted w (v % 2 ^ w) (i % 2 ^ w) × Inverted (n * w) (v / 2 ^ w) (i / 2 ^ w)
inverted_lane w n v i e =
    let sv = split v w in
    let si = split i w in
    let lv = mod-lt v (pow_pos w) in
    let li = mod-lt i (pow_pos w) in
    ⊎_elim (λ a. absurd (omega arith)) (λ a. (omega arith, omega arith))
    (carries (2 ^ w) (i / 2 ^ w + v / 2 ^ w) (i % 2 ^ w + v % 2 ^ w + 1) (2 ^ (n * w)) 0 (omega (arith, rw lane_more at e)) (omega arith) (omega arith))

-- d is v less the lowest bit of each of n lanes of w bits, with c borrowed from above the lanes
abbrev Lessened : ℕ → ℕ → ℕ → ℕ → ℕ → Type 0
Lessened w n v c d = d + units w n ≡ c * 2 ^ (n * w) + v

-- the lowest lane is one less, and so are the others; or it was zero, and its borrow leaves all ones
lessened_lane : (w n v c d : ℕ) → Lessened w (suc n) v c d
    → ((d % 2 ^ w + 1 ≡ v % 2 ^ w) × Lessened w n (v / 2 ^ w) c (d / 2 ^ w)) ⊎ ((v % 2 ^ w ≡ 0) × (d % 2 ^ w + 1 ≡ 2 ^ w))
unfolding units
lessened_lane w n v c d e =
    let sv = split v w in
    let sd = split d w in
    let lv = mod-lt v (pow_pos w) in
    let ld = mod-lt d (pow_pos w) in
    ⊎_elim (λ a. inl (a.1, a.0)) (λ a. inr (omega arith, omega arith))
    (carries (2 ^ w) (d / 2 ^ w + units w n) (d % 2 ^ w + 1) (c * 2 ^ (n * w) + v / 2 ^ w) (v % 2 ^ w) (omega (arith, rw lane_more at e)) (omega arith) lv)

-- a lane of suc u bits: its top bit, and the u bits below it
top_split : (u x : ℕ) → x % 2 ^ suc u ≡ x / 2 ^ u % 2 * 2 ^ u + x % 2 ^ u
top_split u x = ap (λ (k : ℕ). x % 2 ^ k) (sym (one-add u)) ∙ mod-pow-add x 1 u

-- a lane of all ones has its top bit
top_full : (u x : ℕ) → x % 2 ^ suc u + 1 ≡ 2 ^ suc u → x / 2 ^ u % 2 ≡ 1
top_full u x e = go (x / 2 ^ u % 2) (omega (arith, top_split u x)) (mod-lt x (pow_pos u))
  where
    go : (a : ℕ) → a * 2 ^ u + x % 2 ^ u + 1 ≡ 2 ^ suc u → x % 2 ^ u < 2 ^ u → a ≡ 1
    go zero e h = absurd (omega arith)
    go (suc zero) e h = refl
    go (suc (suc a)) e h = absurd (omega arith)

-- two lanes whose sum is less than that do not both have it
top_less : (u x y : ℕ) → x % 2 ^ suc u + y % 2 ^ suc u + 1 < 2 ^ suc u → min (x / 2 ^ u % 2) (y / 2 ^ u % 2) ≡ 0
top_less u x y e = go (x / 2 ^ u % 2) (y / 2 ^ u % 2) (omega (arith, top_split u x, top_split u y))
  where
    go : (a b : ℕ) → a * 2 ^ u + b * 2 ^ u < 2 ^ suc u → min a b ≡ 0
    go zero b h = omega arith
    go (suc a) zero h = omega arith
    go (suc a) (suc b) h = absurd (omega arith)

-- the top bits of the lanes that both d and i have, each at the lowest bit of its lane
abbrev tops : ℕ → ℕ → ℕ → ℕ → ℕ
tops u n d i = bit_and (bit_and d i / 2 ^ u) (units (suc u) n)

-- shifts in either order
shr_swap : (x j k : ℕ) → x / 2 ^ j / 2 ^ k ≡ x / 2 ^ k / 2 ^ j
shr_swap x j k = shr-shr x j k ∙ ap (λ (e : ℕ). x / 2 ^ e) (add_comm j k) ∙ sym (shr-shr x k j)

-- a mask with the lowest bit of each lane: the lowest lane keeps its lowest bit, and the rest of the mask meets the rest
unit_step : (u n y : ℕ) → bit_and y (units (suc u) (suc n)) ≡ bit_and (y / 2 ^ suc u) (units (suc u) n) * 2 ^ suc u + y % 2
unfolding units
unit_step u n y =
    let one : 1 < 2 ^ suc u = pow-lt {i = 0} (zero-lt-suc u) in
    sym (split (bit_and y (units (suc u) (suc n))) (suc u))
    ∙ rw (and_shr, and_mod, high (units (suc u) n) (suc u) one, low (units (suc u) n) (suc u) one, and_mask (y % 2 ^ suc u) 1, ← add-one u, mod-mod-pow y u 1)

-- the lowest lane's top bit, and the others
tops_step : (u n d i : ℕ) → tops u (suc n) d i ≡ tops u n (d / 2 ^ suc u) (i / 2 ^ suc u) * 2 ^ suc u + min (d / 2 ^ u % 2) (i / 2 ^ u % 2)
tops_step u n d i =
    let low : bit_and d i / 2 ^ u % 2 ≡ min (d / 2 ^ u % 2) (i / 2 ^ u % 2) = rw and_shr (omega (arith, and_step (d / 2 ^ u) (i / 2 ^ u))) in
    unit_step u n (bit_and d i / 2 ^ u) ∙ rw (shr_swap (bit_and d i) u (suc u), and_shr d i (suc u), low)

-- The lowest zero lane of v is all ones in d, by the borrow, and in i, so both have its top bit.
-- Any lane below it is in d and i together one less than all ones, so they do not both have its top bit.
lane_marks : (u n d v i c : ℕ) → Lessened (suc u) n v c d → Inverted (n * suc u) v i → Marks (suc u) n v (tops u n d i)
lane_marks u zero d v i c e f = none
lane_marks u (suc n) d v i c e f =
    let s = tops_step u n d i in
    let g = inverted_lane (suc u) n v i f in
    ⊎_elim
    (λ (a : (d % 2 ^ suc u + 1 ≡ v % 2 ^ suc u) × Lessened (suc u) n (v / 2 ^ suc u) c (d / 2 ^ suc u)).
    held (λ z. omega arith) (omega (arith, top_less u d i (omega arith))) (lane_marks u n (d / 2 ^ suc u) (v / 2 ^ suc u) (i / 2 ^ suc u) c a.1 g.1))
    (λ (a : (v % 2 ^ suc u ≡ 0) × (d % 2 ^ suc u + 1 ≡ 2 ^ suc u)).
    free a.0 (omega (arith, shifted_even (tops u n (d / 2 ^ suc u) (i / 2 ^ suc u)) u, top_full u d a.1, top_full u i (omega arith))))
    (lessened_lane (suc u) n v c d e)

-- the wrapping subtraction finds the lowest clear lane, whatever the lanes' width
pub lane_law : (o u n d v mask : ℕ) → o ≤ 6 → 2 ^ o ≡ suc u → mask ≡ units (suc u) n → n * suc u ≡ 64 → v < 2 ^ 64 → (d + mask) % 2 ^ 64 ≡ v
    → count_trailing_zeros 64 (bit_and (bit_and d (2 ^ 64 - 1 - v) / 2 ^ u) mask) ≡ lowest o v
lane_law o u n d v mask l width em e hv hd =
    let less : Lessened (suc u) n v ((d + mask) / 2 ^ 64) d = rw (e, ← em) (omega (arith, split (d + mask) 64)) in
    let inv : Inverted (n * suc u) v (2 ^ 64 - 1 - v) = rw e (inverted 64 v hv) in
    rw em (lowest_marked o n v _ l (rw width e) (rw width (lane_marks u n d v (2 ^ 64 - 1 - v) ((d + mask) / 2 ^ 64) less inv)))
