-- Rows with a run of bits written: each row by itself, a block within one row, and whole rows. Assumes nothing.
use mathlib.Core.Path.{◌≡◌, refl, sym, ap, ap₂, ◌∙◌}
use mathlib.Core.Bool.{Bool, true, false}
use mathlib.Core.List.{List, [], ◌∷◌, ◌++◌}
use Prim.Native.Nat.{ℕ, zero, suc, ◌+◌, ◌-◌, ◌*◌, ◌/◌, ◌%◌, ◌^◌, ◌≤◌, ◌<◌, min}
use native.Mathlib.Nat.{zero-add, suc-add, div-add-mod', mod-lt, mul-le-mul_right, sub-add_cancel, le_of_suc-le-suc, not-suc-le-zero}
use native.Mathlib.Omega.{arith}
use lib.Pow.{pow_pos, ones_lt, shr_lt}
use lib.ListN.{length, get_or, set, take, drop, replicate}
use Rattle.base.specs.Bits.{solid, overlay, with_bits}
use Rattle.base.proofs.Sizes.{pow_divides}
use Rattle.base.proofs.Masks.{overlay_none}

-- bits from a up to a are none
pub with_none : (b : Bool) (rows : List ℕ) (a : ℕ) → with_bits b rows a a ≡ rows
unfolding with_bits
with_none b [] a = refl
with_none b (v ∷ rows) a = ap₂ (λ (x : ℕ) (l : List ℕ). x ∷ l) (overlay_none b v (min a 64)) (with_none b rows (a - 64))

pub length_with : (b : Bool) (rows : List ℕ) (a e : ℕ) → length (with_bits b rows a e) ≡ length rows
unfolding with_bits
length_with b [] a e = refl
length_with b (v ∷ rows) a e = ap suc (length_with b rows (a - 64) (e - 64))

-- frame a from one row further on
one_row : (a i : ℕ) → a - 64 - 64 * i ≡ a - 64 * suc i
one_row a i = omega arith

-- each row by itself
pub get_d_with : (b : Bool) (rows : List ℕ) (a e i : ℕ) → i < length rows → get_or (with_bits b rows a e) i 0 ≡ overlay b (get_or rows i 0) (min (a - 64 * i) 64) (min (e - 64 * i) 64)
unfolding with_bits
get_d_with b [] a e i h = absurd (not-suc-le-zero h)
get_d_with b (v ∷ rows) a e zero h =
    let p : a - 64 * 0 ≡ a = omega arith in
    let q : e - 64 * 0 ≡ e = omega arith in
    rw (p, q)
get_d_with b (v ∷ rows) a e (suc i) h =
    get_d_with b rows (a - 64) (e - 64) i (le_of_suc-le-suc h) ∙ rw (one_row a i, one_row e i)

-- one write to two lists of rows: where they were alike they still are
pub with_alike : (b : Bool) (rows left : List ℕ) (a e i : ℕ) → i < length rows → i < length left → get_or rows i 0 ≡ get_or left i 0
    → get_or (with_bits b rows a e) i 0 ≡ get_or (with_bits b left a e) i 0
with_alike b rows left a e i l k q =
    get_d_with b rows a e i l ∙ ap (λ (v : ℕ). overlay b v (min (a - 64 * i) 64) (min (e - 64 * i) 64)) q ∙ sym (get_d_with b left a e i k)

-- a block within row i writes that row alone
row_at : (b : Bool) (rows : List ℕ) (i q s : ℕ) → q + s ≤ 64 → with_bits b rows (i * 64 + q) (i * 64 + q + s) ≡ set rows i (overlay b (get_or rows i 0) q (q + s))
unfolding with_bits
row_at b [] i q s h = refl
row_at b (v ∷ rows) zero q s h =
    let lo : min (0 * 64 + q) 64 ≡ q = omega arith in
    let hi : min (0 * 64 + q + s) 64 ≡ q + s = omega arith in
    let a : 0 * 64 + q - 64 ≡ 0 = omega arith in
    let e : 0 * 64 + q + s - 64 ≡ 0 = omega arith in
    rw (lo, hi, a, e, with_none b rows 0)
row_at b (v ∷ rows) (suc i) q s h =
    let lo : min (suc i * 64 + q) 64 ≡ 64 = omega arith in
    let hi : min (suc i * 64 + q + s) 64 ≡ 64 = omega arith in
    let a : suc i * 64 + q - 64 ≡ i * 64 + q = omega arith in
    let e : suc i * 64 + q + s - 64 ≡ i * 64 + q + s = omega arith in
    rw (lo, hi, a, e, overlay_none b v 64) (ap (λ (l : List ℕ). v ∷ l) (row_at b rows i q s h))

pub with_row : (b : Bool) (rows : List ℕ) (p s : ℕ) → p % 64 + s ≤ 64 → with_bits b rows p (p + s) ≡ set rows (p / 64) (overlay b (get_or rows (p / 64) 0) (p % 64) (p % 64 + s))
with_row b rows p s h =
    ap (λ (k : ℕ). with_bits b rows k (k + s)) (sym (div-add-mod' p 64)) ∙ row_at b rows (p / 64) (p % 64) s h

-- a row all of whose bits are written is solid
overlay_all : (b : Bool) (v : ℕ) → v < 2 ^ 64 → overlay b v 0 64 ≡ solid b 64
overlay_all true v h = omega arith
overlay_all false v h = omega arith

-- the first k rows, all of them
with_front : (b : Bool) (rows : List ℕ) (k : ℕ) → ((j : ℕ) → get_or rows j 0 < 2 ^ 64) → k ≤ length rows
    → with_bits b rows 0 (k * 64) ≡ replicate k (solid b 64) ++ drop k rows
unfolding with_bits
with_front b rows zero fits h = with_none b rows 0
with_front b [] (suc k) fits h = absurd (not-suc-le-zero h)
with_front b (v ∷ rows) (suc k) fits h =
    let hi : min (suc k * 64) 64 ≡ 64 = omega arith in
    let e : suc k * 64 - 64 ≡ k * 64 = omega arith in
    rw (hi, e, overlay_all b v (fits 0)) (ap (λ (l : List ℕ). solid b 64 ∷ l) (with_front b rows k (λ j. fits (suc j)) (le_of_suc-le-suc h)))

-- whole rows from row i on
pub with_rows : (b : Bool) (rows : List ℕ) (i k : ℕ) → ((j : ℕ) → get_or rows j 0 < 2 ^ 64) → i + k ≤ length rows
    → with_bits b rows (i * 64) ((i + k) * 64) ≡ take i rows ++ (replicate k (solid b 64) ++ drop (i + k) rows)
unfolding with_bits
with_rows b rows zero k fits h = rw (zero-add k) (with_front b rows k fits (omega arith))
with_rows b [] (suc i) k fits h = absurd (omega arith)
with_rows b (v ∷ rows) (suc i) k fits h =
    let lo : min (suc i * 64) 64 ≡ 64 = omega arith in
    let hi : min ((suc i + k) * 64) 64 ≡ 64 = omega arith in
    let a : suc i * 64 - 64 ≡ i * 64 = omega arith in
    let e : (suc i + k) * 64 - 64 ≡ (i + k) * 64 = omega arith in
    rw (lo, hi, a, e, overlay_none b v 64, suc-add) (ap (λ (l : List ℕ). v ∷ l) (with_rows b rows i k (λ j. fits (suc j)) (omega arith)))

-- a row of which no bit is written stays
with_apart : (b : Bool) (rows : List ℕ) (a e i : ℕ) → min (a - 64 * i) 64 ≡ min (e - 64 * i) 64 → get_or (with_bits b rows a e) i 0 ≡ get_or rows i 0
unfolding with_bits
with_apart b [] a e i q = refl
with_apart b (v ∷ rows) a e zero q =
    let none : min e 64 ≡ min a 64 = omega arith in
    rw none (overlay_none b v (min a 64))
with_apart b (v ∷ rows) a e (suc i) q = with_apart b rows (a - 64) (e - 64) i (rw (one_row a i, one_row e i) q)

-- so a row behind all that is written does
pub with_beyond : (b : Bool) (rows : List ℕ) (a e i : ℕ) → a ≤ e → e ≤ i * 64 → get_or (with_bits b rows a e) i 0 ≡ get_or rows i 0
with_beyond b rows a e i l h = with_apart b rows a e i (omega arith)

-- and a row before it
pub with_ahead : (b : Bool) (rows : List ℕ) (a e i : ℕ) → a ≤ e → (i + 1) * 64 ≤ a → get_or (with_bits b rows a e) i 0 ≡ get_or rows i 0
with_ahead b rows a e i l h = with_apart b rows a e i (omega arith)

-- a solid number fits its bits
pub solid_lt : (b : Bool) (s : ℕ) → solid b s < 2 ^ s
solid_lt true s = ones_lt s
solid_lt false s = pow_pos s

-- so a row that is written stays one of 64 bits
overlay_fits : (b : Bool) (v lo hi : ℕ) → lo ≤ hi → hi ≤ 64 → v < 2 ^ 64 → overlay b v lo hi < 2 ^ 64
overlay_fits b v lo hi l u fits =
    let low = mod-lt v (pow_pos lo) in
    let middle : (solid b (hi - lo) + 1) * 2 ^ lo ≤ 2 ^ (hi - lo) * 2 ^ lo = mul-le-mul_right (2 ^ lo) (omega (arith, solid_lt b (hi - lo))) in
    let high : v / 2 ^ hi < 2 ^ (64 - hi) = shr_lt (64 - hi) hi (rw (sub-add_cancel u) fits) in
    let all : (v / 2 ^ hi + 1) * 2 ^ hi ≤ 2 ^ (64 - hi) * 2 ^ hi = mul-le-mul_right (2 ^ hi) (omega arith) in
    omega (arith, pow_divides lo hi l, pow_divides hi 64 u)

pub with_fits : (b : Bool) (rows : List ℕ) (a e : ℕ) → a ≤ e → ((i : ℕ) → get_or rows i 0 < 2 ^ 64) → (i : ℕ) → get_or (with_bits b rows a e) i 0 < 2 ^ 64
unfolding with_bits
with_fits b [] a e l fits i = fits i
with_fits b (v ∷ rows) a e l fits zero = overlay_fits b v (min a 64) (min e 64) (omega arith) (omega arith) (fits 0)
with_fits b (v ∷ rows) a e l fits (suc i) = with_fits b rows (a - 64) (e - 64) (omega arith) (λ j. fits (suc j)) i
