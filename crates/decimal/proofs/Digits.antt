-- What digits are worth: where they end, what they say, and how many a number has. Assumes nothing.
use mathlib.Core.Path.{◌≡◌, refl, sym, ap, ◌∙◌}
use mathlib.Core.Bool.{true, false, not, true≢false}
use mathlib.Core.List.{List, [], ◌∷◌}
use Prim.Native.Nat.{ℕ, zero, suc, ◌+◌, ◌-◌, ◌*◌, ◌/◌, ◌%◌, ◌^◌, ◌≤◌, ◌<◌, max}
use native.Mathlib.Decide.{dec_le, dec_lt}
use native.Mathlib.Nat.{pow-suc, pow-le-pow_right, add-zero, add-suc}
use native.Mathlib.Omega.{arith}
use native.Mathlib.Numerals.{add-one}
use lib.Dec.{leb, ltb}
use lib.ListN.{length, get_or, take, drop, length-append, length-drop, get_or-append, get_or-eq_default}
use lib.Seq.{take-suc, get_or_at, get_or-drop}
use borrow.Author.Tests.{leb-true, le-leb, lt-ltb, le-ltb, ltb-true, ltb-false, not-true, not-false}
use Rattle.base.proofs.Walks.{first_hit, first_le, first_from, first_before, first_is, first_never}
use Rattle.base.proofs.Tests.{both}
use Rattle.decimal.specs.Decimal.{digits, places, is_digit, digits_end, value_at}

pub digit_low : (c : ℕ) → is_digit c ≡ true → 48 ≤ c
digit_low c e = leb-true 48 c (both (leb 48 c) (leb c 57) e).0

pub digit_high : (c : ℕ) → is_digit c ≡ true → c ≤ 57
digit_high c e = leb-true c 57 (both (leb 48 c) (leb c 57) e).1

pub is_digit_lem : (c : ℕ) → 48 ≤ c → c ≤ 57 → is_digit c ≡ true
is_digit_lem c l h = rw (le-leb 48 c l, le-leb c 57 h)

-- ---- where digits end

-- the bytes of a line from a place up to another are digits
abbrev pub Digits : List ℕ → ℕ → ℕ → Type 0
Digits l at e = (i : ℕ) → i < e → at ≤ i → is_digit (get_or l i 0) ≡ true

module _ (l : List ℕ) (at : ℕ) where
  pub end_from : at ≤ digits_end l at
  unfolding digits_end
  end_from = first_from _ _ _

  pub end_within : digits_end l at ≤ at + (length l - at)
  unfolding digits_end
  end_within = first_le _ _ _

  -- the bytes up to the end are digits
  pub end_digits : Digits l at (digits_end l at)
  unfolding digits_end
  end_digits i h a = not-false _ (first_before (λ i. not (is_digit (get_or l i 0))) (length l - at) at i a h)

  -- the byte at the end is none
  pub end_stops : is_digit (get_or l (digits_end l at) 0) ≡ false
  unfolding digits_end
  end_stops = elim (dec_lt (digits_end l at) (at + (length l - at))) [
    | yes h ↦ not-true _ (first_hit (λ i. not (is_digit (get_or l i 0))) (length l - at) at h)
    | no h ↦ ap is_digit (get_or-eq_default l 0 (omega arith))
  ]

  -- digits up to a byte that is none end there
  pub end_is : (e : ℕ) → at ≤ e → e ≤ at + (length l - at) → Digits l at e → is_digit (get_or l e 0) ≡ false → digits_end l at ≡ e
  unfolding digits_end
  end_is e a h d s = elim (dec_lt e (at + (length l - at))) [
    | yes q ↦ first_is _ (length l - at) at e a q (ap not s) (λ k b c. ap not (d k c b))
    | no q ↦ first_never _ (length l - at) at (λ k b c. ap not (d k (omega arith) b)) ∙ omega arith
  ]

  -- digits up to e end at e or behind it
  pub end_beyond : (e : ℕ) → e ≤ at + (length l - at) → Digits l at e → e ≤ digits_end l at
  end_beyond e h d = elim (dec_le e (digits_end l at)) [
    | yes q ↦ q
    | no q ↦ absurd (true≢false (sym (d (digits_end l at) (omega arith) end_from) ∙ end_stops))
  ]

-- ---- what digits say

module _ (l : List ℕ) (at : ℕ) where
  -- the digit at i, after those before it
  pub value_next : (i : ℕ) → at ≤ i → value_at l at (i + 1 - at) ≡ value_at l at (i - at) * 10 + (get_or l i 0 - 48)
  unfolding value_at
  value_next i h =
      let e : i + 1 - at ≡ suc (i - at) = omega arith in
      let w : at + (i - at) ≡ i = omega arith in
      rw (e, w)

  -- more digits say no less
  pub value_grows : (k j : ℕ) → value_at l at k ≤ value_at l at (k + j)
  unfolding value_at
  value_grows k zero = rw add-zero (omega arith)
  value_grows k (suc j) = rw add-suc (omega (arith, value_grows k j))

  -- k digits say less than 10 ^ k
  pub value_high : (k : ℕ) → Digits l at (at + k) → value_at l at k < 10 ^ k
  unfolding value_at
  value_high zero d = omega arith
  value_high (suc k) d =
      let h = value_high k (λ i b a. d i (omega arith) a) in
      let c = digit_high (get_or l (at + k) 0) (d (at + k) (omega arith) (omega arith)) in
      rw pow-suc (omega arith)

  -- and, where the first is no `0`, at least 10 ^ (k - 1)
  pub value_low : (k : ℕ) → 48 < get_or l at 0 → 10 ^ k ≤ value_at l at (suc k)
  unfolding value_at
  value_low zero h = rw add-zero (omega arith)
  value_low (suc k) h = let v = value_low k h in rw pow-suc (omega arith)

-- ---- the digits of a number

pub length_digits : (k n : ℕ) → length (digits k n) ≡ k
unfolding digits
length_digits zero n = refl
length_digits (suc k) n = omega (arith, length-append (digits k (n / 10)) ((48 + n % 10) ∷ []), length_digits k (n / 10))

-- the last of them
pub digits_last : (k n : ℕ) → get_or (digits (suc k) n) k 0 ≡ 48 + n % 10
unfolding digits
digits_last k n = get_or_at (digits k (n / 10)) (48 + n % 10) [] 0 k (length_digits k (n / 10))

-- the ones before it
pub digits_front : (k n i : ℕ) → i < k → get_or (digits (suc k) n) i 0 ≡ get_or (digits k (n / 10)) i 0
unfolding digits
digits_front k n i h = get_or-append (digits k (n / 10)) ((48 + n % 10) ∷ []) 0 i (rw length_digits h)

pub digits_are : (k n i : ℕ) → i < k → is_digit (get_or (digits k n) i 0) ≡ true
digits_are zero n i h = absurd (omega arith)
digits_are (suc k) n i h = elim (dec_lt i k) [
  | yes q ↦ ap is_digit (digits_front k n i q) ∙ digits_are k (n / 10) i q
  | no q ↦ let e : i ≡ k = omega arith in rw (e, digits_last) (is_digit_lem (48 + n % 10) (omega arith) (omega arith))
]

-- the first of the fewest is no `0`
pub digits_lead : (k n : ℕ) → 10 ^ k ≤ n → n < 10 ^ suc k → 48 < get_or (digits (suc k) n) 0 0
digits_lead zero n l h = rw digits_last (omega arith)
digits_lead (suc k) n l h =
    rw (digits_front (suc k) n 0 (omega arith)) (digits_lead k (n / 10) (omega (arith, pow-suc 10 k)) (omega (arith, pow-suc 10 k, pow-suc 10 (suc k))))

-- a line that has the k digits of n says n
pub digits_value : (l : List ℕ) (at k n : ℕ) → n < 10 ^ k → ((i : ℕ) → i < k → get_or l (at + i) 0 ≡ get_or (digits k n) i 0) → value_at l at k ≡ n
unfolding value_at
digits_value l at zero n h f = omega arith
digits_value l at (suc k) n h f =
    let front = digits_value l at k (n / 10) (omega (arith, pow-suc 10 k)) (λ i b. f i (omega arith) ∙ digits_front k n i b) in
    rw (front, f k (omega arith), digits_last) (omega arith)

-- k digits are those of the number that they say
pub value_digits : (l : List ℕ) (at k : ℕ) → at + k ≤ length l → Digits l at (at + k) → take k (drop at l) ≡ digits k (value_at l at k)
unfolding digits value_at
value_digits l at zero h d = refl
value_digits l at (suc k) h d =
    let low = digit_low (get_or l (at + k) 0) (d (at + k) (omega arith) (omega arith)) in
    let high = digit_high (get_or l (at + k) 0) (d (at + k) (omega arith) (omega arith)) in
    let tens : (value_at l at k * 10 + (get_or l (at + k) 0 - 48)) / 10 ≡ value_at l at k = omega arith in
    let ones : 48 + (value_at l at k * 10 + (get_or l (at + k) 0 - 48)) % 10 ≡ get_or l (at + k) 0 = omega arith in
    take-suc (drop at l) k 0 (rw length-drop (omega arith)) ∙ rw (get_or-drop, value_digits l at k (omega arith) (λ i b a. d i (omega arith) a), tens, ones)

-- ---- how many digits a number has

pub places_low : (n : ℕ) → 1 ≤ places n
unfolding places
places_low n = first_from (λ k. ltb n (10 ^ k)) 19 1

pub places_high : (n : ℕ) → places n ≤ 20
unfolding places
places_high n = first_le (λ k. ltb n (10 ^ k)) 19 1

-- any fewer are not enough
pub places_fewest : (n k : ℕ) → 1 ≤ k → k < places n → 10 ^ k ≤ n
unfolding places
places_fewest n k l h = ltb-false n (10 ^ k) (first_before (λ k. ltb n (10 ^ k)) 19 1 k l h)

-- so many are
pub places_enough : (n : ℕ) → n < 2 ^ 64 → n < 10 ^ places n
unfolding places
places_enough n h = elim (dec_lt (places n) 20) [
  | yes q ↦ ltb-true n _ (first_hit (λ k. ltb n (10 ^ k)) 19 1 q)
  | no q ↦ let e : places n ≡ 20 = omega (arith, places_high n) in rw e (omega arith)
]

-- the k that is enough, where any fewer are not, is that many
pub places_are : (n k : ℕ) → 1 ≤ k → k ≤ 20 → n < 10 ^ k → ((j : ℕ) → j < k → 1 ≤ j → 10 ^ j ≤ n) → places n ≡ k
unfolding places
places_are n k l h e f = elim (dec_lt k 20) [
  | yes q ↦ first_is _ 19 1 k l q (lt-ltb n (10 ^ k) e) (λ j a b. le-ltb n (10 ^ j) (f j b a))
  | no q ↦ first_never _ 19 1 (λ j a b. le-ltb n (10 ^ j) (f j (omega arith) a)) ∙ omega arith
]

-- one more than the logarithm, of 1 where the number is 0
pub places_log : (n m k : ℕ) → m ≡ max n 1 → 10 ^ k ≤ m → m < 10 * 10 ^ k → k < 20 → k + 1 ≡ places n
places_log n m k e l h b = sym (places_are n (k + 1) (omega arith) (omega arith) (rw (add-one, pow-suc) (omega arith)) fewer)
  where
    fewer : (j : ℕ) → j < k + 1 → 1 ≤ j → 10 ^ j ≤ n
    fewer j a o =
        let up : 10 ^ j ≤ 10 ^ k = pow-le-pow_right {n = 10} (omega arith) {i = j} {j = k} (omega arith) in
        let ten : 10 ^ 1 ≤ 10 ^ j = pow-le-pow_right {n = 10} (omega arith) {i = 1} {j = j} (omega arith) in
        omega arith
