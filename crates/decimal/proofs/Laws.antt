-- For callers: the text of a number, that what is written is read, and that what was read is what is written. Assumes nothing.
use mathlib.Core.Path.{◌≡◌, refl, sym, ap, ◌∙◌, subst₂}
use mathlib.Core.Bool.{Bool, true, false, not, ◌||◌}
use mathlib.Core.List.{List, ◌++◌}
use mathlib.Core.Logic.{◌⊎◌, inl, inr, ⊎_elim}
use Prim.Native.Nat.{ℕ, zero, suc, ◌+◌, ◌-◌, ◌^◌, ◌≤◌, ◌<◌}
use native.Mathlib.Decide.{dec_lt, dec_le}
use native.Mathlib.Nat.{add-zero, add-sub_cancel_left, pow-le-pow_right}
use native.Mathlib.Omega.{arith}
use lib.Dec.{eqb, ltb}
use lib.ListN.{length, get_or, take, drop, length-append, get_or-append}
use lib.Seq.{get_or-append-add}
use borrow.Author.Tests.{ltb-true, eqb-true, eqb-false, not-true}
use Rattle.std.proofs.lemmas.Option.{same_Some}
use Rattle.base.specs.Walk.{pick}
use Rattle.base.proofs.Tests.{both}
use Rattle.decimal.specs.declared.Number.{Number}
use Rattle.decimal.specs.Decimal.{digits, places, decimal, is_digit, digits_end, value_at, number, is_number, number_at}
use Rattle.decimal.proofs.Digits.{digit_low, Digits, end_within, end_digits, end_stops, end_is, value_high, value_low, length_digits, digits_are, digits_lead, digits_value, value_digits, places_fewest, places_enough, places_are}
use Rattle.decimal.proofs.Cases.{number_is}
pub use Rattle.decimal.proofs.Digits.{places_low, places_high}

pub length_decimal : (n : ℕ) → length (decimal n) ≡ places n
length_decimal n = length_digits (places n) n

-- each byte of a number's text is a digit
pub decimal_digit : (n i : ℕ) → i < places n → is_digit (get_or (decimal n) i 0) ≡ true
decimal_digit n i h = digits_are (places n) n i h

-- the first of several is no `0`
decimal_lead : (n : ℕ) → n < 2 ^ 64 → 1 < places n → get_or (decimal n) 0 0 ≡ 48 → ⊥
decimal_lead n f h z = go (places n) refl
  where
    go : (k : ℕ) → places n ≡ k → ⊥
    go zero q = omega arith
    go (suc k) q =
        let lead = digits_lead k n (places_fewest n k (omega arith) (omega arith)) (rw q at (places_enough n f)) in
        let first = rw q at z in
        omega arith

module _ (pre : List ℕ) (n : ℕ) (rest : List ℕ) where
  -- a line with n's text
  abbrev line : List ℕ
  line = pre ++ (decimal n ++ rest)

  in_text : (i : ℕ) → i < places n → get_or line (length pre + i) 0 ≡ get_or (decimal n) i 0
  in_text i h = get_or-append-add pre (decimal n ++ rest) i 0 ∙ get_or-append (decimal n) rest 0 i (rw length_decimal h)

  behind_text : get_or line (length pre + places n) 0 ≡ get_or rest 0 0
  behind_text =
      let e : places n ≡ length (decimal n) + 0 = sym (length_decimal n) ∙ sym (add-zero (length (decimal n))) in
      get_or-append-add pre (decimal n ++ rest) (places n) 0 ∙ ap (λ (k : ℕ). get_or (decimal n ++ rest) k 0) e ∙ get_or-append-add (decimal n) rest 0 0

  text_digits : Digits line (length pre) (length pre + places n)
  text_digits i h a =
      let e : length pre + (i - length pre) ≡ i = omega arith in
      ap (λ (k : ℕ). is_digit (get_or line k 0)) (sym e) ∙ ap is_digit (in_text (i - length pre) (omega arith)) ∙ decimal_digit n (i - length pre) (omega arith)

  text_ends : is_digit (get_or rest 0 0) ≡ false → digits_end line (length pre) ≡ length pre + places n
  text_ends s =
      let long : length line ≡ length pre + (places n + length rest) =
      length-append pre (decimal n ++ rest) ∙ ap (λ (k : ℕ). length pre + k) (length-append (decimal n) rest ∙ ap (λ (k : ℕ). k + length rest) (length_decimal n)) in
      end_is line (length pre) (length pre + places n) (omega arith) (omega arith) text_digits (ap is_digit behind_text ∙ s)

  text_says : n < 2 ^ 64 → value_at line (length pre) (length pre + places n - length pre) ≡ n
  text_says f = rw add-sub_cancel_left (digits_value line (length pre) (places n) n (places_enough n f) in_text)

  -- what is written is read
  pub read_written : n < 2 ^ 64 → is_digit (get_or rest 0 0) ≡ false → number_at (pre ++ (decimal n ++ rest)) (length pre) ≡ number true n (length pre + places n)
  read_written f s =
      let low = places_low n in
      sym (number_is line (length pre) (length pre + places n) n (sym (text_ends s)) (sym (text_says f)) (omega arith) lead f)
    where
      lead : (length pre + places n ≤ length pre + 1) ⊎ (get_or line (length pre) 0 ≡ 48 → ⊥)
      lead = elim (dec_lt 1 (places n)) [
        | yes q ↦ inr (λ z. decimal_lead n f q (sym (in_text 0 (omega arith)) ∙ rw add-zero z))
        | no q ↦ inl (omega arith)
      ]

-- what a number that was read says of the line
pub record Read (l : List ℕ) (at n e : ℕ) : Type 0 where
  pub begins : at < e
  pub within : e ≤ length l
  pub fits : n < 2 ^ 64
  pub ends : e ≡ at + places n
  pub text : take (e - at) (drop at l) ≡ decimal n
  pub stops : is_digit (get_or l e 0) ≡ false

-- one test of two that holds
either : (x y : Bool) → (x || y) ≡ true → (x ≡ true) ⊎ (y ≡ true)
either true y e = inl refl
either false y e = inr e

module _ (l : List ℕ) (at : ℕ) where
  abbrev end : ℕ
  end = digits_end l at

  abbrev value : ℕ
  value = value_at l at (end - at)

  module _ (t : is_number l at end ≡ true) where
    tests : (ltb at end ≡ true) × ((eqb end (at + 1) || not (eqb (get_or l at 0) 48)) ≡ true) × (ltb value (2 ^ 64) ≡ true)
    tests =
        let fits = both _ (ltb value (2 ^ 64)) t in
        let begins = both (ltb at end) _ fits.0 in
        (begins.0, begins.1, fits.1)

    begins : at < end
    begins = ltb-true at end tests.0

    within : end ≤ length l
    within = omega (arith, begins, end_within l at)

    fits : value < 2 ^ 64
    fits = ltb-true value (2 ^ 64) tests.2

    all_digits : Digits l at (at + (end - at))
    all_digits i h a = end_digits l at i (omega (arith, begins)) a

    -- where there are several, the first is no `0`
    lead : 1 < end - at → 48 < get_or l at 0
    lead h = ⊎_elim
        (λ e. absurd (omega (arith, eqb-true end (at + 1) e)))
        (λ e. let z = eqb-false (get_or l at 0) 48 (not-true (eqb (get_or l at 0) 48) e) in
        omega (arith, z, digit_low (get_or l at 0) (end_digits l at at begins (omega arith))))
        (either (eqb end (at + 1)) (not (eqb (get_or l at 0) 48)) tests.1)

    -- fewer digits do not say as much
    fewest : (j : ℕ) → j < end - at → 1 ≤ j → 10 ^ j ≤ value
    fewest j h a =
        let e : suc (end - at - 1) ≡ end - at = omega arith in
        let high : 10 ^ (end - at - 1) ≤ value = rw e at (value_low l at (end - at - 1) (lead (omega arith))) in
        omega (arith, pow-le-pow_right {n = 10} (omega arith) {i = j} {j = end - at - 1} (omega arith))

    short : end - at ≤ 20
    short = elim (dec_le (end - at) 20) [ yes q ↦ q | no q ↦ absurd (omega (arith, fits, fewest 20 (omega arith) (omega arith))) ]

    many : places value ≡ end - at
    many = places_are value (end - at) (omega (arith, begins)) short (value_high l at (end - at) all_digits) fewest

    is_read : Read l at value end
    is_read = record {
      begins = begins;
      within = within;
      fits = fits;
      ends = omega (arith, many, begins);
      text = value_digits l at (end - at) (omega (arith, begins, within)) all_digits ∙ ap (λ (k : ℕ). digits k value) (sym many);
      stops = end_stops l at;
    }

-- what was read is what is written
pub written_read : (l : List ℕ) (at n e : ℕ) → number_at l at ≡ number true n e → Read l at n e
unfolding number_at
written_read l at n e q = go (is_number l at (digits_end l at)) refl q
  where
    go : (b : Bool) → is_number l at (end l at) ≡ b → pick b (number true (value l at) (end l at)) (number false 0 0) ≡ number true n e → Read l at n e
    go true t q =
        let same = same_Some _ _ q in
        subst₂ (Read l at) (ap (λ (x : Number). x.value) same) (ap (λ (x : Number). x.next) same) (is_read l at t)
    go false t q = cc
