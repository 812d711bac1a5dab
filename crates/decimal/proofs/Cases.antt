-- The cases of the code: a number or one of the three ways in which there is none, one more digit, and a digit stored. Assumes nothing.
use Rattle.std.proofs.Common.{◌≡◌, refl, sym, ap, ◌∙◌, Bool, true, false, ◌&&◌, ◌||◌, List, [], ◌∷◌, ◌++◌, append_assoc, ◌⊎◌, inl, inr, ℕ, suc, ◌+◌, ◌-◌, ◌*◌, ◌/◌, ◌%◌, ◌^◌, ◌≤◌, ◌<◌, add-zero, add-suc, add-one, arith, eqb, length, get_or, set, take, drop, length-drop, get_or-drop, get_or-take}
use mathlib.Core.Logic.{⊎_elim}
use native.Mathlib.Decide.{dec_lt}
use lib.ListN.{get_or-eq_default}
use lib.Seq.{take_all, length-take-le, lt-length-set, drop-cons, get_or-set_same, take-set-le, drop-set-lt, paste, paste-zero}
use borrow.Author.Tests.{lt-ltb, le-ltb, eq-eqb, ne_eqb}
use Rattle.std.specs.Char.{is_ascii_digit}
use Rattle.std.specs.List.{prefix_len, slice_range, take_while}
use Rattle.std.proofs.lemmas.Grind.{get_or_default_zero}
use Rattle.std.proofs.lemmas.List.Sums.{prefix_len_passes, prefix_len_stops, prefix_len-le-length}
use Rattle.base.specs.Code.{out}
use Rattle.decimal.specs.Decimal.{digits, places, is_digit, digits_end, value_at, number, number_at, number_to}
use Rattle.decimal.proofs.Digits.{Digits, end_within, end_is, end_beyond, value_next, value_grows, length_digits}

or_true : (x : Bool) → (x || true) ≡ true
or_true true = refl
or_true false = refl

and_false : (x : Bool) → (x && false) ≡ false
and_false true = refl
and_false false = refl

-- digits that end at e and say v
module _ (l : List ℕ) (at e v : ℕ) (e_is : e ≡ digits_end l at) (v_is : v ≡ value_at l at (e - at)) where
  pub number_is : at < e → (e ≤ at + 1) ⊎ (get_or l at 0 ≡ 48 → ⊥) → v < 2 ^ 64 → number true v e ≡ number_at l at
  unfolding number_at
  number_is h s f = ⊎_elim
      (λ q. let one : e ≡ at + 1 = omega arith in rw (← e_is, ← v_is, lt-ltb at e h, eq-eqb e (at + 1) one, lt-ltb v (2 ^ 64) f))
      (λ q. rw (← e_is, ← v_is, lt-ltb at e h, ne_eqb (get_or l at 0) 48 q, or_true (eqb e (at + 1)), lt-ltb v (2 ^ 64) f))
      s

  -- no digits
  pub none_here : e ≤ at → number false 0 0 ≡ number_at l at
  unfolding number_at
  none_here h = rw (← e_is, le-ltb at e h)

  -- a `0` goes before others
  pub none_zero : at + 1 < e → get_or l at 0 ≡ 48 → number false 0 0 ≡ number_at l at
  unfolding number_at
  none_zero h z =
      let lt : at < e = omega arith in
      rw (← e_is, lt-ltb at e lt, ne_eqb e (at + 1) (λ q. omega arith), eq-eqb (get_or l at 0) 48 z)

  -- 2 ^ 64 or more
  pub none_large : 2 ^ 64 ≤ v → number false 0 0 ≡ number_at l at
  unfolding number_at
  none_large h = rw (← e_is, ← v_is, le-ltb v (2 ^ 64) h, and_false)

-- digits that already say too much, whatever follows
pub none_beyond : (l : List ℕ) (at i v : ℕ) → at ≤ i → i < length l → Digits l at (i + 1) → v ≡ value_at l at (i - at) → 2 ^ 64 ≤ v * 10 + (get_or l i 0 - 48)
    → number false 0 0 ≡ number_at l at
none_beyond l at i v a h d e f =
    let beyond = end_beyond l at (i + 1) (omega arith) d in
    let w : i + 1 - at + (digits_end l at - (i + 1)) ≡ digits_end l at - at = omega arith in
    let grows = rw w at (value_grows l at (i + 1 - at) (digits_end l at - (i + 1))) in
    let next = value_next l at i a in
    none_large l at (digits_end l at) (value_at l at (digits_end l at - at)) refl refl (omega arith)

-- a place past the line has no digits
pub none_past : (l : List ℕ) (at : ℕ) → length l < at → number false 0 0 ≡ number_at l at
none_past l at h = none_here l at (digits_end l at) (value_at l at (digits_end l at - at)) refl refl (omega (arith, end_within l at))

-- ---- the digits that the rest of a line begins with

-- the rest of a line from a place on, and how many digits it begins with
pub record Run (l rest : List ℕ) (at len : ℕ) : Type 0 where
  pub from : at ≤ length l
  pub is : rest ≡ slice_range l at (length l)
  pub many : len ≡ prefix_len is_ascii_digit rest

module _ {l rest : List ℕ} {at len : ℕ} (r : Run l rest at len) where
  rest_drop : rest ≡ drop at l
  rest_drop = r.is ∙ take_all (length l - at) (drop at l) (omega (arith, length-drop at l, r.from))

  rest_at : (i : ℕ) → get_or rest i 0 ≡ get_or l (at + i) 0
  rest_at i = rw (rest_drop, get_or-drop)

  within : at + len ≤ length l
  within = omega (arith, r.from, r.many, ap length rest_drop, prefix_len-le-length is_ascii_digit rest, length-drop at l)

  run_at : (i : ℕ) → i < len → get_or (take len rest) i 0 ≡ get_or l (at + i) 0
  run_at i h = rw get_or-take (rest_at i)

  run_digit : (i : ℕ) → i < len → is_digit (get_or l (at + i) 0) ≡ true
  run_digit i h = ap is_digit (sym (rest_at i)) ∙ prefix_len_passes is_ascii_digit rest i 0 (omega (arith, r.many))

  run_digits : (k : ℕ) → k ≤ len → Digits l at (at + k)
  run_digits k h i b a = let e : at + (i - at) ≡ i = omega arith in rw e at (run_digit (i - at) (omega arith))

  run_stops : is_digit (get_or l (at + len) 0) ≡ false
  run_stops = elim (dec_lt len (length rest)) [
    | yes q ↦ ap is_digit (sym (rest_at len) ∙ ap (λ (k : ℕ). get_or rest k 0) r.many) ∙ prefix_len_stops is_ascii_digit rest 0 (omega (arith, r.many))
    | no q ↦ ap is_digit (get_or-eq_default l 0 (omega (arith, ap length rest_drop, length-drop at l)))
  ]

  run_ends : at + len ≡ digits_end l at
  run_ends = sym (end_is l at (at + len) (omega arith) (omega (arith, within)) (run_digits len (omega arith)) run_stops)

  -- there are none, or several of which the first is `0`
  pub none_read : (len ≡ 0) ⊎ ((1 < len) × (get_or rest 0 0 ≡ 48)) → number false 0 0 ≡ number_at l at
  none_read s = ⊎_elim
      (λ z. none_here l at (at + len) (value_at l at (at + len - at)) run_ends refl (omega arith))
      (λ w. none_zero l at (at + len) (value_at l at (at + len - at)) run_ends refl (omega (arith, w.0)) (rw add-zero at (sym (rest_at 0) ∙ w.1)))
      s

  -- one is too many
  pub none_fits : (i : ℕ) → i < len → 2 ^ 64 ≤ value_at l at i * 10 + (get_or (take len rest) i 0 - 48) → number false 0 0 ≡ number_at l at
  none_fits i h f =
      let e : at + i - at ≡ i = omega arith in
      let one : at + (i + 1) ≡ at + i + 1 = omega arith in
      none_beyond l at (at + i) (value_at l at i) (omega arith) (omega (arith, within)) (rw one at (run_digits (i + 1) (omega arith))) (rw e) (rw run_at at f)

  -- one more
  pub one_more : (i : ℕ) → i < len → value_at l at (i + 1) ≡ value_at l at i * 10 + (get_or (take len rest) i 0 - 48)
  unfolding value_at
  one_more i h = rw (add-one, run_at)

  -- all of them are a number
  pub all_read : 0 < len → (len ≤ 1) ⊎ (get_or rest 0 0 ≡ 48 → ⊥) → (v : ℕ) → v ≡ value_at l at len → v < 2 ^ 64 → number true v (at + len) ≡ number_at l at
  all_read h s v v_is f =
      let e : at + len - at ≡ len = omega arith in
      number_is l at (at + len) v run_ends (rw e v_is) (omega arith) (⊎_elim (λ q. inl (omega arith)) (λ q. inr (λ z. q (rest_at 0 ∙ rw add-zero z))) s) f

-- ---- a turn over these digits, after n of them

module _ (rest : List ℕ) (len n : ℕ) (same : len ≡ n) where
  abbrev digits_of : List ℕ
  digits_of = take_while is_ascii_digit rest

  digits_long : length digits_of ≡ prefix_len is_ascii_digit rest
  digits_long = length-take-le (prefix_len is_ascii_digit rest) rest (prefix_len-le-length is_ascii_digit rest)

  -- the next of them
  pub next_digit : {c : ℕ} → (n < length digits_of) × (c ≡ get_or digits_of n c) → (len < prefix_len is_ascii_digit rest) × (c ≡ get_or digits_of len 0)
  next_digit {c} t = (omega (arith, t.0, digits_long), t.1 ∙ rw same (get_or_default_zero digits_of n c t.0))

  -- there is no other
  pub no_more : n ≡ length digits_of → len ≡ prefix_len is_ascii_digit rest
  no_more e = same ∙ e ∙ digits_long

-- ---- what is stored

-- the last digit is stored, and those before it are left
store_last : (l : List ℕ) (at j n : ℕ) → at + j < length l → paste (set l (at + j) (48 + n % 10)) at (digits j (n / 10)) j ≡ paste l at (digits (suc j) n) (suc j)
unfolding digits
store_last l at j n h =
    let c = 48 + n % 10 in
    let front = digits j (n / 10) in
    let short : length front ≤ j = omega (arith, length_digits j (n / 10)) in
    let whole : length (front ++ (c ∷ [])) ≤ suc j = omega (arith, length_digits (suc j) n) in
    let back : drop (at + j) (set l (at + j) c) ≡ c ∷ drop (suc (at + j)) l =
    drop-cons (set l (at + j) c) (at + j) 0 (lt-length-set l (at + j) c h) ∙ rw (get_or-set_same l (at + j) c 0 h, drop-set-lt (suc (at + j)) l (at + j) c (omega arith)) in
    rw (take-set-le at l (at + j) c (omega arith), back, take_all j front short, take_all (suc j) (front ++ (c ∷ [])) whole, add-suc) (simp append_assoc)

pub store_turn : (l : List ℕ) (at j n : ℕ) → 0 < j → at + j ≤ length l
    → paste (set l (at + (j - 1)) (48 + n % 10)) at (digits (j - 1) (n / 10)) (j - 1) ≡ paste l at (digits j n) j
store_turn l at j n p h =
    let e : suc (j - 1) ≡ j = omega arith in
    store_last l at (j - 1) n (omega arith) ∙ ap (λ (k : ℕ). paste l at (digits k n) k) e

pub stored : (l : List ℕ) (at j n : ℕ) → j ≡ 0 → l ≡ paste l at (digits j n) j
stored l at j n z = rw z (paste-zero l at (digits 0 n))

pub wrote : (l : List ℕ) (at n k : ℕ) {left : List ℕ} → k ≡ places n → left ≡ paste l at (digits k n) k → out (at + k) left ≡ number_to l at n
unfolding number_to
wrote l at n k e s = rw (s, e)
