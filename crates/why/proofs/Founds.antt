-- The first of a range that a property holds of, or none: by each index of the range, and part by part. Assumes nothing.
use mathlib.Core.Path.{◌≡◌, refl}
use mathlib.Core.Bool.{Bool, true, false, ◌&&◌}
use Prim.Native.Nat.{ℕ, zero, suc, ◌+◌, ◌-◌, ◌*◌, ◌/◌, ◌%◌, ◌≤◌, ◌<◌}
use native.Mathlib.Nat.{div-add-mod', mod-lt, mul-le-mul_right, lt_of_mul-lt-mul_right}
use native.Mathlib.Decide.{dec_lt}
use native.Mathlib.Numerals.{add-one}
use native.Mathlib.Omega.{arith}
use lib.Dec.{ltb}
use borrow.Author.Tests.{lt-ltb, le-ltb, ltb-true, ltb-false}
use Rattle.std.specs.Prelude.{Option, Some, None, MatchOption}
use Rattle.std.specs.Bool.{then_some}
use Rattle.std.specs.List.{list_all, range_with_len}
use Rattle.base.specs.Walk.{pick, first, all}
use Rattle.base.proofs.Walks.{first_is, first_never, first_hit, first_before, first_from}
use Rattle.why.specs.Told.{found}

-- a test of a range's numbers is the test of its indices
pub all_range : (p : ℕ → Bool) (n i : ℕ) → list_all p (range_with_len i n) ≡ all p n i
unfolding all
all_range p zero i = refl
all_range p (suc n) i = rw add-one (turn (p i) (all_range p n (suc i)))
  where
    turn : (b : Bool) {c d : Bool} → c ≡ d → (b && c) ≡ pick b d false
    turn true e = e
    turn false e = refl

-- what is answered where a test holds
pub picked : (b : Bool) (x : ℕ) → then_some b x ≡ pick b (Some x) None
picked true x = refl
picked false x = refl

-- the first index from i up to e that p holds of, or that it holds of none
abbrev pub FirstOf : (ℕ → Bool) → ℕ → ℕ → Option ℕ → Type 0
FirstOf p i e r = MatchOption r ((k : ℕ) → i ≤ k → k < e → p k ≡ false) (λ y. (i ≤ y) × (y < e) × (p y ≡ true) × ((k : ℕ) → i ≤ k → k < y → p k ≡ false))

module _ (p : ℕ → Bool) (n i : ℕ) where
  pub found_is : (r : Option ℕ) → FirstOf p i (i + n) r → r ≡ found p n i
  found_is None none = rw (le-ltb (first p n i) (i + n) (omega (arith, first_never p n i none)))
  found_is (Some y) (a, l, e, before) = let is = first_is p n i y a l e before in rw (is, lt-ltb y (i + n) l)

  -- the index that is found is the first
  pub found_first : {y : ℕ} → Some y ≡ found p n i → (first p n i ≡ y) × (y < i + n)
  found_first {y} e = go (ltb (first p n i) (i + n)) refl e
    where
      go : (b : Bool) → ltb (first p n i) (i + n) ≡ b → Some y ≡ pick b (Some (first p n i)) None → (first p n i ≡ y) × (y < i + n)
      go true q e = let is : first p n i ≡ y = cc in (is, rw is at (ltb-true (first p n i) (i + n) q))
      go false q e = cc

  -- and where none is, the first is the end
  pub found_none : None ≡ found p n i → i + n ≤ first p n i
  found_none e = go (ltb (first p n i) (i + n)) refl e
    where
      go : (b : Bool) → ltb (first p n i) (i + n) ≡ b → None ≡ pick b (Some (first p n i)) None → i + n ≤ first p n i
      go true q e = cc
      go false q e = ltb-false (first p n i) (i + n) q

  pub first_of : (r : Option ℕ) → r ≡ found p n i → FirstOf p i (i + n) r
  first_of None e = λ k a l. first_before p n i k a (omega (arith, found_none e))
  first_of (Some y) e =
      let (is, below) = found_first e in
      (rw is at (first_from p n i), below, rw is at (first_hit p n i (rw is below)), λ k a l. first_before p n i k a (rw is l))

-- part by part, g parts of s indices each
module _ (p : ℕ → Bool) (s g i : ℕ) (some : 0 < s) where
  -- none of the first x parts has one
  parts_none : (x : ℕ) → ((k : ℕ) → k < x → None ≡ found p s (i + k * s)) → (j : ℕ) → i ≤ j → j < i + x * s → p j ≡ false
  parts_none x none j a l =
      let split : (j - i) / s * s + (j - i) % s ≡ j - i = div-add-mod' (j - i) s in
      let part : (j - i) / s < x = lt_of_mul-lt-mul_right s (omega arith) in
      first_of p s (i + (j - i) / s * s) None (none ((j - i) / s) part) j (omega arith) (omega (arith, mod-lt (j - i) some))

  pub parts_found : (r : Option ℕ)
      → MatchOption r ((k : ℕ) → 0 ≤ k → k < g → None ≡ found p s (i + k * s))
      (λ y. (x : ℕ) × (0 ≤ x) × (x < g) × (Some y ≡ found p s (i + x * s)) × ((k : ℕ) → 0 ≤ k → k < x → None ≡ found p s (i + k * s)))
      → r ≡ found p (g * s) i
  parts_found None none = found_is p (g * s) i None (parts_none g (λ k l. none k (omega arith) l))
  parts_found (Some y) (x, z, l, e, none) =
      let (from, below, hit, before) = first_of p s (i + x * s) (Some y) e in
      let ends : suc x * s ≤ g * s = mul-le-mul_right s l in
      found_is p (g * s) i (Some y) (
        omega arith,
        omega arith,
        hit,
        λ k a b.
            elim (dec_lt k (i + x * s)) [
              | yes q ↦ parts_none x (λ j m. none j (omega arith) m) k a q
              | no q ↦ before k (omega arith) b
            ],
      )
