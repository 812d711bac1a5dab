-- Tests: the opposite of each, and what two of them say together. Assumes nothing.
use mathlib.Core.Path.{◌≡◌, refl, sym}
use mathlib.Core.Bool.{Bool, true, false, not, ◌&&◌, ◌||◌, true≢false}
use Prim.Native.Nat.{ℕ}
use native.Mathlib.Decide.{dec_le, dec_lt}
use native.Mathlib.Omega.{arith}
use lib.Dec.{leb, ltb}
use borrow.Author.Tests.{le-leb, lt-leb, lt-ltb, le-ltb}

-- ---- opposites

pub not_leb : (a b : ℕ) → not (leb a b) ≡ ltb b a
not_leb a b = elim (dec_le a b) [ yes l ↦ rw (le-leb a b l, le-ltb b a l) | no l ↦ rw (lt-leb a b (omega arith), lt-ltb b a (omega arith)) ]

pub not_ltb : (a b : ℕ) → not (ltb a b) ≡ leb b a
not_ltb a b = elim (dec_lt a b) [ yes l ↦ rw (lt-ltb a b l, lt-leb b a l) | no l ↦ rw (le-ltb a b (omega arith), le-leb b a (omega arith)) ]

pub not_both : (a b : Bool) → not (a && b) ≡ (not a || not b)
not_both true b = refl
not_both false b = refl

pub not_either : (a b : Bool) → not (a || b) ≡ (not a && not b)
not_either true b = refl
not_either false b = refl

-- ---- two tests

-- two that both hold
pub both : (x y : Bool) → (x && y) ≡ true → (x ≡ true) × (y ≡ true)
both true y e = (refl, e)
both false y e = absurd (true≢false (sym e))

-- two of which none holds
pub neither : (x y : Bool) → (x || y) ≡ false → (x ≡ false) × (y ≡ false)
neither true y e = absurd (true≢false e)
neither false y e = (refl, e)

-- the second says both where the first follows from it
pub second_tells : (a b : Bool) → (b ≡ true → a ≡ true) → (a && b) ≡ b
second_tells a true f = rw (f refl)
second_tells true false f = refl
second_tells false false f = refl
