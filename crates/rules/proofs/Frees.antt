-- What makes a frame free, what makes it held, and what an entry of a consistent tree is. Assumes nothing.
use mathlib.Core.Path.{◌≡◌, refl, sym, ◌∙◌}
use mathlib.Core.Bool.{Bool, true, false, not, ◌&&◌, and-true}
use mathlib.Core.Logic.{⊎_elim}
use Prim.Native.Nat.{ℕ, ◌+◌, ◌*◌, ◌/◌, ◌^◌, ◌≤◌, ◌<◌}
use native.Mathlib.Decide.{dec_lt}
use native.Mathlib.Omega.{arith}
use lib.Dec.{eqb, ltb}
use borrow.Author.Tests.{eq-eqb, ne_eqb, lt-ltb, le-ltb, not-true}
use Rattle.base.specs.Walk.{pick}
use Rattle.base.specs.Bits.{bit_is}
use Rattle.base.specs.Size.{Huge}
use Rattle.base.proofs.Frames.{set_not_clear}
use Rattle.base.proofs.Sizes.{frames_fit}
use Rattle.rules.specs.Numbers.{mark, huge_of}
use Rattle.rules.specs.State.{Mem, entry_of, clear_of}
use Rattle.rules.proofs.Present.{huge_is}
use Rattle.rules.specs.Consistent.{ByCount, ConsistentIn, free}

-- a count is never the mark
pub no_mark : {h n : ℕ} {m : Mem} {x : ℕ} → Huge h → ByCount h n m x → entry_of m.entries x ≡ mark → ⊥
no_mark H k q = omega (arith, k.most, frames_fit H)

-- the three tests of a free frame: all pass, the second fails, or the third
passes : {a b c : Bool} → a ≡ true → b ≡ true → c ≡ false → (a && (b && not c)) ≡ true
passes p q r = rw (p, q, r)

second_fails : (a : Bool) {b : Bool} (c : Bool) → b ≡ false → (a && (b && not c)) ≡ false
second_fails true c q = rw q
second_fails false c q = refl

third_fails : (a b : Bool) {c : Bool} → c ≡ true → (a && (b && not c)) ≡ false
third_fails true true r = rw r
third_fails true false r = refl
third_fails false b r = refl

module _ (h n : ℕ) (m : Mem) (f : ℕ) where
  pub is_free : f < n → bit_is false m.rows f ≡ true → (entry_of m.entries (huge_of h f) ≡ mark → ⊥) → free h n m f ≡ true
  is_free l e q = passes (lt-ltb f n l) e (ne_eqb (entry_of m.entries (huge_of h f)) mark q)

  -- a frame whose bit is set is held
  pub held_bit : bit_is false m.rows f ≡ false → free h n m f ≡ false
  held_bit e = second_fails (ltb f n) (eqb (entry_of m.entries (huge_of h f)) mark) e

  -- so is one under a mark
  pub held_mark : entry_of m.entries (huge_of h f) ≡ mark → free h n m f ≡ false
  held_mark e = third_fails (ltb f n) (bit_is false m.rows f) (eq-eqb (entry_of m.entries (huge_of h f)) mark e)

  -- and one past N
  pub held_past : n ≤ f → free h n m f ≡ false
  held_past l = rw (le-ltb f n l)

-- where the entry is a count, a frame is free exactly if its bit is clear
pub counted_free : {h n : ℕ} {m : Mem} {x : ℕ} → Huge h → ByCount h n m x → (f : ℕ) → x * 2 ^ h ≤ f → f < (x + 1) * 2 ^ h → free h n m f ≡ bit_is false m.rows f
counted_free {h} {n} {m} {x} H k f low high = elim (dec_lt f n) [
  | yes l ↦ rw (huge_is h x f low high, lt-ltb f n l, ne_eqb _ _ (no_mark H k)) (and-true (bit_is false m.rows f))
  | no l ↦ held_past h n m f (omega arith) ∙ sym (not-true (bit_is false m.rows f) (sym (set_not_clear m.rows f) ∙ k.past f (omega arith) high))
]

-- the entry of a present huge frame is the mark, or the number of clear bits
pub entry_told : {h n t : ℕ} {m : Mem} {y : ℕ} → Huge h → ConsistentIn h n t m y → (x : ℕ) → x / t ≡ y → x * 2 ^ h < n
    → entry_of m.entries x ≡ pick (eqb (entry_of m.entries x) mark) mark (clear_of h m.rows x)
entry_told {h} {n} {m = m} H c x own l = ⊎_elim (λ k. rw (eq-eqb _ _ k.marked) k.marked) (λ (k : ByCount h n m x). rw (ne_eqb _ _ (no_mark H k)) k.counts) (c.present x own l)
