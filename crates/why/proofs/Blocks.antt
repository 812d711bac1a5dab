-- The first frame of a block that is held, or free: within a huge frame by its entry or its bits, above huge frame by huge frame. Assumes nothing.
use mathlib.Core.Path.{◌≡◌, refl, sym, ap, ◌∙◌}
use mathlib.Core.Bool.{Bool, true, false, not, ◌&&◌, and-true}
use Prim.Native.Nat.{ℕ, ◌+◌, ◌*◌, ◌/◌, ◌%◌, ◌^◌, ◌≤◌, ◌<◌}
use native.Mathlib.Nat.{div-add-mod', div-mul-le_self, mul-le-mul_right, add-mul-mod_self_right, zero-mod}
use native.Mathlib.Omega.{arith}
use lib.Dec.{ltb}
use lib.ListN.{length}
use lib.Pow.{pow_pos}
use borrow.Author.Tests.{ne_eqb}
use Rattle.std.specs.Prelude.{Some, None}
use Rattle.std.specs.Bool.{then_some}
use Rattle.base.specs.Walk.{first}
use Rattle.base.specs.Bits.{bit_is}
use Rattle.base.specs.Size.{Huge}
use Rattle.base.proofs.Frames.{set_not_clear}
use Rattle.base.proofs.Sizes.{place_ends, pow_divides, rest_by_less}
use Rattle.base.proofs.Walks.{first_same}
use Rattle.bits.specs.Block.{Block}
use Rattle.rules.specs.Numbers.{mark, huge_of, group_of}
use Rattle.rules.specs.State.{Mem, entry_of, lengths_of}
use Rattle.rules.specs.Refusals.{Sized}
use Rattle.rules.proofs.Numbers.{tree_pos, entries_cover}
use Rattle.rules.proofs.Present.{huge_is, rows_enough}
use Rattle.why.specs.Told.{is_open, frame_is, found}
use Rattle.why.proofs.Founds.{found_is, picked}

-- ---- a block within a huge frame

module _ (h : ℕ) (m : Mem) (f o : ℕ) (low : o ≤ h) (even : f % 2 ^ o ≡ 0) where
  -- all its frames are of one
  one_huge : (g : ℕ) → f ≤ g → g < f + 2 ^ o → huge_of h g ≡ huge_of h f
  one_huge g a b = huge_is h (huge_of h f) g (omega (arith, div-mul-le_self f (2 ^ h))) (omega (arith, div-add-mod' f (2 ^ h), place_ends f o h low even))

  module _ (marked : entry_of m.entries (huge_of h f) ≡ mark) where
    shut : (g : ℕ) → f ≤ g → g < f + 2 ^ o → is_open h m g ≡ false
    shut g a b = rw (one_huge g a b, marked) (none (bit_is false m.rows g))
      where
        none : (b : Bool) → (b && false) ≡ false
        none true = refl
        none false = refl

    pub marked_found : (b : Bool) → then_some b f ≡ found (frame_is b h m) (2 ^ o) f
    marked_found true =
        found_is (frame_is true h m) (2 ^ o) f (Some f)
        (omega arith, omega (arith, pow_pos o), ap not (shut f (omega arith) (omega (arith, pow_pos o))), λ g a b. absurd (omega arith))
    marked_found false = found_is (frame_is false h m) (2 ^ o) f None shut

  pub unmarked_bits : (entry_of m.entries (huge_of h f) ≡ mark → ⊥) → (b : Bool) → first (bit_is b m.rows) (2 ^ o) f ≡ first (frame_is b h m) (2 ^ o) f
  unmarked_bits q b = first_same (bit_is b m.rows) (frame_is b h m) (2 ^ o) f (λ g lo hi. go b g (opened g lo hi))
    where
      opened : (g : ℕ) → f ≤ g → g < f + 2 ^ o → is_open h m g ≡ bit_is false m.rows g
      opened g lo hi = rw (one_huge g lo hi, ne_eqb _ _ q) (and-true (bit_is false m.rows g))

      go : (b : Bool) (g : ℕ) → is_open h m g ≡ bit_is false m.rows g → bit_is b m.rows g ≡ frame_is b h m g
      go true g e = set_not_clear m.rows g ∙ ap not (sym e)
      go false g e = sym e

  pub unmarked_found : (entry_of m.entries (huge_of h f) ≡ mark → ⊥) → (b : Bool) {at size : ℕ} → at ≡ first (bit_is b m.rows) (2 ^ o) f → size ≡ 2 ^ o
      → then_some (ltb at (f + size)) at ≡ found (frame_is b h m) (2 ^ o) f
  unmarked_found q b {at} {size} at_is size_is = rw (at_is, size_is, unmarked_bits q b) (picked (ltb (first (frame_is b h m) (2 ^ o) f) (f + 2 ^ o)) (first (frame_is b h m) (2 ^ o) f))

-- ---- any block that passed the refusals

-- what is asked of a part of it that lies in a huge frame
pub part_asked : {h n t : ℕ} (m : Mem) → Huge h → Sized h n t (lengths_of m) → (at p : ℕ) → p ≤ h → at % 2 ^ p ≡ 0 → at + 2 ^ p ≤ n
    → (p ≤ h) × (Block m.rows at p) × (at + 2 ^ p < 2 ^ 64) × (at / 2 ^ h < length m.entries)
part_asked {h} {n} {t} m H s at p low even ends = (
  low,
  record { order = omega (arith, H.high); ends = omega (arith, s.rows, rows_enough H n); aligned = even },
  omega (arith, s.most),
  omega (arith, s.entries, entries_cover h n t at (tree_pos t s.tree) (omega (arith, pow_pos p))),
)

-- from the huge order up it is whole huge frames
module _ (h f o : ℕ) (l : h ≤ o) (even : f % 2 ^ o ≡ 0) where
  -- the x-th of its huge frames begins where a huge frame does, and ends in it
  pub part_even : (x : ℕ) → (f + x * 2 ^ h) % 2 ^ h ≡ 0
  part_even x = add-mul-mod_self_right f x (2 ^ h) ∙ sym (rest_by_less f h o l) ∙ ap (λ (r : ℕ). r % 2 ^ h) even ∙ zero-mod (2 ^ h)

  pub part_within : (x : ℕ) → x < group_of h o → f + x * 2 ^ h + 2 ^ h ≤ f + 2 ^ o
  part_within x below =
      let parts : (x + 1) * 2 ^ h ≤ group_of h o * 2 ^ h = mul-le-mul_right (2 ^ h) (omega arith) in
      omega (arith, pow_divides h o l)
