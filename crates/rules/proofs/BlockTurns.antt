-- A block turned within the rows of its huge frame: what is done to these rows, put back in their place, is done to all rows. Assumes nothing.
use mathlib.Core.Path.{◌≡◌, refl, sym, ap, ◌∙◌}
use mathlib.Core.Bool.{Bool, true, false, not}
use mathlib.Core.List.{List, ◌++◌}
use Prim.Native.Nat.{ℕ, ◌+◌, ◌*◌, ◌/◌, ◌%◌, ◌^◌, ◌≤◌}
use native.Mathlib.Nat.{div-add-mod'}
use native.Mathlib.Omega.{arith}
use lib.ListN.{length, take, drop, length-drop, take-append-drop}
use lib.Seq.{length-take-le}
use Rattle.base.specs.Code.{Out, out}
use Rattle.base.specs.Size.{Huge, rows_per}
use Rattle.base.specs.Bits.{block_is, with_bits}
use Rattle.base.proofs.Sizes.{rows_frames, first_row, rest_by_less, place_ends}
use Rattle.base.proofs.Parts.{block_part, with_part}
use Rattle.bitfield_rules.specs.Calls.{toggle}
use Rattle.bitfield_rules.specs.Means.{Within}
use Rattle.bitfield_rules.proofs.Laws.{passes_within}
use Rattle.bitfield_rules.proofs.Toggles.{toggle_turned, toggle_left}
use Rattle.rules.specs.State.{toggled}

-- an aligned block of at most a huge frame lies in one
pub placed_within : {h : ℕ} (f o : ℕ) → o ≤ h → f % 2 ^ o ≡ 0 → Within h (rows_per h) (f % 2 ^ h) o
placed_within {h} f o low even = record { rows = refl; order = low; ends = place_ends f o h low even; aligned = rest_by_less f o h low ∙ even }

module _ {h : ℕ} (H : Huge h) (rows : List ℕ) (f o : ℕ) (b : Bool) (low : o ≤ h) (even : f % 2 ^ o ≡ 0) (lent : (f / 2 ^ h + 1) * rows_per h ≤ length rows) where
  -- the huge frame's k rows from row a on are lent, with the block at their place p, and come back as ys
  pub toggled_part : (a k p : ℕ) → a ≡ f / 2 ^ h * rows_per h → k ≡ rows_per h → p ≡ f % 2 ^ h → (r : ℕ) (ys : List ℕ)
      → out r ys ≡ toggle h (take k (drop a rows)) p o b → out r (take a rows ++ (ys ++ drop k (drop a rows))) ≡ toggled rows f o b
  unfolding toggled
  toggled_part a k p ea ek ep r ys e = go (block_is b rows f (2 ^ o)) refl
    where
      part : List ℕ
      part = take k (drop a rows)

      -- the rows with zs in the place of the part
      with : List ℕ → List ℕ
      with zs = take a rows ++ (zs ++ drop k (drop a rows))

      back : with part ≡ rows
      back = ap (λ (t : List ℕ). take a rows ++ t) (take-append-drop k (drop a rows)) ∙ take-append-drop a rows

      fits : a + k ≤ length rows
      fits = rw (ea, ek) (omega arith)

      long : length part ≡ rows_per h
      long = length-take-le k (drop a rows) (omega (arith, fits, length-drop a rows)) ∙ ek

      within : Within h (length part) p o
      within = rw (long, ep) (placed_within f o low even)

      ends : p + 2 ^ o ≤ k * 64
      ends = rw (ek, ← rows_frames H) within.ends

      at : a * 64 + p ≡ f
      at = rw (ea, ep, first_row H (f / 2 ^ h)) (div-add-mod' f (2 ^ h))

      is : block_is b part p (2 ^ o) ≡ block_is b rows f (2 ^ o)
      is = block_part b rows a k p (2 ^ o) ends ∙ ap (λ (x : ℕ). block_is b rows x (2 ^ o)) at

      write : with (with_bits (not b) part p (p + 2 ^ o)) ≡ with_bits (not b) rows f (f + 2 ^ o)
      write =
          let last : a * 64 + (p + 2 ^ o) ≡ f + 2 ^ o = omega (arith, at) in
          with_part (not b) rows a k p (p + 2 ^ o) fits (omega arith) ends ∙ rw (last, at)

      go : (t : Bool) → block_is b rows f (2 ^ o) ≡ t → out r (with ys) ≡ toggled rows f o b
      go true q = ap (λ (x : Out ℕ (List ℕ)). out x.answer (with x.left)) (e ∙ sym (toggle_turned h part p o b (passes_within within) (is ∙ q))) ∙ ap (out 0) write ∙ rw q
      go false q = ap (λ (x : Out ℕ (List ℕ)). out x.answer (with x.left)) (e ∙ sym (toggle_left h part p o b (passes_within within) (is ∙ q))) ∙ ap (out 7) back ∙ rw q

-- ---- what a turn leaves

module _ (rows : List ℕ) (f o : ℕ) (b : Bool) {r : ℕ} {left : List ℕ} (e : out r left ≡ toggled rows f o b) where
  -- where the bits are all as expected, they are turned
  pub turn_done : block_is b rows f (2 ^ o) ≡ true → (r ≡ 0) × (left ≡ with_bits (not b) rows f (f + 2 ^ o))
  unfolding toggled
  turn_done q = let w = rw q at e in (ap (λ (x : Out ℕ (List ℕ)). x.answer) w, ap (λ (x : Out ℕ (List ℕ)). x.left) w)

  -- else the rows are left
  pub turn_left : block_is b rows f (2 ^ o) ≡ false → (r ≡ 7) × (left ≡ rows)
  unfolding toggled
  turn_left q = let w = rw q at e in (ap (λ (x : Out ℕ (List ℕ)). x.answer) w, ap (λ (x : Out ℕ (List ℕ)). x.left) w)

  -- the answer 0 tells that they were turned
  pub if_turned : r ≡ 0 → (block_is b rows f (2 ^ o) ≡ true) × (left ≡ with_bits (not b) rows f (f + 2 ^ o))
  if_turned z = go (block_is b rows f (2 ^ o)) refl
    where
      go : (t : Bool) → block_is b rows f (2 ^ o) ≡ t → (t ≡ true) × (left ≡ with_bits (not b) rows f (f + 2 ^ o))
      go true q = (refl, (turn_done q).1)
      go false q = absurd (omega (arith, (turn_left q).0))

  -- and any other that they were left
  pub if_left : (r ≡ 0 → ⊥) → (block_is b rows f (2 ^ o) ≡ false) × (left ≡ rows)
  if_left n = go (block_is b rows f (2 ^ o)) refl
    where
      go : (t : Bool) → block_is b rows f (2 ^ o) ≡ t → (t ≡ false) × (left ≡ rows)
      go true q = absurd (n (turn_done q).0)
      go false q = (refl, (turn_left q).1)
