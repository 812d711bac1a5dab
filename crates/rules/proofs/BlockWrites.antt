-- What taking a block, and giving it back, writes: each bit and each entry. Assumes nothing.
use mathlib.Core.Path.{◌≡◌, refl, sym, ◌∙◌}
use mathlib.Core.Bool.{Bool, true, false, not, ◌&&◌, ◌||◌, and-true, and-false, or-true, or-false}
use mathlib.Core.List.{List}
use mathlib.Core.Logic.{⊎_elim}
use Prim.Native.Nat.{ℕ, ◌+◌, ◌-◌, ◌*◌, ◌/◌, ◌^◌, ◌≤◌, ◌<◌}
use native.Mathlib.Decide.{dec_lt}
use native.Mathlib.Nat.{zero-add, mul-le-mul_right, div-mul-le_self}
use native.Mathlib.Omega.{arith}
use lib.Dec.{eqb}
use lib.ListN.{length, set}
use lib.Pow.{pow_pos}
use lib.Seq.{get_or-set_same, get_or-set_other}
use borrow.Author.Tests.{eq-eqb, ne_eqb, lt-ltb, le-ltb}
use Rattle.base.specs.Walk.{pick, written}
use Rattle.base.specs.Size.{Huge}
use Rattle.base.specs.Bits.{bit_is, with_bits}
use Rattle.base.proofs.Writes.{length_with, with_beyond}
use Rattle.base.proofs.Written.{written_in, written_before, written_beyond}
use Rattle.base.proofs.Frames.{same_bit, bit_written, bit_kept}
use Rattle.rules.specs.Numbers.{mark, huge_of, group_of}
use Rattle.rules.specs.State.{Mem, with_rows, with_entries, with_entry, lengths_of, entry_of, free_of}
use Rattle.rules.specs.Refusals.{Sized}
use Rattle.rules.specs.Get.{taken}
use Rattle.rules.specs.Consistent.{in_block}
use Rattle.rules.specs.Steps.{BitsTaken, BitsGiven}
use Rattle.rules.proofs.Numbers.{tree_pos}
use Rattle.rules.proofs.Present.{present_entry, present_ends, huge_is, huge_ends}
use Rattle.rules.proofs.Effects.{by_place, in_block_lem, out_of_block}
use Rattle.rules.proofs.GroupSteps.{group_frames}

-- ---- runs of bits and entries

-- a run of bits
run_bits : (b : Bool) (rows : List ℕ) (a k f : ℕ) → a + 2 ^ k ≤ length rows * 64 → bit_is true (with_bits b rows a (a + 2 ^ k)) f ≡ pick (in_block a k f) b (bit_is true rows f)
run_bits b rows a k f lent =
    by_place a k f
    (λ low high. rw (in_block_lem a k f low high) (bit_written b rows a (a + 2 ^ k) some true f (omega arith) low high))
    (λ out. rw (out_of_block a k f out) (elim (dec_lt (f / 64) (length rows)) [
      | yes l ↦ bit_kept b rows a (a + 2 ^ k) some true f l out
      | no l ↦ same_bit true (with_bits b rows a (a + 2 ^ k)) rows f (with_beyond b rows a (a + 2 ^ k) (f / 64) some (omega arith))
    ]))
  where
    some : a ≤ a + 2 ^ k
    some = omega arith

-- one entry, w at x; below the huge order a group is one
one_entry : (h : ℕ) (es : List ℕ) (x o w y : ℕ) (v : ℕ → ℕ) → o < h → x < length es → w ≡ v x → entry_of (set es x w) y ≡ pick (in_block x (o - h) y) (v y) (entry_of es y)
one_entry h es x o w y v l lent is =
    let one : 2 ^ (o - h) ≡ 1 = let z : o - h ≡ 0 = omega arith in rw z in
    by_place x (o - h) y
    (λ low high. let here : y ≡ x = omega arith in rw (in_block_lem x (o - h) y low high, here) (get_or-set_same es x w 0 lent ∙ is))
    (λ out. rw (out_of_block x (o - h) y out) (get_or-set_other es x y w 0 (λ here. ⊎_elim (λ u. omega arith) (λ u. omega arith) out)))

-- the entries of a group
group_entries : (es : List ℕ) (at k v y : ℕ) → ((i : ℕ) → i < at + 2 ^ k → i < length es) → entry_of (written (λ i. v) es at (2 ^ k)) y ≡ pick (in_block at k y) v (entry_of es y)
group_entries es at k v y lent =
    by_place at k y
    (λ low high. rw (in_block_lem at k y low high) (written_in (λ i. v) es at (2 ^ k) y low high (lent y high)))
    (λ out. rw (out_of_block at k y out) (⊎_elim (written_before (λ i. v) es at (2 ^ k) y) (written_beyond (λ i. v) es at (2 ^ k) y) out))

-- a huge frame's frames
huge_frames : (h x f : ℕ) → in_block (x * 2 ^ h) h f ≡ eqb (huge_of h f) x
huge_frames h x f =
    by_place (x * 2 ^ h) h f
    (λ low high. rw (in_block_lem (x * 2 ^ h) h f low high) (sym (eq-eqb (huge_of h f) x (huge_is h x f low (omega arith)))))
    (λ out. rw (out_of_block (x * 2 ^ h) h f out) (sym (ne_eqb (huge_of h f) x (λ q.
    let w = huge_ends h f x q in
    ⊎_elim (λ u. omega (arith, w.0)) (λ u. omega (arith, w.1)) out))))

-- bits that are set, and then others that are cleared
covered : (i b : Bool) → pick i true b ≡ (b || i)
covered true b = sym (or-true b)
covered false b = sym (or-false b)

parted : (i j b : Bool) → pick i false (pick j true b) ≡ ((b || j) && not i)
parted true j b = sym (and-false (b || j))
parted false j b = covered j b ∙ sym (and-true (b || j))

-- ---- a block that ends at or before N

module _ {h n t : ℕ} (H : Huge h) (m : Mem) (s : Sized h n t (lengths_of m)) (a o : ℕ) (ends : a + 2 ^ o ≤ n) where
  abbrev x : ℕ
  x = huge_of h a

  here : x * 2 ^ h < n
  here = omega (arith, div-mul-le_self a (2 ^ h), pow_pos o)

  huge_lent : (x + 1) * 2 ^ h ≤ length m.rows * 64
  huge_lent = omega (arith, present_ends H n x here, s.rows)

  block_lent : a + 2 ^ o ≤ length m.rows * 64
  block_lent =
      let last : (a + 2 ^ o - 1) / 2 ^ h * 2 ^ h < n = omega (arith, div-mul-le_self (a + 2 ^ o - 1) (2 ^ h), pow_pos o) in
      omega (arith, present_ends H n ((a + 2 ^ o - 1) / 2 ^ h) last, (huge_ends h (a + 2 ^ o - 1) _ refl).1, pow_pos o, s.rows)

  entry_lent : x < length m.entries
  entry_lent = omega (arith, present_entry h n t x (tree_pos t s.tree) here, s.entries)

  group_lent : h ≤ o → (i : ℕ) → i < x + group_of h o → i < length m.entries
  group_lent l i u =
      let last : (i + 1) * 2 ^ h ≤ (x + group_of h o) * 2 ^ h = mul-le-mul_right (2 ^ h) (omega arith) in
      let begins : i * 2 ^ h < n = omega (arith, group_frames h x o l, div-mul-le_self a (2 ^ h), pow_pos h) in
      omega (arith, present_entry h n t i (tree_pos t s.tree) begins, s.entries)

  -- taken
  pub block_taken : o < h → BitsTaken h m (taken h m a o) a o
  block_taken l = record {
    bits = λ f. rw (lt-ltb o h l) (run_bits true m.rows a o f block_lent ∙ covered (in_block a o f) (bit_is true m.rows f));
    entries = λ y. rw (lt-ltb o h l) (one_entry h m.entries x o _ y (λ i. entry_of m.entries i - 2 ^ o) l entry_lent refl);
  }

  pub group_taken : h ≤ o → BitsTaken h m (with_entries m (written (λ i. mark) m.entries x (group_of h o))) a o
  group_taken l = record {
    bits = λ f. rw (le-ltb o h l) (sym (or-false (bit_is true m.rows f)));
    entries = λ y. rw (le-ltb o h l) (group_entries m.entries x (o - h) mark y (group_lent l));
  }

  -- given back
  abbrev e : ℕ
  e = entry_of m.entries x

  pub block_given : o < h → eqb e mark ≡ false → BitsGiven h m (with_entry (with_rows m (with_bits false m.rows a (a + 2 ^ o))) x (e + 2 ^ o)) a o
  block_given l k = record {
    bits = λ f. rw (lt-ltb o h l, k) (run_bits false m.rows a o f block_lent ∙ parted (in_block a o f) false (bit_is true m.rows f));
    entries = λ y. rw (lt-ltb o h l) (one_entry h m.entries x o _ y (λ i. free_of (entry_of m.entries i) + 2 ^ o) l entry_lent (rw k));
  }

  pub part_given : o < h → eqb e mark ≡ true
      → BitsGiven h m (with_entry (with_rows m (with_bits false (with_bits true m.rows (x * 2 ^ h) (x * 2 ^ h + 2 ^ h)) a (a + 2 ^ o))) x (2 ^ o)) a o
  part_given l k =
      let first = x * 2 ^ h in
      let filled = with_bits true m.rows first (first + 2 ^ h) in
      record {
        bits = λ f.
            rw (lt-ltb o h l, k)
            (run_bits false filled a o f (rw (length_with true m.rows first (first + 2 ^ h)) block_lent)
            ∙ rw (run_bits true m.rows first h f (omega (arith, huge_lent)), huge_frames h x f) (parted (in_block a o f) (eqb (huge_of h f) x) (bit_is true m.rows f)));
        entries = λ y. rw (lt-ltb o h l) (one_entry h m.entries x o _ y (λ i. free_of (entry_of m.entries i) + 2 ^ o) l entry_lent (rw (k, zero-add)));
      }

  pub group_given : h ≤ o → BitsGiven h m (with_entries m (written (λ i. 2 ^ h) m.entries x (group_of h o))) a o
  group_given l = record {
    bits = λ f. rw (le-ltb o h l);
    entries = λ y. rw (le-ltb o h l) (group_entries m.entries x (o - h) (2 ^ h) y (group_lent l));
  }
