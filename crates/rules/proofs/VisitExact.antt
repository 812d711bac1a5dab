-- A visit of a get, on any memory of the needed size, in terms of the places of all rows: it passes, or is damage, or ends at the first clear block. Assumes nothing.
use mathlib.Core.Path.{◌≡◌, refl, ap, ◌∙◌}
use mathlib.Core.Bool.{Bool, true, false, not, ◌&&◌, ◌||◌}
use Prim.Native.Nat.{ℕ, ◌+◌, ◌-◌, ◌*◌, ◌^◌, ◌≤◌, ◌<◌}
use native.Mathlib.Decide.{dec_lt}
use native.Mathlib.Omega.{arith}
use lib.Dec.{eqb, leb, ltb}
use lib.ListN.{length}
use lib.Pow.{pow_pos}
use borrow.Author.Tests.{eq-eqb, ne_eqb, le-leb, lt-leb, lt-ltb, le-ltb}
use Rattle.base.specs.Walk.{pick}
use Rattle.base.specs.Code.{or_else}
use Rattle.base.specs.Size.{Huge, rows_per}
use Rattle.base.specs.Bits.{block_is}
use Rattle.base.proofs.Tests.{not_leb}
use Rattle.base.proofs.Walks.{first_same, first_le}
use Rattle.base.proofs.Rests.{mod_sum}
use Rattle.base.proofs.Sizes.{rows_frames, first_row}
use Rattle.base.proofs.Parts.{part_long, block_part}
use Rattle.bitfield_rules.specs.Calls.{placed, visited, passed, first_zeros}
use Rattle.bitfield_rules.proofs.Order.{origin_block, visited_ends}
use Rattle.rules.specs.Numbers.{mark, block_at}
use Rattle.rules.specs.State.{Mem, entry_of, free_of, rows_of}
use Rattle.rules.specs.Refusals.{sizes_refusal}
use Rattle.rules.proofs.Lent.{sized, present_rows}
use Rattle.rules.specs.Numbered.{Pass, Damage, Place}
use Rattle.rules.specs.Get.{visit, searched}
use Rattle.rules.specs.Steps.{place, missed, goes_on, block, damaged}

-- an entry is skipped that is the mark, or below 2 ^ o
pub few_is : (e o : ℕ) → ltb (free_of e) (2 ^ o) ≡ (eqb e mark || ltb e (2 ^ o))
few_is e o = go (eqb e mark)
  where
    go : (b : Bool) → ltb (pick b 0 e) (2 ^ o) ≡ (b || ltb e (2 ^ o))
    go true = lt-ltb 0 (2 ^ o) (pow_pos o)
    go false = refl

-- an eligible entry of a present huge frame, where e is the entry, k how many places are missed of c, and q the place after them: what its search leads to
leads : (h n e x o k c q p : ℕ) → x * 2 ^ h + q ≡ p → k ≤ c
    → searched h n e x o (pick (ltb k c) (placed 0 q) (placed 7 0))
    ≡ pick (eqb k c && leb e (2 ^ h)) Pass (pick (eqb k c || ltb n (p + 2 ^ o)) Damage (Place p))
leads h n e x o k c q p at u = elim (dec_lt k c) [
  | yes l ↦ rw (lt-ltb k c l, ne_eqb k c (λ z. omega arith), at, ← not_leb (p + 2 ^ o) n) (ends (leb (p + 2 ^ o) n))
  | no l ↦ rw (le-ltb k c (omega arith), eq-eqb k c (omega arith))
]
  where
    ends : (b : Bool) → pick b (Place p) Damage ≡ pick (not b) Damage (Place p)
    ends true = refl
    ends false = refl

module _ {h : ℕ} (H : Huge h) (m : Mem) (row o x : ℕ) (l : o < h) where
  -- the places that are searched in a part are places of all rows
  place_is : (j : ℕ) → x * 2 ^ h + visited h row o j ≡ place h row o x j
  place_is j = ap (λ (k : ℕ). x * 2 ^ h + k) (rw (origin_block H row o (omega arith)) (mod_sum (block_at o (row * 64)) (j * 2 ^ o) (2 ^ h)))

  passed_is : passed h (rows_of h m.rows x) row o ≡ missed h m row o x
  unfolding passed
  passed_is = first_same _ _ (2 ^ (h - o)) 0 (λ j _ _.
      block_part false m.rows (x * rows_per h) (rows_per h) (visited h row o j) (2 ^ o) (rw (← rows_frames H) (visited_ends H row o (omega arith) j))
      ∙ ap (λ (k : ℕ). block_is false m.rows k (2 ^ o)) (ap (λ (k : ℕ). k + visited h row o j) (first_row H x) ∙ place_is j))

  search_is : length (rows_of h m.rows x) ≡ rows_per h
      → first_zeros h (rows_of h m.rows x) row o ≡ pick (ltb (missed h m row o x) (2 ^ (h - o))) (placed 0 (visited h row o (missed h m row o x))) (placed 7 0)
  unfolding first_zeros or_else
  search_is e = rw (e, eq-eqb (rows_per h) (rows_per h) refl, le-leb o h (omega arith), passed_is)

pub visit_is_exact : (h n t : ℕ) (m : Mem) (row o x : ℕ) → Huge h → o < h → sizes_refusal h n t m ≡ 0
    → visit h n m row o x ≡ pick (goes_on h n m row o x) Pass (pick (damaged h n m row o x) Damage (Place (block h m row o x)))
unfolding visit
visit_is_exact h n t m row o x H l s =
    let e = entry_of m.entries x in
    let k = missed h m row o x in
    let most : k ≤ 2 ^ (h - o) = omega (arith, first_le (λ j. block_is false m.rows (place h row o x j) (2 ^ o)) (2 ^ (h - o)) 0) in
    elim (dec_lt (free_of e) (2 ^ o)) [
      | yes few ↦ rw (lt-ltb o h l, ← few_is e o, lt-leb (2 ^ o) (free_of e) few, lt-ltb (free_of e) (2 ^ o) few)
      | no many ↦
          let enough : 2 ^ o ≤ free_of e = omega arith in
          elim (dec_lt (x * 2 ^ h) n) [
            | yes here ↦
                rw (
                  lt-ltb o h l,
                  ← few_is e o,
                  le-leb (2 ^ o) (free_of e) enough,
                  le-ltb (free_of e) (2 ^ o) enough,
                  lt-ltb (x * 2 ^ h) n here,
                  lt-leb n (x * 2 ^ h) here,
                  search_is H m row o x l (part_long m.rows (x * rows_per h) (rows_per h) (omega (arith, present_rows H (sized h n t _ s) x here))),
                ) (leads h n e x o k (2 ^ (h - o)) _ _ (place_is H m row o x l k) most)
            | no gone ↦
                let absent : n ≤ x * 2 ^ h = omega arith in
                rw (lt-ltb o h l, ← few_is e o, le-leb (2 ^ o) (free_of e) enough, le-ltb (free_of e) (2 ^ o) enough, le-ltb (x * 2 ^ h) n absent, le-leb n (x * 2 ^ h) absent)
          ]
    ]
