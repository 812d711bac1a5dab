-- The reason of a get without a frame in a consistent tree, by its entries, and below the huge order by its rows. Assumes nothing.
use mathlib.Core.Path.{◌≡◌, sym, ap, ◌∙◌}
use mathlib.Core.Bool.{false}
use Prim.Native.Nat.{ℕ, ◌+◌, ◌*◌, ◌/◌, ◌^◌, ◌≤◌, ◌<◌}
use native.Mathlib.Decide.{dec_lt}
use native.Mathlib.Omega.{arith}
use lib.Dec.{eqb}
use lib.ListN.{length}
use borrow.Author.Tests.{eq-eqb, ne_eqb, lt-ltb, le-ltb, le-leb}
use Rattle.base.specs.Size.{Huge, rows_per}
use Rattle.base.proofs.Counting.{count_tells_none}
use Rattle.base.proofs.Rests.{quotient_is}
use Rattle.rules.specs.Numbers.{top_order, trees_needed, group_of}
use Rattle.rules.specs.State.{Mem, entry_of, free_of, blocks_in}
use Rattle.rules.specs.Room.{room_at}
use Rattle.rules.specs.Consistent.{ConsistentIn}
use Rattle.rules.specs.Why.{too_few, no_block, get_reason}
use Rattle.rules.proofs.Lent.{present_rows}
use Rattle.rules.proofs.Needed.{tree_needed}
use Rattle.rules.proofs.WhyEntries.{few_by_entries, spread_by_entries, none_by_rows, none_by_entries}
use Rattle.why.specs.Told.{small_reason}

module _ {h n t : ℕ} {m : Mem} {y : ℕ} (H : Huge h) (c : ConsistentIn h n t m y) (low : y < trees_needed h n t) {first : ℕ} (first_is : first ≡ y * t) where
  -- the rows of a huge frame that counts free frames are lent: absent ones count none
  pub free_rows : (x : ℕ) → first ≤ x → x < first + t → 0 < free_of (entry_of m.entries x) → (x + 1) * rows_per h ≤ length m.rows
  free_rows x a b some = elim (dec_lt (x * 2 ^ h) n) [
    | yes l ↦ present_rows H c.sized x l
    | no l ↦
        let none = c.absent x (quotient_is t y x (omega arith) (omega arith)) (omega arith) (omega (arith, tree_needed h n t y low)) in
        absurd (omega (arith, ap free_of none))
  ]

  module _ (o : ℕ) {blocks size : ℕ} (blocks_is : blocks ≡ blocks_in m.entries t first 0) (size_is : size ≡ 2 ^ o) where
    pub get_few : blocks < size → 1 ≡ get_reason h n t m y o
    unfolding get_reason
    get_few l = rw (few_by_entries H c low o, ← first_is, ← blocks_is, ← size_is, lt-ltb blocks size l)

    module _ (l : size ≤ blocks) where
      enough : too_few h n t m y o ≡ false
      enough = rw (few_by_entries H c low o, ← first_is, ← blocks_is, ← size_is, le-ltb blocks size l)

      pub get_small_lem : o < h → {r : ℕ} → r ≡ small_reason h t m first o → r ≡ get_reason h n t m y o
      unfolding get_reason
      get_small_lem below e = rw (enough, spread_by_entries H c low o below, none_by_rows H c low o below, ← first_is) e

      module _ (above : h ≤ o) (top : o ≤ top_order h t) {r : ℕ} (r_is : r ≡ room_at h t m.entries first o) where
        none_told : no_block h n t m y o ≡ eqb r 0
        unfolding room_at
        none_told =
            none_by_entries H c low o above top
            ∙ sym (rw (r_is, le-ltb o h above, le-leb o (top_order h t) top, first_is) (count_tells_none _ (t / group_of h o) 0))

        pub get_none : r ≡ 0 → 3 ≡ get_reason h n t m y o
        unfolding get_reason
        get_none z = rw (enough, le-ltb o h above, none_told, eq-eqb r 0 z)

        pub get_some : (r ≡ 0 → ⊥) → 0 ≡ get_reason h n t m y o
        unfolding get_reason
        get_some z = rw (enough, le-ltb o h above, none_told, ne_eqb r 0 z)
