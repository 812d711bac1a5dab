-- Below the huge order, in a consistent tree: what get with a frame, put and is_free answer, and what they leave. Assumes nothing.
use mathlib.Core.Path.{◌≡◌, refl, sym, ap, ◌∙◌}
use mathlib.Core.Bool.{Bool, true, false, not, ◌&&◌, and-false, true≢false}
use mathlib.Core.List.{List}
use mathlib.Core.Logic.{inr}
use Prim.Native.Nat.{ℕ, ◌+◌, ◌-◌, ◌*◌, ◌/◌, ◌%◌, ◌^◌, ◌≤◌, ◌<◌}
use native.Mathlib.Decide.{ℕ_discrete}
use native.Mathlib.Nat.{div-mul-le_self}
use native.Mathlib.Omega.{arith}
use lib.Dec.{eqb, leb}
use lib.Pow.{pow_pos}
use lib.ListN.{length}
use borrow.Author.Tests.{eq-eqb, ne_eqb, le-leb, lt-leb}
use Rattle.base.specs.Walk.{pick, all, count}
use Rattle.base.specs.Code.{Out, out, unless}
use Rattle.base.specs.Bits.{bit_is, block_is, with_bits}
use Rattle.base.specs.Size.{Huge}
use Rattle.base.proofs.Walks.{either, count_le, count_full}
use Rattle.base.proofs.Frames.{bit_written, bit_kept, zeros_block, block_of}
use Rattle.rules.specs.Numbered.{Got}
use Rattle.rules.specs.Numbers.{mark, huge_of, tree_of}
use Rattle.rules.specs.Refusals.{Blocked}
use Rattle.rules.specs.State.{Mem, entry_of, clear_of, lengths_of, with_rows, with_entry}
use Rattle.rules.specs.Get.{got, taken, get_small_at}
use Rattle.rules.proofs.Numbers.{tree_of_huge}
use Rattle.rules.proofs.Present.{huge_ends, block_within}
use Rattle.rules.specs.Put.{put_marked, put_counted, put_small}
use Rattle.rules.specs.Queries.{is_free_small}
use Rattle.rules.specs.Consistent.{ByCount, ConsistentIn, free, held}
use Rattle.rules.proofs.Effects.{Took, Gave, Beside}
use Rattle.rules.proofs.Blocks.{free_bit, is_counted, is_marked, block_present, block_lent, block_marked, marked_held, block_free, block_held, block_counts}
use Rattle.rules.proofs.Rewrites.{run_rewritten, run_clears, Renewed, renewed}
use Rattle.rules.proofs.Flips.{took, gave}
use Rattle.rules.proofs.Splits.{split, split_gave}

-- what a get with a frame leaves if the block is free, or if not
abbrev get_out : ℕ → Mem → ℕ → ℕ → Bool → Out Got Mem
get_out h m f o b = pick b (out (got 0 f 1) (taken h m f o)) (out (got 7 0 1) m)

module _ {h n t : ℕ} {m : Mem} {y : ℕ} (H : Huge h) (c : ConsistentIn h n t m y) (f o : ℕ) (low : o < h) (even : f % 2 ^ o ≡ 0) (ends : f + 2 ^ o ≤ n)
    (own : huge_of h f / t ≡ y) where
  abbrev entry : ℕ
  entry = entry_of m.entries (huge_of h f)

  lent : (huge_of h f + 1) * 2 ^ h ≤ length m.rows * 64
  lent = block_lent c f o low even ends H

  -- ---- a huge frame without the mark

  module _ (q : entry ≡ mark → ⊥) where
    counted : ByCount h n m (huge_of h f)
    counted = is_counted c (huge_of h f) own (block_present c f o low even ends) q

    -- the block's bits written with b
    module _ (b : Bool) where
      abbrev toggled : List ℕ
      toggled = with_bits b m.rows f (f + 2 ^ o)

      some : f ≤ f + 2 ^ o
      some = omega arith

      toggled_clears : clear_of h toggled (huge_of h f) + count (bit_is false m.rows) (2 ^ o) f ≡ entry + pick b 0 (2 ^ o)
      toggled_clears =
          omega (arith, run_clears h b m.rows (huge_of h f) f (2 ^ o) (div-mul-le_self f (2 ^ h)) (block_within f o low even) lent, counted.counts)

      toggled_renewed : (e : ℕ) → e ≡ clear_of h toggled (huge_of h f) → Renewed h n t m (with_entry (with_rows m toggled) (huge_of h f) e) (huge_of h f)
      toggled_renewed e counts =
          renewed H c (huge_of h f) (block_present c f o low even ends) toggled
          (run_rewritten h b m.rows (huge_of h f) f (2 ^ o) (div-mul-le_self f (2 ^ h)) (block_within f o low even) c.fits.rows) e counts
          (λ g a u. bit_kept b m.rows f (f + 2 ^ o) some true g (omega (arith, lent)) (inr (omega arith)) ∙ counted.past g a u)

      toggled_beside : (g : ℕ) → huge_of h g ≡ huge_of h f → g < n → Beside f o g → bit_is false toggled g ≡ free h n m g
      toggled_beside g k l s =
          bit_kept b m.rows f (f + 2 ^ o) some false g (omega (arith, lent, (huge_ends h g (huge_of h f) k).1)) s
          ∙ sym (free_bit h n m g l (λ e. q (ap (entry_of m.entries) (sym k) ∙ e)))

      toggled_in : (g : ℕ) → f ≤ g → g < f + 2 ^ o → bit_is false toggled g ≡ not b
      toggled_in g l u = bit_written b m.rows f (f + 2 ^ o) some false g (omega (arith, lent, block_within f o low even)) l u

    pub small_taken : block_is false m.rows f (2 ^ o) ≡ true → Took h n t m (taken h m f o) f o
    small_taken e =
        took f o low even ends (toggled_renewed true (entry - 2 ^ o) (omega (arith, toggled_clears true, zeros_block false m.rows f (2 ^ o) e)))
        (toggled_beside true) (block_free c f o low even ends q ∙ e) (toggled_in true)

    abbrev given : Mem
    given = with_entry (with_rows m (toggled false)) (huge_of h f) (entry + 2 ^ o)

    -- what a put leaves if the block's bits are set, or if not
    abbrev put_out : Bool → Out ℕ Mem
    put_out b = pick b (out 0 given) (out 7 m)

    small_given : block_is true m.rows f (2 ^ o) ≡ true → Gave h n t m given f o
    small_given e =
        gave f o low even ends (toggled_renewed false (entry + 2 ^ o) (omega (arith, toggled_clears false, zeros_block true m.rows f (2 ^ o) e)))
        (toggled_beside false) (block_held c f o low even ends q ∙ e) (toggled_in false)

    -- a count is never above 512, and never below what is clear, so the bits alone decide a get
    get_counted : (b : Bool) → block_is false m.rows f (2 ^ o) ≡ b
        → pick (leb (2 ^ o) entry) (pick b (out (got 0 f 1) (taken h m f o)) (out (got (pick (leb entry (2 ^ h)) 7 8) 0 1) m)) (out (got 7 0 1) m) ≡ get_out h m f o b
    get_counted true e = rw (le-leb (2 ^ o) entry (block_counts c f o low even ends q own e))
    get_counted false e = rw (le-leb entry (2 ^ h) counted.most) (either (leb (2 ^ o) entry) (out (got 7 0 1) m))

    -- what is set was not counted, so they decide a put
    set_uncounted : block_is true m.rows f (2 ^ o) ≡ true → entry ≤ 2 ^ h - 2 ^ o
    set_uncounted e = omega (arith, toggled_clears false, zeros_block true m.rows f (2 ^ o) e, count_le (bit_is false (toggled false)) (2 ^ h) (huge_of h f * 2 ^ h))

    put_counted_lem : (b : Bool) → block_is true m.rows f (2 ^ o) ≡ b → (leb entry (2 ^ h - 2 ^ o) && b) ≡ b
    put_counted_lem true e = rw (le-leb entry (2 ^ h - 2 ^ o) (set_uncounted e))
    put_counted_lem false e = and-false (leb entry (2 ^ h - 2 ^ o))

    -- and is_free: where all are clear, the block is
    free_counted : (b : Bool) → block_is false m.rows f (2 ^ o) ≡ b → pick (leb (2 ^ o) entry) (pick (eqb entry (2 ^ h)) true b) false ≡ b
    free_counted true e = rw (le-leb (2 ^ o) entry (block_counts c f o low even ends q own e)) (either (eqb entry (2 ^ h)) true)
    free_counted false e = rw (ne_eqb entry (2 ^ h) whole) (either (leb (2 ^ o) entry) false)
      where
        whole : entry ≡ 2 ^ h → ⊥
        whole k =
            let clear = count_full (bit_is false m.rows) (2 ^ h) (huge_of h f * 2 ^ h) (sym counted.counts ∙ k) in
            true≢false (sym (block_of false m.rows f (2 ^ o) (λ g a u. clear g (omega (arith, div-mul-le_self f (2 ^ h))) (omega (arith, block_within f o low even)))) ∙ e)

  -- ---- the answers

  get_small_at_is : get_small_at h m f o ≡ get_out h m f o (all (free h n m) (2 ^ o) f)
  unfolding get_small_at
  get_small_at_is = elim (ℕ_discrete entry mark) [
    | yes q ↦ rw (eq-eqb entry mark q, lt-leb (2 ^ o) 0 (pow_pos o), block_marked c f o low even ends q)
    | no q ↦ rw (ne_eqb entry mark q, block_free c f o low even ends q) (get_counted q (block_is false m.rows f (2 ^ o)) refl)
  ]

  -- a block that is free lies under no mark, and its bits are clear
  free_taken : all (free h n m) (2 ^ o) f ≡ true → Took h n t m (taken h m f o) f o
  free_taken e = elim (ℕ_discrete entry mark) [
    | yes q ↦ absurd (true≢false (sym e ∙ block_marked c f o low even ends q))
    | no q ↦ small_taken q (sym (block_free c f o low even ends q) ∙ e)
  ]

  is_free_small_is : is_free_small h m f o ≡ all (free h n m) (2 ^ o) f
  unfolding is_free_small
  is_free_small_is = elim (ℕ_discrete entry mark) [
    | yes q ↦ rw (eq-eqb entry mark q, lt-leb (2 ^ o) 0 (pow_pos o), block_marked c f o low even ends q)
    | no q ↦ rw (ne_eqb entry mark q, block_free c f o low even ends q) (free_counted q (block_is false m.rows f (2 ^ o)) refl)
  ]

  -- under a mark all bits are clear
  put_marked_is : entry ≡ mark → put_small h m f o ≡ out 0 (split h m f o)
  unfolding put_small put_marked
  put_marked_is q =
      let k = is_marked c H (huge_of h f) own (block_present c f o low even ends) q in
      rw (eq-eqb entry mark q, block_of false m.rows (huge_of h f * 2 ^ h) (2 ^ h) (λ g a u. k.clear g a (omega arith)))

  put_counted_is : (q : entry ≡ mark → ⊥) → put_small h m f o ≡ put_out q (block_is true m.rows f (2 ^ o))
  unfolding put_small put_counted
  put_counted_is q = rw (ne_eqb entry mark q, put_counted_lem q (block_is true m.rows f (2 ^ o)) refl)

  put_small_is : ((put_small h m f o).answer ≡ unless (all (held h n m) (2 ^ o) f) 7) × ((put_small h m f o).answer ≡ 0 → Gave h n t m (put_small h m f o).left f o)
  put_small_is = elim (ℕ_discrete entry mark) [
    | yes q ↦ rw (put_marked_is q, marked_held c f o low even ends q) (refl, λ _. split_gave H c f o low even ends own q)
    | no q ↦ rw (put_counted_is q, block_held c f o low even ends q) (go q (block_is true m.rows f (2 ^ o)) refl)
  ]
    where
      go : (q : entry ≡ mark → ⊥) (b : Bool) → block_is true m.rows f (2 ^ o) ≡ b
          → ((put_out q b).answer ≡ unless b 7) × ((put_out q b).answer ≡ 0 → Gave h n t m (put_out q b).left f o)
      go q true e = (refl, λ _. small_given q e)
      go q false e = (refl, λ z. absurd (omega arith))

-- ---- of a call that passed its refusals

module _ {h n t : ℕ} {m : Mem} {y f o : ℕ} (H : Huge h) (c : ConsistentIn h n t m y) (low : o < h) (b : Blocked h n t (lengths_of m) f o) (own : tree_of h t f ≡ y) where
  its_tree : huge_of h f / t ≡ y
  its_tree = sym (tree_of_huge h t f) ∙ own

  pub get_small_at_exact : ((get_small_at h m f o).answer ≡ pick (all (free h n m) (2 ^ o) f) (got 0 f 1) (got 7 0 1))
      × (all (free h n m) (2 ^ o) f ≡ true → Took h n t m (get_small_at h m f o).left f o)
      × (all (free h n m) (2 ^ o) f ≡ false → (get_small_at h m f o).left ≡ m)
  get_small_at_exact =
      rw (get_small_at_is H c f o low b.aligned b.ends its_tree) (go (all (free h n m) (2 ^ o) f) (free_taken H c f o low b.aligned b.ends its_tree))
    where
      go : (b : Bool) → (b ≡ true → Took h n t m (taken h m f o) f o)
          → ((get_out h m f o b).answer ≡ pick b (got 0 f 1) (got 7 0 1)) × (b ≡ true → Took h n t m (get_out h m f o b).left f o) × (b ≡ false → (get_out h m f o b).left ≡ m)
      go true k = (refl, k, λ e. absurd (true≢false e))
      go false k = (refl, λ e. absurd (true≢false (sym e)), λ _. refl)

  pub put_small_exact : ((put_small h m f o).answer ≡ unless (all (held h n m) (2 ^ o) f) 7) × ((put_small h m f o).answer ≡ 0 → Gave h n t m (put_small h m f o).left f o)
  put_small_exact = put_small_is H c f o low b.aligned b.ends its_tree

  pub is_free_small_exact : is_free_small h m f o ≡ all (free h n m) (2 ^ o) f
  is_free_small_exact = is_free_small_is H c f o low b.aligned b.ends its_tree
