-- Why a get without a frame is refused, told by the entries of a consistent tree, and below the huge order by a search of its rows. Assumes nothing.
use mathlib.Core.Path.{◌≡◌, refl, sym, ap, ◌∙◌}
use mathlib.Core.Bool.{Bool, true, false, not, ◌||◌}
use Prim.Native.Nat.{ℕ, ◌+◌, ◌-◌, ◌*◌, ◌/◌, ◌^◌, ◌≤◌, ◌<◌}
use native.Mathlib.Nat.{add-zero, mul_assoc, mul_comm, mul-div_cancel, mul-le-mul_right, mul-mod_left}
use native.Mathlib.Omega.{arith}
use lib.Dec.{eqb, leb, ltb}
use lib.Pow.{pow_pos}
use borrow.Author.Tests.{lt-ltb}
use Rattle.base.specs.Walk.{pick, all}
use Rattle.base.specs.Size.{Huge}
use Rattle.base.proofs.Rests.{quotient_is}
use Rattle.base.proofs.Sizes.{pow_divides}
use Rattle.base.proofs.Walks.{all_same, all_shift}
use Rattle.base.proofs.Tests.{not_leb}
use Rattle.base.proofs.Counting.{all_runs}
use Rattle.bitfield_rules.specs.Calls.{Placed}
use Rattle.bitfield_rules.specs.Calls.{first_zeros}
use Rattle.rules.specs.Numbers.{huge_of, present, tree_log, top_order, trees_needed, entries_needed, group_of}
use Rattle.rules.specs.State.{Mem, entry_of, free_of, rows_of, entries_are, blocks_in}
use Rattle.rules.specs.Get.{visit}
use Rattle.rules.specs.Numbered.{Pass, Damage, Place}
use Rattle.rules.specs.Consistent.{ConsistentIn, entirely}
use Rattle.rules.specs.Why.{too_few, spread, no_block}
use Rattle.rules.proofs.Entries.{frames_in}
use Rattle.rules.proofs.Needed.{tree_needed}
use Rattle.rules.proofs.Trees.{tree_frames, log_pow}
use Rattle.rules.proofs.HugeFrames.{entry_counts, entry_tells, block_is_its_huge_frames}
use Rattle.rules.proofs.FreeCounts.{tree_counts}
use Rattle.rules.proofs.Blocks.{block_free}
use Rattle.rules.proofs.Visits.{NoneOf, FirstOf, Says, visit_says}
use Rattle.rules.proofs.WhyBlocks.{blockless, none_blockless, some_not_blockless}

module _ {h n t : ℕ} {m : Mem} {y : ℕ} (H : Huge h) (c : ConsistentIn h n t m y) (low : y < trees_needed h n t) (o : ℕ) where
  -- the huge frames of the tree are its own, and their entries are needed
  own : (x : ℕ) → y * t ≤ x → x < y * t + t → (x / t ≡ y) × (x < entries_needed h n t)
  own x a b = (quotient_is t y x a b, omega (arith, tree_needed h n t y low))

  pub few_by_entries : too_few h n t m y o ≡ ltb (blocks_in m.entries t (y * t) 0) (2 ^ o)
  few_by_entries = ap (λ (k : ℕ). ltb k (2 ^ o)) (sym (tree_counts H c low) ∙ sym (frames_in m.entries t (y * t)))

  -- ---- below the huge order

  module _ (l : o < h) where
    -- whether entry x counts too few, and what a search of its rows answers
    abbrev few : ℕ → Bool
    few x = ltb (free_of (entry_of m.entries x)) (2 ^ o)

    abbrev found : ℕ → Placed
    found x = first_zeros h (rows_of h m.rows x) 0 o

    pub spread_by_entries : spread h n t m y o ≡ all (λ x. ltb (free_of (entry_of m.entries x)) (2 ^ o)) t (y * t)
    spread_by_entries =
        rw (lt-ltb o h l)
        (all_same _ _ t (y * t) (λ x a b. ap (λ (k : ℕ). ltb k (2 ^ o)) (sym (entry_counts H c x (own x a b).0 (own x a b).1))))

    -- what a visit says of the blocks of one huge frame
    module _ (x : ℕ) where
      none : NoneOf h n m o x → blockless h n m o h x ≡ true
      none w = none_blockless h n m o h x (omega arith) (λ f b. w f (record { huge = b.run; aligned = b.aligned; ends = b.ends }))

      some : {a : ℕ} → FirstOf h n m 0 o x a → blockless h n m o h x ≡ false
      some {a} w =
          let b = w.block in
          some_not_blockless h n m o h x (omega arith) a (record { run = b.huge; aligned = b.aligned; ends = b.ends })
          (block_free c a o l b.aligned b.ends (rw b.huge w.counted) ∙ w.clear)

      -- one with too few is passed, one that is searched has a block exactly if the search finds it
      said : (e s p b k : Bool) → Says h n m 0 o x (pick e (pick p (pick s (pick b (Place (x * 2 ^ h + (found x).place)) Damage) (pick k Pass Damage)) Damage) Pass)
          → blockless h n m o h x ≡ (not e || not s)
      unfolding Says
      said false s p b k w = none w
      said true true true true k w = some w
      said true true true false k w = absurd w
      said true false true b true w = none w
      said true false true b false w = absurd w
      said true s false b k w = absurd w

      huge_frame_searched : x / t ≡ y → x < entries_needed h n t → blockless h n m o h x ≡ (few x || not (eqb (found x).code 0))
      unfolding visit
      huge_frame_searched own needed =
          let e = entry_of m.entries x in
          said (leb (2 ^ o) (free_of e)) (eqb (found x).code 0) (present h n x) (leb (x * 2 ^ h + (found x).place + 2 ^ o) n) (leb e (2 ^ h)) (visit_says H c 0 o l x own needed)
          ∙ ap (λ (b : Bool). b || not (eqb (found x).code 0)) (not_leb (2 ^ o) (free_of e))

    pub none_by_rows : no_block h n t m y o ≡ all (λ x. ltb (free_of (entry_of m.entries x)) (2 ^ o) || not (eqb (first_zeros h (rows_of h m.rows x) 0 o).code 0)) t (y * t)
    none_by_rows =
        let above : top_order h t - o ≡ h - o + tree_log t = omega arith in
        let many : 2 ^ (top_order h t - o) ≡ t * 2 ^ (h - o) = ap (λ (k : ℕ). 2 ^ k) above ∙ tree_frames t c.sized.tree refl (h - o) ∙ mul_comm (2 ^ (h - o)) t in
        rw (many, ← mul_assoc y t (2 ^ (h - o)))
        (all_runs (λ b. not (entirely h n m (2 ^ o) b)) (2 ^ (h - o)) t (y * t)
        ∙ all_same (blockless h n m o h) (λ x. few x || not (eqb (found x).code 0)) t (y * t) (λ x a b. huge_frame_searched x (own x a b).0 (own x a b).1))

  -- ---- from the huge order up

  module _ (l : h ≤ o) (top : o ≤ top_order h t) where
    -- how many groups the tree has
    abbrev groups : ℕ
    groups = 2 ^ (top_order h t - o)

    groups_whole : groups * group_of h o ≡ t
    groups_whole =
        let fewer : top_order h t - o ≡ tree_log t - (o - h) = omega arith in
        ap (λ (k : ℕ). 2 ^ k * group_of h o) fewer ∙ pow_divides (o - h) (tree_log t) (omega arith) ∙ log_pow t c.sized.tree refl

    groups_are : t / group_of h o ≡ groups
    groups_are = ap (λ (k : ℕ). k / group_of h o) (sym groups_whole) ∙ mul-div_cancel groups (pow_pos (o - h))

    -- a block is a group, which its entries tell of
    group_told : (j : ℕ) → j < groups → entirely h n m (2 ^ o) (y * groups + j) ≡ entries_are (2 ^ h) m.entries (y * t + j * group_of h o) (group_of h o)
    group_told j u =
        let g = group_of h o in
        let b = y * groups + j in
        let number : b * g ≡ y * (groups * g) + j * g = omega arith in
        let first : huge_of h (b * 2 ^ o) ≡ y * t + j * g =
        ap (λ (k : ℕ). b * k / 2 ^ h) (sym (pow_divides h o l)) ∙ ap (λ (k : ℕ). k / 2 ^ h) (sym (mul_assoc b g (2 ^ h))) ∙ mul-div_cancel (b * g) (pow_pos h)
        ∙ number ∙ ap (λ (k : ℕ). y * k + j * g) groups_whole in
        let ends : (j + 1) * g ≤ groups * g = mul-le-mul_right g (omega arith) in
        block_is_its_huge_frames h n m (b * 2 ^ o) o l (mul-mod_left b (2 ^ o))
        ∙ rw first (all_same (entirely h n m (2 ^ h)) (λ x. eqb (entry_of m.entries x) (2 ^ h)) g (y * t + j * g) (λ x a u.
        let (its, needed) = own x (omega arith) (omega (arith, groups_whole)) in
        entry_tells H c x its needed))

    pub none_by_entries : no_block h n t m y o ≡ all (λ j. not (entries_are (2 ^ h) m.entries (y * t + j * group_of h o) (group_of h o))) (t / group_of h o) 0
    none_by_entries =
        rw (groups_are, ← add-zero (y * groups))
        (sym (all_shift (λ b. not (entirely h n m (2 ^ o) b)) (y * groups) groups 0)
        ∙ all_same _ _ groups 0 (λ j _ u. ap not (group_told j (omega arith))))
