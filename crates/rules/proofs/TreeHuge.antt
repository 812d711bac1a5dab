-- From the huge order on, two states that agree on tree y answer alike there and go on agreeing. Assumes nothing.
use mathlib.Core.Path.{◌≡◌, refl}
use mathlib.Core.List.{List}
use Prim.Native.Nat.{ℕ, ◌+◌, ◌-◌, ◌*◌, ◌/◌, ◌^◌, ◌≤◌}
use native.Mathlib.Omega.{arith}
use lib.Dec.{leb, ltb}
use lib.ListN.{length}
use Rattle.base.specs.Code.{Out}
use Rattle.base.specs.Size.{rows_per}
use Rattle.base.proofs.Walks.{pick_both, first_same}
use Rattle.rules.specs.Numbers.{mark, huge_of, tree_log, group_of}
use Rattle.rules.specs.Refusals.{Started}
use Rattle.rules.specs.State.{Mem, on_entries, entries_are, Lengths, lengths_of}
use Rattle.rules.specs.Get.{got, group_at, groups_passed, take_group, get_huge, get_huge_at}
use Rattle.rules.specs.Put.{put_huge}
use Rattle.rules.specs.Queries.{is_free_huge}
use Rattle.rules.proofs.GroupSteps.{Tree, group_ends, start_groups}
use Rattle.rules.proofs.TreeParts.{Agreeing, entries_alike, entries_written, Alike, same_alike}

module _ {h n t y : ℕ} {a b : Mem} (w : Agreeing h n t y a b) where
  -- what calls that touch entries alone leave of each
  abbrev pub KeptAlike : {A : Type 0} → Out A (List ℕ) → Out A (List ℕ) → Type 0
  KeptAlike o p = Alike h n t y (on_entries a o) (on_entries b p)

  -- ---- get without a frame

  module _ (row o : ℕ) (here : row / rows_per h / t ≡ y) (low : h ≤ o) (s : Started h n t (lengths_of a) row o)
      (z : Started h n t (lengths_of b) row o) where
    -- the groups of the start row's tree, whose entries are lent
    tree : {len : Lengths} → Started h n t len row o → Tree t (group_of h o) (row / rows_per h) (y * t) (2 ^ (h + tree_log t - o)) len.entries
    tree k = rw (← here) (start_groups w.huge k low)

    -- a group that is visited
    module _ (j : ℕ) where
      at : ℕ
      at = group_at t (group_of h o) (row / rows_per h) j

      begins : y * t ≤ at
      unfolding at
      begins = rw (← here) (omega arith)

      ends : at + group_of h o ≤ y * t + t
      unfolding at
      ends = group_ends (tree s) j at refl

      take_alike : (p : ℕ) → KeptAlike (take_group h n a.entries at (group_of h o) p) (take_group h n b.entries at (group_of h o) p)
      unfolding take_group
      take_alike p =
          pick_both KeptAlike (leb ((at + group_of h o) * 2 ^ h) n)
          (λ _. record { answer = refl; left = entries_written w (λ i. mark) at (group_of h o) (omega (arith, ends, (tree s).ends)) (omega (arith, ends, (tree z).ends)) })
          (λ _. same_alike w (got 8 0 p))

    passed_alike : groups_passed h a.entries t (group_of h o) (row / rows_per h) ≡ groups_passed h b.entries t (group_of h o) (row / rows_per h)
    unfolding groups_passed at
    passed_alike = first_same _ _ (t / group_of h o) 0 (λ j _ _. entries_alike w (2 ^ h) (at j) (group_of h o) (begins j) (ends j))

    pub get_huge_alike : KeptAlike (get_huge h n t a.entries row o) (get_huge h n t b.entries row o)
    unfolding get_huge at
    get_huge_alike =
        let p = groups_passed h a.entries t (group_of h o) (row / rows_per h) in
        rw (← passed_alike) (pick_both KeptAlike (ltb p (t / group_of h o)) (λ _. take_alike p (p + 1)) (λ _. same_alike w (got 7 0 (t / group_of h o))))

  -- ---- a block's group of entries, which is lent and lies in the tree

  module _ (f o : ℕ) (begins : y * t ≤ huge_of h f) (ends : huge_of h f + group_of h o ≤ y * t + t) where
    group_alike : (v : ℕ) → entries_are v a.entries (huge_of h f) (group_of h o) ≡ entries_are v b.entries (huge_of h f) (group_of h o)
    group_alike v = entries_alike w v (huge_of h f) (group_of h o) begins ends

    pub is_free_huge_alike : is_free_huge h a.entries f o ≡ is_free_huge h b.entries f o
    unfolding is_free_huge
    is_free_huge_alike = group_alike (2 ^ h)

    module _ (l : huge_of h f + group_of h o ≤ length a.entries) (u : huge_of h f + group_of h o ≤ length b.entries) where
      pub get_huge_at_alike : KeptAlike (get_huge_at h a.entries f o) (get_huge_at h b.entries f o)
      unfolding get_huge_at
      get_huge_at_alike =
          rw (← group_alike (2 ^ h))
          (pick_both KeptAlike (entries_are (2 ^ h) a.entries (huge_of h f) (group_of h o))
          (λ _. record { answer = refl; left = entries_written w (λ i. mark) (huge_of h f) (group_of h o) l u })
          (λ _. same_alike w (got 7 0 1)))

      pub put_huge_alike : KeptAlike (put_huge h a.entries f o) (put_huge h b.entries f o)
      unfolding put_huge
      put_huge_alike =
          rw (← group_alike mark)
          (pick_both KeptAlike (entries_are mark a.entries (huge_of h f) (group_of h o))
          (λ _. record { answer = refl; left = entries_written w (λ i. 2 ^ h) (huge_of h f) (group_of h o) l u })
          (λ _. same_alike w 7))
