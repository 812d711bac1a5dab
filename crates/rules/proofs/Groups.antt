-- What get with a frame, put and is_free do from the huge order up in a consistent tree, and taking and giving back a group of huge frames. Assumes nothing.
use mathlib.Core.Path.{◌≡◌, refl, sym, ap, ◌∙◌, subst}
use mathlib.Core.Bool.{Bool, true, false, not, ◌&&◌, and-true, and-false, or-true, or-false}
use mathlib.Core.List.{List}
use mathlib.Core.Logic.{inl, inr, ⊎_elim}
use Prim.Native.Nat.{ℕ, ◌+◌, ◌*◌, ◌/◌, ◌^◌, ◌≤◌, ◌<◌}
use native.Mathlib.Omega.{arith}
use lib.Dec.{eqb}
use borrow.Author.Tests.{eqb-true}
use Rattle.base.specs.Walk.{pick, all, written}
use Rattle.base.specs.Bits.{bit_is}
use Rattle.base.specs.Code.{Out, out, unless}
use Rattle.base.specs.Size.{Huge}
use Rattle.base.proofs.Tests.{second_tells}
use Rattle.base.proofs.Codes.{holds}
use Rattle.base.proofs.Sizes.{frames_fit}
use Rattle.base.proofs.Walks.{all_each, all_of, count_full, count_of, pick_of}
use Rattle.rules.specs.Numbers.{mark, huge_of, tree_of, group_of}
use Rattle.rules.specs.Numbered.{Got}
use Rattle.rules.specs.Refusals.{Blocked}
use Rattle.rules.specs.State.{Mem, entry_of, entries_are, lengths_of, with_entries}
use Rattle.rules.specs.Get.{got, get_huge_at}
use Rattle.rules.proofs.Entries.{whole_not_mark}
use Rattle.rules.proofs.Numbers.{block_begins}
use Rattle.rules.proofs.Present.{huge_ends}
use Rattle.rules.specs.Put.{put_huge}
use Rattle.rules.specs.Queries.{is_free_huge}
use Rattle.rules.proofs.GroupSteps.{group_frames, group_own}
use Rattle.rules.specs.Consistent.{ByMark, ByCount, ConsistentIn, free, held}
use Rattle.rules.proofs.Frees.{no_mark, is_free, held_mark}
use Rattle.rules.proofs.Blocks.{is_counted, is_marked}
use Rattle.rules.proofs.Effects.{Took, Gave}
use Rattle.rules.proofs.HugeFrames.{groups_free}
use Rattle.rules.proofs.GroupWrites.{Within, within_or_beside, within_block, in_group, beside_block, within_below, within_present, group_written, entry_within, free_beside, group_keeps}

-- ---- a group of the tree that ends at or before N

module _ {h n t : ℕ} {m : Mem} {y : ℕ} (H : Huge h) (c : ConsistentIn h n t m y) (at o : ℕ) (l : h ≤ o) (ends : (at + group_of h o) * 2 ^ h ≤ n)
    (own : (x : ℕ) → at ≤ x → x < at + group_of h o → x / t ≡ y) where
  -- each of its entries is what all are
  its_entry : (v : ℕ) → entries_are v m.entries at (group_of h o) ≡ true → (x : ℕ) → Within h at o l x → entry_of m.entries x ≡ v
  its_entry v e x w = eqb-true (entry_of m.entries x) v (all_each (λ i. eqb (entry_of m.entries i) v) (group_of h o) at e x w.0 w.1)

  -- free whole, it is taken
  module _ (e : entries_are (2 ^ h) m.entries at (group_of h o) ≡ true) where
    abbrev taken : Mem
    taken = group_written c at o l ends mark

    now_mark : (x : ℕ) → Within h at o l x → entry_of taken.entries x ≡ mark
    now_mark = entry_within c at o l ends mark

    now_marked : (x : ℕ) → Within h at o l x → ByMark h n taken x
    now_marked x w =
        let full = its_entry (2 ^ h) e x w in
        let k = is_counted c x (own x w.0 w.1) (within_present c at o l ends x w) (whole_not_mark H full) in
        record {
          marked = now_mark x w;
          below = within_below c at o l ends x w;
          clear = λ f a b. count_full (bit_is false m.rows) (2 ^ h) (x * 2 ^ h) (sym k.counts ∙ full) f a (omega arith);
        }

    pub group_taken : Took h n t m (with_entries m (written (λ i. mark) m.entries at (group_of h o))) (at * 2 ^ h) o
    group_taken = record {
      keeps = group_keeps c at o l ends mark (omega arith) (λ x w. inl (now_marked x w));
      taken = record {
        was = groups_free H c at o l ends own ∙ e;
        is = λ f. ⊎_elim
            (λ w. rw (within_block h at o l f w) (held_mark h n taken f (now_mark (huge_of h f) w) ∙ sym (and-false (free h n m f))))
            (λ b. rw (beside_block h at o l f b) (free_beside c at o l ends mark f b ∙ sym (and-true (free h n m f))))
            (within_or_beside h at o l (huge_of h f));
      };
    }

  -- held whole, it is given back
  module _ (e : entries_are mark m.entries at (group_of h o) ≡ true) where
    abbrev given : Mem
    given = group_written c at o l ends (2 ^ h)

    now_whole : (x : ℕ) → Within h at o l x → entry_of given.entries x ≡ 2 ^ h
    now_whole = entry_within c at o l ends (2 ^ h)

    was_marked : (x : ℕ) → Within h at o l x → ByMark h n m x
    was_marked x w = is_marked c H x (own x w.0 w.1) (within_present c at o l ends x w) (its_entry mark e x w)

    now_counted : (x : ℕ) → Within h at o l x → ByCount h n given x
    now_counted x w =
        let k = was_marked x w in
        record {
          most = omega (arith, now_whole x w);
          counts = now_whole x w ∙ sym (count_of (bit_is false m.rows) (2 ^ h) (x * 2 ^ h) (λ f a b. k.clear f a (omega arith)));
          past = λ f a b. absurd (omega (arith, k.below));
        }

    now_free : (f : ℕ) → Within h at o l (huge_of h f) → free h n given f ≡ true
    now_free f w =
        let k = was_marked (huge_of h f) w in
        let within = huge_ends h f (huge_of h f) refl in
        is_free h n given f (omega (arith, within.1, k.below)) (k.clear f within.0 within.1) (no_mark H (now_counted (huge_of h f) w))

    pub group_given : Gave h n t m (with_entries m (written (λ i. 2 ^ h) m.entries at (group_of h o))) (at * 2 ^ h) o
    group_given = record {
      keeps = group_keeps c at o l ends (2 ^ h) (omega (arith, frames_fit H)) (λ x w. inr (now_counted x w));
      given = record {
        was = all_of (held h n m) (2 ^ o) (at * 2 ^ h) (λ f a b. ap not (held_mark h n m f (was_marked (huge_of h f) (in_group h at o l f a b)).marked));
        is = λ f. ⊎_elim
            (λ w. rw (within_block h at o l f w) (now_free f w ∙ sym (or-true (free h n m f))))
            (λ b. rw (beside_block h at o l f b) (free_beside c at o l ends (2 ^ h) f b ∙ sym (or-false (free h n m f))))
            (within_or_beside h at o l (huge_of h f));
      };
    }

-- ---- the calls that choose a group by its frame

module _ {h n t : ℕ} {m : Mem} {y : ℕ} (H : Huge h) (c : ConsistentIn h n t m y) (f o : ℕ) (l : h ≤ o) (b : Blocked h n t (lengths_of m) f o) (own : tree_of h t f ≡ y) where
  its_tree : (x : ℕ) → huge_of h f ≤ x → x < huge_of h f + group_of h o → x / t ≡ y
  its_tree x low high = group_own b l x low high ∙ own

  begins : huge_of h f * 2 ^ h ≡ f
  begins = block_begins h f o l b.aligned

  inside : (huge_of h f + group_of h o) * 2 ^ h ≤ n
  inside = omega (arith, group_frames h (huge_of h f) o l, begins, b.ends)

  -- the block's entries, whether they all are v, and what becomes of them
  abbrev are : ℕ → Bool
  are v = entries_are v m.entries (huge_of h f) (group_of h o)

  abbrev become : ℕ → List ℕ
  become v = written (λ i. v) m.entries (huge_of h f) (group_of h o)

  block_free : are (2 ^ h) ≡ all (free h n m) (2 ^ o) f
  block_free = sym (groups_free H c (huge_of h f) o l inside its_tree) ∙ ap (all (free h n m) (2 ^ o)) begins

  block_taken : are (2 ^ h) ≡ true → Took h n t m (with_entries m (become mark)) f o
  block_taken e = subst (λ (a : ℕ). Took h n t m (with_entries m (become mark)) a o) begins (group_taken H c (huge_of h f) o l inside its_tree e)

  block_given : are mark ≡ true → Gave h n t m (with_entries m (become (2 ^ h))) f o
  block_given e = subst (λ (a : ℕ). Gave h n t m (with_entries m (become (2 ^ h))) a o) begins (group_given H c (huge_of h f) o l inside its_tree e)

  pub get_huge_at_exact : ((get_huge_at h m.entries f o).answer ≡ pick (all (free h n m) (2 ^ o) f) (got 0 f 1) (got 7 0 1))
      × ((all (free h n m) (2 ^ o) f ≡ true → Took h n t m (with_entries m (get_huge_at h m.entries f o).left) f o)
      × (all (free h n m) (2 ^ o) f ≡ false → (get_huge_at h m.entries f o).left ≡ m.entries))
  unfolding get_huge_at
  get_huge_at_exact = (
    pick_of (λ (r : Out Got (List ℕ)). r.answer) (are (2 ^ h)) (out (got 0 f 1) (become mark)) (out (got 7 0 1) m.entries)
        ∙ ap (λ (d : Bool). pick d (got 0 f 1) (got 7 0 1)) block_free,
    (λ e. rw (block_free ∙ e) (block_taken (block_free ∙ e)), λ e. rw (block_free ∙ e)),
  )

  pub put_huge_exact : ((put_huge h m.entries f o).answer ≡ unless (all (held h n m) (2 ^ o) f && entries_are mark m.entries (huge_of h f) (group_of h o)) 7)
      × ((put_huge h m.entries f o).answer ≡ 0 → Gave h n t m (with_entries m (put_huge h m.entries f o).left) f o)
  unfolding put_huge
  put_huge_exact =
      let answer = pick_of (λ (r : Out ℕ (List ℕ)). r.answer) (are mark) (out 0 (become (2 ^ h))) (out 7 m.entries) in (
        answer ∙ ap (λ (d : Bool). unless d 7) (sym (second_tells (all (held h n m) (2 ^ o) f) (are mark) (λ e. (block_given e).given.was))),
        λ e. let d : are mark ≡ true = holds (are mark) 6 (sym answer ∙ e) in rw d (block_given d),
      )

  pub is_free_huge_exact : is_free_huge h m.entries f o ≡ all (free h n m) (2 ^ o) f
  unfolding is_free_huge
  is_free_huge_exact = block_free
