-- A get without a frame from the huge order up, in a consistent tree: it takes the first free block in its search order, or there is none. Assumes nothing.
use mathlib.Core.Path.{◌≡◌, refl, sym, ap, ◌∙◌}
use mathlib.Core.Bool.{Bool, true, false}
use mathlib.Core.Logic.{◌⊎◌, inl, inr}
use Prim.Native.Nat.{ℕ, ◌+◌, ◌-◌, ◌*◌, ◌/◌, ◌^◌, ◌≤◌, ◌<◌, zero-le}
use native.Mathlib.Decide.{dec_lt}
use native.Mathlib.Nat.{mul-div_cancel, div-lt_iff_lt-mul, lt_of_mul-lt-mul_right}
use native.Mathlib.Omega.{arith}
use lib.Dec.{eqb, ltb}
use lib.Pow.{pow_pos}
use borrow.Author.Tests.{eq-eqb, le-ltb, ltb-true}
use Rattle.base.specs.Walk.{first, all, written}
use Rattle.base.specs.Code.{Out, out}
use Rattle.base.specs.Size.{Huge, rows_per}
use Rattle.base.proofs.Tests.{both}
use Rattle.base.proofs.Walks.{all_each, first_hit, first_before}
use Rattle.rules.specs.Numbered.{Got}
use Rattle.rules.specs.Numbers.{mark, huge_of, tree_of, tree_log, entries_needed, group_of}
use Rattle.rules.specs.State.{Mem, entry_of, on_entries, entries_are, with_entries}
use Rattle.rules.specs.Refusals.{start_refusal}
use Rattle.rules.specs.Get.{got, group_at, get_huge, get}
use Rattle.rules.proofs.Numbers.{tree_of_huge, tree_by_rows, block_begins}
use Rattle.rules.proofs.Lent.{started, started_exactly}
use Rattle.rules.proofs.GroupSteps.{group_frames, block_group, group_block, Tree, groups_are, tree_some, group_even, group_tree, group_ends, group_here, start_groups}
use Rattle.rules.proofs.GroupCases.{take_done, get_found, get_none}
use Rattle.rules.specs.Consistent.{ConsistentIn, free}
use Rattle.rules.specs.Exact.{round, rank, Candidate, Missed, First}
use Rattle.rules.proofs.Effects.{Took}
use Rattle.rules.proofs.Rings.{steps_low}
use Rattle.rules.proofs.GroupTurns.{group_steps, group_is, turn_above}
use Rattle.rules.proofs.HugeFrames.{entry_tells, groups_free}
use Rattle.rules.proofs.Groups.{group_taken}

-- past the refusals
get_is_huge : (h n t : ℕ) (m : Mem) (row o : ℕ) → start_refusal h n t m row o ≡ 0 → h ≤ o → get h n t m row o ≡ on_entries m (get_huge h n t m.entries row o)
unfolding get
get_is_huge h n t m row o e l = rw (eq-eqb (start_refusal h n t m row o) 0 e, le-ltb o h l)

module _ {h n t : ℕ} {m : Mem} {y : ℕ} (H : Huge h) (c : ConsistentIn h n t m y) (row o : ℕ) (own : tree_of h t (row * 64) ≡ y) (begins : start_refusal h n t m row o ≡ 0)
    (l : h ≤ o) where
  abbrev g : ℕ
  g = group_of h o

  abbrev x : ℕ
  x = row / rows_per h

  -- the first huge frame of the group that is visited after j others, and whether its entries say that it is free
  abbrev at : ℕ → ℕ
  at j = group_at t g x j

  abbrev group_free : ℕ → Bool
  group_free j = entries_are (2 ^ h) m.entries (at j) g

  tree : Tree t g x (x / t * t) (2 ^ (h + tree_log t - o)) (entries_needed h n t)
  tree = start_groups H (started_exactly (started h n t _ row o begins)) l

  -- each huge frame of such a group is in tree y
  visit_own : (j z : ℕ) → at j ≤ z → z < at j + g → z / t ≡ y
  visit_own j z low high = group_here tree j (at j) refl z low high ∙ sym (tree_by_rows t row H) ∙ own

  -- ---- each block is a group that is visited

  module _ {f : ℕ} (b : Candidate h n t row o f) where
    its_group : at (round h t row o f / g) ≡ huge_of h f
    its_group = group_is tree (huge_of h f) (block_group h f o l b.aligned) (sym (tree_of_huge h t f) ∙ b.tree ∙ tree_by_rows t row H)

    its_round : round h t row o f / g < t / g
    its_round = rw (groups_are tree) ((div-lt_iff_lt-mul tree.wide).1 (rw tree.whole (steps_low t (x / g * g) (tree_some tree) (huge_of h f))))

    its_frames : all (free h n m) (2 ^ o) f ≡ group_free (round h t row o f / g)
    its_frames =
        let j = round h t row o f / g in
        let q : at j * 2 ^ h ≡ f = ap (λ (x : ℕ). x * 2 ^ h) its_group ∙ block_begins h f o l b.aligned in
        ap (all (free h n m) (2 ^ o)) (sym q) ∙ groups_free H c (at j) o l (omega (arith, b.ends, group_frames h (at j) o l)) (visit_own j)

  -- ---- each group that is visited and free is a block

  -- an entry that says that its huge frame is free says that it lies wholly below N
  full_below : (z : ℕ) → z / t ≡ y → z < entries_needed h n t → eqb (entry_of m.entries z) (2 ^ h) ≡ true → (z + 1) * 2 ^ h ≤ n
  full_below z here u e =
      let f = z * 2 ^ h + (2 ^ h - 1) in
      let last : free h n m f ≡ true = all_each (free h n m) (2 ^ h) (z * 2 ^ h) (entry_tells H c z here u ∙ e) f (omega arith) (omega (arith, pow_pos h)) in
      let below : f < n = ltb-true f n (both (ltb f n) _ last).0 in
      omega (arith, pow_pos h)

  module _ (j : ℕ) (e : group_free j ≡ true) where
    free_ends : (at j + g) * 2 ^ h ≤ n
    free_ends =
        let z = at j + (g - 1) in
        let wide : 0 < g = tree.wide in
        let needed : at j + g ≤ entries_needed h n t = omega (arith, group_ends tree j (at j) refl, tree.ends) in
        let k : at j + g ≡ at j + (g - 1) + 1 = omega arith in
        rw k (full_below z (visit_own j z (omega arith) (omega arith)) (omega arith) (all_each (λ i. eqb (entry_of m.entries i) (2 ^ h)) g (at j) e z (omega arith) (omega arith)))

    free_block : Candidate h n t row o (at j * 2 ^ h)
    free_block = record {
      aligned = group_block h (at j) o l (group_even tree j);
      tree = tree_of_huge h t (at j * 2 ^ h) ∙ ap (λ (y : ℕ). y / t) (mul-div_cancel (at j) (pow_pos h)) ∙ group_tree tree j ∙ sym (tree_by_rows t row H);
      ends = omega (arith, free_ends, group_frames h (at j) o l);
    }

  visit_round : (j : ℕ) → j < t / g → round h t row o (at j * 2 ^ h) ≡ j * g
  visit_round j u = rw (mul-div_cancel (at j) (pow_pos h)) (group_steps tree j (rw (← groups_are tree) u))

  -- ---- the search

  -- how many groups it passes
  abbrev passed : ℕ
  passed = first group_free (t / g) 0

  passed_held : {f : ℕ} → Candidate h n t row o f → round h t row o f / g < passed → all (free h n m) (2 ^ o) f ≡ false
  passed_held {f} b u = its_frames b ∙ first_before group_free (t / g) 0 (round h t row o f / g) zero-le u

  missed : t / g ≤ passed → Missed h n t m row o
  missed u = record {
    answer = ap (λ (r : Out Got Mem). r.answer)
        (get_is_huge h n t m row o begins l ∙ ap (on_entries m) (sym (get_none h n t m.entries row o g x (t / g) passed refl refl refl refl u)));
    none = λ f b. passed_held b (omega (arith, its_round b));
  }

  module _ (u : passed < t / g) where
    -- the first frame of the group that ends it
    abbrev a : ℕ
    a = at passed * 2 ^ h

    hit : group_free passed ≡ true
    hit = first_hit group_free (t / g) 0 (omega arith)

    get_is : get h n t m row o ≡ out (got 0 a (passed + 1)) (with_entries m (written (λ i. mark) m.entries (at passed) g))
    get_is =
        let taken = take_done h n m.entries (at passed) g (passed + 1) (free_ends passed hit) in
        get_is_huge h n t m row o begins l ∙ ap (on_entries m) (sym (get_found h n t m.entries row o g x (t / g) passed refl refl refl refl u taken))

    took : Took h n t m (get h n t m row o).left a o
    took = rw get_is (group_taken H c (at passed) o l (free_ends passed hit) (visit_own passed) hit)

    -- a block whose turn comes earlier was passed
    earlier : (f : ℕ) → rank h t row o f < rank h t row o a → round h t row o f / g < passed
    earlier f less =
        let k : round h t row o f < round h t row o a = lt_of_mul-lt-mul_right (2 ^ h) (omega (arith, turn_above t row o (at passed) l)) in
        (div-lt_iff_lt-mul tree.wide).1 (omega (arith, visit_round passed u))

    found : First h n t m row o a
    found =
        let q : round h t row o a / g ≡ passed = ap (λ (y : ℕ). y / g) (visit_round passed u) ∙ mul-div_cancel passed tree.wide in
        record {
          answer = rw (get_is, q);
          block = free_block passed hit;
          taken = took.taken;
          first = λ f b less. passed_held b (earlier f less);
        }

    frame_is : (get h n t m row o).answer.frame ≡ a
    frame_is = rw get_is

-- it finds no free block and there is none, or it takes the first
pub get_above : {h n t : ℕ} {m : Mem} {y : ℕ} → Huge h → ConsistentIn h n t m y → (row o : ℕ) → tree_of h t (row * 64) ≡ y → start_refusal h n t m row o ≡ 0 → h ≤ o
    → Missed h n t m row o ⊎ (First h n t m row o (get h n t m row o).answer.frame × Took h n t m (get h n t m row o).left (get h n t m row o).answer.frame o)
get_above {h} {t = t} H c row o own e l = elim (dec_lt (passed H c row o own e l) (t / group_of h o)) [
  | yes u ↦ inr (rw (frame_is H c row o own e l u) (found H c row o own e l u, took H c row o own e l u))
  | no u ↦ inl (missed H c row o own e l (omega arith))
]
