-- Why a request is turned down: two states that agree on its tree tell the same. Assumes nothing.
use mathlib.Core.Path.{◌≡◌, refl, sym, ap, ◌∙◌}
use mathlib.Core.Bool.{true, false, not}
use Prim.Native.Nat.{ℕ, ◌+◌, ◌-◌, ◌*◌, ◌/◌, ◌^◌, ◌≤◌, ◌<◌}
use native.Mathlib.Decide.{dec_lt}
use native.Mathlib.Nat.{div-div-eq-div-mul, div-mul-le_self, mul_comm}
use native.Mathlib.Omega.{arith}
use lib.Dec.{eqb, ltb}
use borrow.Author.Tests.{le-ltb, lt-leb, ltb-true}
use Rattle.base.proofs.Rests.{quotient_is}
use Rattle.base.proofs.Sizes.{pow_divides}
use Rattle.base.proofs.Walks.{pick_both, first_same, all_same, count_same}
use Rattle.rules.specs.Numbers.{mark, huge_of, tree_of, top_order, present, group_of}
use Rattle.rules.specs.Refusals.{Blocked}
use Rattle.rules.specs.State.{Mem, Lengths}
use Rattle.rules.specs.Audit.{reason}
use Rattle.rules.specs.Consistent.{free, free_frames}
use Rattle.rules.specs.Why.{sound, unmarked, no_block, get_reason, get_at_reason, put_reason}
use Rattle.rules.proofs.Numbers.{tree_of_huge}
use Rattle.rules.proofs.Trees.{tree_frames}
use Rattle.rules.proofs.Present.{huge_is}
use Rattle.rules.proofs.Lent.{block_in_tree}
use Rattle.rules.proofs.GroupSteps.{group_in_tree}
use Rattle.rules.proofs.TreeParts.{Agreeing, bit_alike, block_alike, clear_alike, entry_alike}

module _ {h n t y : ℕ} {a b : Mem} (w : Agreeing h n t y a b) where
  -- ---- what is wrong with a huge frame

  pub reason_alike : (x : ℕ) → x / t ≡ y → reason h n a x ≡ reason h n b x
  unfolding reason
  reason_alike x here =
      rw (w.agree.entries x here)
      (pick_both ◌≡◌ (present h n x)
      (λ p. let l = ltb-true (x * 2 ^ h) n p in
      rw (
        block_alike w x here l false (x * 2 ^ h) (2 ^ h) (omega arith) (omega arith),
        block_alike w x here l true n ((x + 1) * 2 ^ h - n) (omega arith) (omega arith),
        clear_alike w x here l,
      ))
      (λ _. refl))

  pub sound_alike : sound h n t a y ≡ sound h n t b y
  unfolding sound
  sound_alike = all_same _ _ _ _ (λ x l u. ap (λ (r : ℕ). eqb r 0) (reason_alike x (quotient_is t y x (omega arith) (omega arith))))

  -- ---- its free frames

  free_alike : (f : ℕ) → huge_of h f / t ≡ y → free h n a f ≡ free h n b f
  free_alike f here = elim (dec_lt f n) [
    | yes l ↦ rw (bit_alike w false f here (omega (arith, div-mul-le_self f (2 ^ h))), w.agree.entries (huge_of h f) here)
    | no l ↦ rw (le-ltb f n (omega arith))
  ]

  -- those of the tree
  tree_alike : (f : ℕ) → y * (2 ^ h * t) ≤ f → f < y * (2 ^ h * t) + 2 ^ h * t → free h n a f ≡ free h n b f
  tree_alike f lo hi = free_alike f (sym (tree_of_huge h t f) ∙ quotient_is (2 ^ h * t) y f lo hi)

  -- ---- get without a frame

  huge_alike : (x : ℕ) → x / t ≡ y → free_frames h n a (2 ^ h) x ≡ free_frames h n b (2 ^ h) x
  huge_alike x here =
      count_same _ _ (2 ^ h) (x * 2 ^ h) (λ f l u. let is : huge_of h f ≡ x = huge_is h x f l (omega arith) in free_alike f (rw is here))

  no_block_alike : (o : ℕ) → o ≤ top_order h t → no_block h n t a y o ≡ no_block h n t b y o
  no_block_alike o top =
      let s = 2 ^ (top_order h t - o) in
      let size : 2 ^ o * s ≡ 2 ^ h * t = mul_comm (2 ^ o) s ∙ pow_divides o (top_order h t) top ∙ tree_frames t w.sized.tree refl h in
      all_same _ _ s (y * s) (λ k l u. ap not (all_same _ _ (2 ^ o) (k * 2 ^ o) (λ f lo hi.
      let here : f / (2 ^ o * s) ≡ y =
      sym (div-div-eq-div-mul f (2 ^ o) s) ∙ ap (λ (q : ℕ). q / s) (quotient_is (2 ^ o) k f lo hi) ∙ quotient_is s y k l u in
      free_alike f (sym (tree_of_huge h t f) ∙ rw (← size) here))))

  pub get_reason_alike : (o : ℕ) → o ≤ top_order h t → get_reason h n t a y o ≡ get_reason h n t b y o
  unfolding get_reason
  get_reason_alike o top =
      rw (
        count_same (free h n a) (free h n b) (2 ^ h * t) (y * (2 ^ h * t)) tree_alike,
        all_same (λ x. ltb (free_frames h n a (2 ^ h) x) (2 ^ o)) (λ x. ltb (free_frames h n b (2 ^ h) x) (2 ^ o)) t (y * t)
            (λ x l u. ap (λ (k : ℕ). ltb k (2 ^ o)) (huge_alike x (quotient_is t y x l u))),
        no_block_alike o top,
      )

  -- ---- calls with a block, which passed the refusals

  module _ {len : Lengths} {f o : ℕ} (k : Blocked h n t len f o) (here : tree_of h t f ≡ y) where
    block_free_alike : (g : ℕ) → f ≤ g → g < f + 2 ^ o → free h n a g ≡ free h n b g
    block_free_alike g lo hi =
        let first : y * (2 ^ h * t) ≤ f = rw here at (div-mul-le_self f (2 ^ h * t)) in
        let last : f + 2 ^ o ≤ (y + 1) * (2 ^ h * t) = rw here at (block_in_tree k) in
        tree_alike g (omega arith) (omega arith)

    pub get_at_reason_alike : get_at_reason h n a f o ≡ get_at_reason h n b f o
    unfolding get_at_reason
    get_at_reason_alike = rw (first_same (λ g. not (free h n a g)) (λ g. not (free h n b g)) (2 ^ o) f (λ g lo hi. ap not (block_free_alike g lo hi)))

    pub put_reason_alike : put_reason h n a f o ≡ put_reason h n b f o
    unfolding put_reason
    put_reason_alike =
        rw (first_same (free h n a) (free h n b) (2 ^ o) f block_free_alike)
        (elim (dec_lt o h) [
          | yes l ↦ rw (lt-leb h o l)
          | no l ↦ rw (first_same (unmarked a.entries) (unmarked b.entries) (group_of h o) (huge_of h f) (λ x lo hi.
              ap (λ (e : ℕ). not (eqb e mark)) (entry_alike w x
              (omega (arith, div-mul-le_self (huge_of h f) t, ap (λ (q : ℕ). q * t) (sym (tree_of_huge h t f) ∙ here)))
              (omega (arith, group_in_tree k (omega arith), ap (λ (q : ℕ). q * t) here)))))
        ])
