-- Groups of entries: those of a block from the huge order up, and those that a search visits in the tree of its start row. Assumes nothing.
use mathlib.Core.Path.{◌≡◌, refl, sym, ap, ◌∙◌}
use Prim.Native.Nat.{ℕ, ◌+◌, ◌-◌, ◌*◌, ◌/◌, ◌%◌, ◌^◌, ◌≤◌, ◌<◌}
use native.Mathlib.Nat.{div-add-mod', div-mul-le_self, mod-lt, mod-eq_of_lt, mul-pos, mul-div_cancel, mul_assoc, mul-mod_left, sub-add_cancel, zero-div, le_of_mul-le-mul_right, lt_of_mul-lt-mul_right}
use native.Mathlib.Omega.{arith}
use lib.Arith.{digits_div, digits_mod}
use lib.Pow.{pow_pos, field}
use borrow.Author.Tests.{ltb-true}
use Rattle.base.specs.Size.{Huge, rows_per}
use Rattle.base.proofs.Sizes.{frames_many, pow_divides}
use Rattle.base.proofs.Rests.{quotient_is}
use Rattle.rules.specs.Numbers.{huge_of, tree_of, tree_log, top_order, group_of}
use Rattle.rules.specs.State.{Lengths}
use Rattle.rules.specs.Refusals.{Sized, Blocked, Started}
use Rattle.rules.proofs.Numbers.{tree_pow, tree_high, tree_of_huge, huge_by_rows}
use Rattle.rules.proofs.Lent.{block_entries, block_in_tree, start_tree}
use Rattle.rules.specs.Get.{group_at}
use Rattle.rules.proofs.Wraps.{step_next, step_first, step_ends, step_rest}

-- an order that passed the refusals is less than ten above the huge order
pub order_low : {h n t : ℕ} {len : Lengths} (o : ℕ) → Sized h n t len → o ≤ top_order h t → o - h < 10
order_low {t = t} o s l = omega (arith, ltb-true (tree_log t) 10 s.tree)

-- ---- blocks from the huge order up and their groups

-- a group ends where its block does
pub group_frames : (h at o : ℕ) → h ≤ o → (at + group_of h o) * 2 ^ h ≡ at * 2 ^ h + 2 ^ o
group_frames h at o l = omega (arith, pow_divides h o l)

-- an aligned block begins with a group
pub block_group : (h f o : ℕ) → h ≤ o → f % 2 ^ o ≡ 0 → huge_of h f % group_of h o ≡ 0
block_group h f o l e = sym (field f (o - h) h) ∙ rw (sub-add_cancel l, e) (zero-div (2 ^ h))

-- and a group begins an aligned block
pub group_block : (h at o : ℕ) → h ≤ o → at % group_of h o ≡ 0 → at * 2 ^ h % 2 ^ o ≡ 0
group_block h at o l e =
    let g = group_of h o in
    let q : at / group_of h o * group_of h o ≡ at = omega (arith, div-add-mod' at g) in
    let p : at * 2 ^ h ≡ at / group_of h o * 2 ^ o = ap (λ (y : ℕ). y * 2 ^ h) (sym q) ∙ mul_assoc (at / g) g (2 ^ h) ∙ ap (λ (y : ℕ). at / g * y) (pow_divides h o l) in
    rw p (mul-mod_left (at / g) (2 ^ o))

-- the entries of a block that passed the refusals are lent
pub group_lent : {h n t : ℕ} {len : Lengths} {f o at g : ℕ} → Huge h → h ≤ o → Blocked h n t len f o → at ≡ huge_of h f → g ≡ group_of h o → at + g ≤ len.entries
group_lent H l b at_is g_is = rw (at_is, g_is) (block_entries H b l)

-- they lie in the tree of its first
pub group_in_tree : {h n t : ℕ} {len : Lengths} {f o : ℕ} → Blocked h n t len f o → h ≤ o → huge_of h f + group_of h o ≤ tree_of h t f * t + t
group_in_tree {h} {t = t} {f = f} {o} b l =
    let all : (tree_of h t f + 1) * (2 ^ h * t) ≡ (tree_of h t f * t + t) * 2 ^ h = swap (tree_of h t f) (2 ^ h) t in
    let frames : (huge_of h f + group_of h o) * 2 ^ h ≤ (tree_of h t f * t + t) * 2 ^ h = omega (arith, group_frames h (huge_of h f) o l, block_in_tree b, div-mul-le_self f (2 ^ h)) in
    le_of_mul-le-mul_right frames (pow_pos h)
  where
    swap : (q p t : ℕ) → (q + 1) * (p * t) ≡ (q * t + t) * p
    swap q p t = omega arith

-- so each of them is one of that tree
pub group_own : {h n t : ℕ} {len : Lengths} {f o : ℕ} → Blocked h n t len f o → h ≤ o → (x : ℕ) → huge_of h f ≤ x → x < huge_of h f + group_of h o → x / t ≡ tree_of h t f
group_own {h} {t = t} {f = f} b l x low high =
    let first : tree_of h t f * t ≤ huge_of h f = rw (tree_of_huge h t f) (div-mul-le_self (huge_of h f) t) in
    quotient_is t (tree_of h t f) x (omega arith) (omega (arith, group_in_tree b l))

-- ---- the groups of a tree

-- there are at most 2048 huge frames
huge_few : {h : ℕ} (f : ℕ) → Huge h → f < 1048576 → huge_of h f < 2048
huge_few {h} f H l = lt_of_mul-lt-mul_right (2 ^ h) (omega (arith, div-mul-le_self f (2 ^ h), frames_many H))

-- the tree of huge frame x: c groups of g entries, t in all, from `first` on, which are lent
pub record Tree (t g x first c lent : ℕ) : Type 0 where
  pub whole : c * g ≡ t
  pub some : 0 < c
  pub wide : 0 < g
  pub begins : first ≡ x / t * t
  pub ends : first + t ≤ lent
  pub low : first + t ≤ 1048576

-- the tree of a start row that passed the refusals, as the code computes it: k is the logarithm of its size, x a huge frame of it and y its number
module _ {h n t : ℕ} {len : Lengths} {row o : ℕ} (H : Huge h) (s : Started h n t len row o) (k x y first : ℕ) (k_is : k ≡ tree_log t) (x_is : x ≡ huge_of h (row * 64))
    (y_is : y ≡ x / 2 ^ k) (first_is : first ≡ y * 2 ^ k) where
  -- k tells its size
  t_is : 2 ^ k ≡ t
  t_is = rw k_is (tree_pow t s.sized.tree)

  -- it begins before x, at a multiple of its size
  begins : first ≡ x / t * t
  begins = rw (first_is, y_is, t_is)

  -- it ends far below the most frames
  pub tree_low : first + t ≤ 1048576
  tree_low =
      let few : x < 2048 = rw x_is (huge_few (row * 64) H (omega (arith, s.begins, s.sized.most))) in
      omega (arith, begins, div-mul-le_self x t, tree_high t s.sized.tree)

  -- from the huge order on it has its groups
  pub tree_groups : h ≤ o → (g c : ℕ) → g ≡ group_of h o → c ≡ 2 ^ (h + k - o) → Tree t g x first c len.entries
  tree_groups l g c g_is c_is =
      let e : h + k - o ≡ k - (o - h) = omega (arith, s.top) in
      record {
        whole = rw (c_is, g_is, e) (pow_divides (o - h) k (omega (arith, s.top)) ∙ t_is);
        some = rw c_is (pow_pos (h + k - o));
        wide = rw g_is (pow_pos (o - h));
        begins = begins;
        ends = rw (begins, x_is, huge_by_rows row H) (omega (arith, start_tree H s));
        low = tree_low;
      }

module _ {t g x first c lent : ℕ} (T : Tree t g x first c lent) where
  -- a tree has c groups
  pub groups_are : t / g ≡ c
  groups_are = rw (← T.whole) (mul-div_cancel c T.wide)

  -- and so some entries
  pub tree_some : 0 < t
  tree_some = rw (← T.whole) (mul-pos T.some T.wide)

  -- a group begins in a tree where it begins in all memory
  pub rest_by_group : (y : ℕ) → y % t % g ≡ y % g
  rest_by_group y = rw (← T.whole) (step_rest c g T.some T.wide y)

  -- the group that holds x is one of the tree
  pub own_group : x / g * g ≡ x / t * t + x % t / g * g
  own_group = omega (arith, rest_by_group x, div-add-mod' x t, div-add-mod' (x % t) g, div-add-mod' x g)

  pub own_low : x % t / g * g < t
  own_low = omega (arith, div-mul-le_self (x % t) g, mod-lt x tree_some)

  -- the search begins with it
  pub group_starts : x - x % g ≡ group_at t g x 0
  group_starts =
      let s : x % t / g * g + 0 * g ≡ x % t / g * g = omega arith in
      let z : (x % t / g * g + 0 * g) % t ≡ x % t / g * g = ap (λ (r : ℕ). r % t) s ∙ mod-eq_of_lt own_low in
      omega (arith, own_group, div-add-mod' x g)

  -- each group that is visited is aligned, and one of the tree
  pub group_even : (j : ℕ) → group_at t g x j % g ≡ 0
  group_even j =
      let s = x % t / g * g + j * g in
      let e : x % t / g * g + j * g ≡ (x % t / g + j) * g = omega arith in
      sym (rest_by_group (group_at t g x j)) ∙ ap (λ (y : ℕ). y % g) (digits_mod (x / t) (mod-lt s tree_some)) ∙ rest_by_group s ∙ rw e (mul-mod_left (x % t / g + j) g)

  pub group_tree : (j : ℕ) → group_at t g x j / t ≡ x / t
  group_tree j = digits_div (x / t) (mod-lt (x % t / g * g + j * g) tree_some)

  module _ (j at : ℕ) (here : at ≡ group_at t g x j) where
    -- each group ends in the tree
    pub group_ends : at + g ≤ first + t
    group_ends =
        let s : x % t / g * g + j * g ≡ (x % t / g + j) * g = omega arith in
        let l : (x % t / g * g + j * g) % t + g ≤ t = rw s (rw T.whole at (step_ends c g T.some T.wide (x % t / g + j))) in
        omega (arith, T.begins)

    -- so each huge frame of it is in the tree
    pub group_here : (z : ℕ) → at ≤ z → z < at + g → z / t ≡ x / t
    group_here z low high = quotient_is t (x / t) z (omega (arith, T.begins)) (omega (arith, T.begins, group_ends))

    -- one group further
    one_more : x % t / g * g + j * g + g ≡ x % t / g * g + (j + 1) * g
    one_more = omega arith

    -- the next group begins where this one ends
    pub group_next : (at + g ≡ first + t → ⊥) → at + g ≡ group_at t g x (j + 1)
    group_next inside =
        let b : first ≡ x / t * t = T.begins in
        let e = step_next (x % t / g * g + j * g) g t (at - first) (omega arith) (omega (arith, group_ends)) in
        omega (arith, rw one_more at e)

    -- or with the tree, where this one ends it
    pub group_wraps : at + g ≡ first + t → first ≡ group_at t g x (j + 1)
    group_wraps last =
        let b : first ≡ x / t * t = T.begins in
        let e = step_first (x % t / g * g + j * g) g t (at - first) (omega arith) (omega arith) in
        omega (arith, rw one_more at e)

-- the groups of the tree of a start row that passed the refusals, from the huge order on
pub start_groups : {h n t : ℕ} {len : Lengths} {row o : ℕ} → Huge h → Started h n t len row o → h ≤ o
    → Tree t (group_of h o) (row / rows_per h) (row / rows_per h / t * t) (2 ^ (h + tree_log t - o)) len.entries
start_groups {h} {t = t} {row = row} {o} H s l =
    let size : 2 ^ tree_log t ≡ t = tree_pow t s.sized.tree in
    tree_groups H s (tree_log t) (row / rows_per h) (row / rows_per h / t) _ refl (sym (huge_by_rows row H)) (rw size) (rw size) l (group_of h o) _ refl refl
