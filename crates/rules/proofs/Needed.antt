-- The entries that n frames need: how many they are, and that what the code computes of their numbers fits. Assumes nothing.
use mathlib.Core.Path.{◌≡◌, ◌∙◌}
use Prim.Native.Nat.{ℕ, suc, ◌+◌, ◌-◌, ◌*◌, ◌/◌, ◌^◌, ◌≤◌, ◌<◌}
use native.Mathlib.Nat.{mul_comm, mul-pos, mul-div_cancel, mul-le-mul, mul-le-mul_right, le_of_mul-le-mul_right, div-lt_iff_lt-mul, div-mul-le_self, lt_of_mul-lt-mul_right}
use native.Mathlib.Omega.{arith}
use lib.Pow.{pow_pos, pow_mono}
use Rattle.base.specs.Size.{Huge}
use Rattle.base.proofs.Sizes.{frames_fit, frames_many}
use Rattle.rules.specs.State.{Lengths}
use Rattle.rules.specs.Refusals.{Sized}
use Rattle.rules.specs.Numbers.{tree_of, tree_log, ceil, entries_needed}
use Rattle.rules.proofs.Numbers.{tree_pos, tree_high, ceil_covers}
use Rattle.rules.proofs.Trees.{log_pow}

-- a million huge frames are far fewer frames than a word counts
pub frames_word : {h x : ℕ} → Huge h → x ≤ 1048576 → x * 2 ^ h < 2 ^ 64
frames_word H l = omega (arith, mul-le-mul l (frames_fit H))

-- fewer than a tree's entries are past those of N
needed_most : {h : ℕ} (n t : ℕ) → Huge h → n ≤ 1048576 → t ≤ 512 → entries_needed h n t ≤ 2560
needed_most {h} n t H l m =
    let past : entries_needed h n t * 2 ^ h ≤ n + 2 ^ h * t = omega (arith, div-mul-le_self (n + (2 ^ h * t - 1)) (2 ^ h * t)) in
    let few : entries_needed h n t < 2561 = lt_of_mul-lt-mul_right (2 ^ h) (omega (arith, past, mul-le-mul_right (2 ^ h) m, frames_many H)) in
    omega (arith, few)

module _ (h n t : ℕ) where
  -- the tree of a frame below N is one of theirs
  pub tree_covers : (f : ℕ) → 0 < t → f < n → tree_of h t f < ceil n (2 ^ h * t)
  tree_covers f p l =
      let q : 0 < 2 ^ h * t = mul-pos (pow_pos h) p in
      (div-lt_iff_lt-mul q).1 (omega (arith, ceil_covers n (2 ^ h * t) q))

  -- the entries of such a tree are needed
  pub tree_needed : (y : ℕ) → y < ceil n (2 ^ h * t) → y * t + t ≤ entries_needed h n t
  tree_needed y l =
      let ends : (y + 1) * t ≤ ceil n (2 ^ h * t) * t = mul-le-mul_right t (omega arith) in
      omega (arith, mul_comm t (ceil n (2 ^ h * t)))

  -- all frames belong to needed entries
  pub needed_cover : 0 < t → n ≤ entries_needed h n t * 2 ^ h
  needed_cover p = omega (arith, ceil_covers n (2 ^ h * t) (mul-pos (pow_pos h) p))

  -- so as many huge frames as end at or before N have needed entries
  pub whole_needed : (k : ℕ) → 0 < t → k * 2 ^ h ≤ n → k ≤ entries_needed h n t
  whole_needed k p l =
      let below : k * 2 ^ h ≤ entries_needed h n t * 2 ^ h = omega (arith, needed_cover p) in
      le_of_mul-le-mul_right below (pow_pos h)

module _ {h n t : ℕ} {len : Lengths} (s : Sized h n t len) where
  -- fewer than a tree's frames lie past N, so an entry's number is small
  pub entry_low : {x : ℕ} → Huge h → x < entries_needed h n t → x < 1048576
  entry_low {x} H l =
      let past : ceil n (2 ^ h * t) * (2 ^ h * t) ≤ n + (2 ^ h * t - 1) = div-mul-le_self (n + (2 ^ h * t - 1)) (2 ^ h * t) in
      let tree : 2 ^ h * t ≤ 2048 * 512 = mul-le-mul (frames_fit H) (tree_high t s.tree) in
      let frames : suc x * 2 ^ h ≤ entries_needed h n t * 2 ^ h = mul-le-mul_right (2 ^ h) l in
      let large : 2 ^ 9 ≤ 2 ^ h = pow_mono H.low in
      lt_of_mul-lt-mul_right (2 ^ h) (omega arith)

  -- and 16 bits count them
  pub entries_few : Huge h → entries_needed h n t < 65536
  entries_few H = omega (arith, needed_most n t H s.most (tree_high t s.tree))

  -- they are as many trees as n frames need, which the code counts with T's logarithm
  module _ {log needed trees : ℕ} (log_is : log ≡ tree_log t) (all_is : needed ≡ entries_needed h n t) (trees_is : trees ≡ needed / 2 ^ log) where
    pub needed_trees : trees ≡ ceil n (2 ^ h * t)
    needed_trees =
        trees_is ∙ rw (all_is, log_pow t s.tree log_is, mul_comm t (ceil n (2 ^ h * t))) (mul-div_cancel (ceil n (2 ^ h * t)) (tree_pos t s.tree))

    pub trees_lent : trees * t ≤ len.entries
    trees_lent = rw needed_trees (omega (arith, s.entries, mul_comm t (ceil n (2 ^ h * t))))
