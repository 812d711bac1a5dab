-- A tree size's logarithm: its trailing zeros, which the code takes in place of the definition's walk, the test of a single bit, and what callers have by it.
-- Assumes nothing.
use mathlib.Core.Path.{◌≡◌, refl, sym, ap, ◌∙◌}
use mathlib.Core.Logic.{⊎_elim}
use mathlib.Core.Bool.{Bool, true, false, true≢false}
use Prim.Native.Nat.{ℕ, zero, suc, ◌+◌, ◌-◌, ◌*◌, ◌/◌, ◌%◌, ◌^◌, ◌≤◌, ◌<◌}
use native.Mathlib.Nat.{eq-zero-or-pos, mod_self}
use native.Mathlib.Omega.{arith}
use lib.Bits.{bit_and, and_step, and_self}
use lib.Dec.{eqb}
use lib.Count.{count_trailing_zeros}
use lib.Pow.{pow-add}
use borrow.Author.Tests.{eq-eqb, ne_eqb, ltb-true}
use Rattle.base.specs.Size.{Huge}
use Rattle.base.proofs.Sizes.{mask_mod}
use Rattle.rules.specs.Numbers.{tree_log, is_tree}
use Rattle.rules.proofs.Numbers.{tree_pow, tree_pos, tree_high, pow_tree}

-- the only set bit of 2 ^ m stands above m zeros
trailing_pow : (w m : ℕ) → m < w → count_trailing_zeros w (2 ^ m) ≡ m
unfolding count_trailing_zeros
trailing_pow zero m h = absurd (omega arith)
trailing_pow (suc w) zero h = refl
trailing_pow (suc w) (suc m) h =
    let even : 2 ^ suc m % 2 ≡ 0 = omega arith in
    let half : 2 ^ suc m / 2 ≡ 2 ^ m = omega arith in
    rw (even, half) (ap suc (trailing_pow w m (omega arith)))

-- a number that shares no bit with the one before it has a single bit
lone_bit : (w t : ℕ) → 0 < t → t < 2 ^ w → bit_and t (t - 1) ≡ 0 → (k : ℕ) × (k < w) × (t ≡ 2 ^ k)
lone_bit zero t p h e = absurd (omega arith)
lone_bit (suc w) t p h e =
    ⊎_elim
    (λ (even : t % 2 ≡ 0).
    let half : (t - 1) / 2 ≡ t / 2 - 1 = omega arith in
    let clear : bit_and (t / 2) (t / 2 - 1) ≡ 0 = rw (← half) (omega (arith, and_step t (t - 1))) in
    let (k, low, is) = lone_bit w (t / 2) (omega arith) (omega arith) clear in
    (suc k, omega arith, omega arith))
    (λ (odd : 0 < t % 2).
    let half : (t - 1) / 2 ≡ t / 2 = omega arith in
    let same : bit_and (t / 2) ((t - 1) / 2) ≡ t / 2 = rw half (and_self (t / 2)) in
    (0, omega arith, omega (arith, and_step t (t - 1))))
    (eq-zero-or-pos (t % 2))

module _ (t : ℕ) where
  -- so a tree size has its logarithm for trailing zeros
  pub tree_trailing : is_tree t ≡ true → count_trailing_zeros 64 t ≡ tree_log t
  tree_trailing e =
      let l : tree_log t < 10 = ltb-true (tree_log t) 10 e in
      ap (count_trailing_zeros 64) (sym (tree_pow t e)) ∙ trailing_pow 64 (tree_log t) (omega arith)

  -- of the numbers from 1 to 512, the tree sizes are those that share no bit with the one before
  pub tree_test : 0 < t → t ≤ 512 → eqb (bit_and t (t - 1)) 0 ≡ is_tree t
  tree_test p l = go (is_tree t) refl
    where
      go : (b : Bool) → is_tree t ≡ b → eqb (bit_and t (t - 1)) 0 ≡ b
      go true e = eq-eqb _ _ (mask_mod t (tree_log t) (sym (tree_pow t e)) ∙ ap (λ (s : ℕ). t % s) (tree_pow t e) ∙ mod_self t)
      go false e =
          ne_eqb _ _ (λ q. let (k, low, is) = lone_bit 10 t p (omega arith) q in true≢false (sym (pow_tree k low) ∙ ap is_tree (sym is) ∙ e))

  -- 0 is no tree size, and none is above 512
  pub no_tree : (0 < t → 512 < t) → is_tree t ≡ false
  no_tree h = go (is_tree t) refl
    where
      go : (b : Bool) → is_tree t ≡ b → b ≡ false
      go true e = absurd (omega (arith, h (tree_pos t e), tree_high t e))
      go false e = refl

-- ---- what callers have by it

module _ (t : ℕ) (T : is_tree t ≡ true) {log : ℕ} (log_is : log ≡ tree_log t) where
  pub log_low : log < 10
  log_low = rw log_is (ltb-true (tree_log t) 10 T)

  -- so a tree's order is small
  pub top_low : {h : ℕ} → Huge h → h + log ≤ 20
  top_low H = omega (arith, H.high, log_low)

  pub log_pow : 2 ^ log ≡ t
  log_pow = rw log_is (tree_pow t T)

  -- a tree's frames
  pub tree_frames : (h : ℕ) → 2 ^ (h + log) ≡ 2 ^ h * t
  tree_frames h = rw (← log_pow) (pow-add 2 h log)
