-- Refusal 3, by the last huge frame x, where the rows lent are those of r huge frames. Assumes nothing.
use mathlib.Core.Path.{◌≡◌, sym, ap, ◌∙◌}
use mathlib.Core.Bool.{true}
use Prim.Native.Nat.{ℕ, ◌+◌, ◌-◌, ◌*◌, ◌/◌, ◌%◌, ◌^◌, ◌≤◌, ◌<◌}
use native.Mathlib.Nat.{add-div_right, div-add-mod', div-div-eq-div-mul, div-lt_iff_lt-mul, le-div_iff_mul-le, mul-pos}
use native.Mathlib.Omega.{arith}
use lib.Bits.{bit_and, bit_or, or_add_and}
use lib.Pow.{pow_pos}
use borrow.Author.Tests.{le-leb, lt-leb}
use Rattle.base.specs.Size.{Huge, rows_per}
use Rattle.base.proofs.Sizes.{mask_mod}
use Rattle.rules.specs.Numbers.{huge_of, ceil, tree_log, is_tree, rows_needed, entries_needed}
use Rattle.rules.specs.State.{Lengths}
use Rattle.rules.specs.Refusals.{lent_code}
use Rattle.rules.proofs.Numbers.{tree_pow, tree_pos, huge_by_rows}

-- rounded up, a quotient is one more than that of the number before
ceil_last : (n b : ℕ) → 0 < n → 0 < b → ceil n b ≡ (n - 1) / b + 1
ceil_last n b p q = let e : n + (b - 1) ≡ n - 1 + b = omega arith in rw e (add-div_right (n - 1) q)

module _ (h n t : ℕ) (len : Lengths) (huge : Huge h) (some : 0 < n) (tree : is_tree t ≡ true) {x : ℕ} (x_is : x ≡ huge_of h (n - 1)) where
  rows_last : rows_needed h n ≡ rows_per h * (x + 1)
  rows_last = rw (ceil_last n (2 ^ h) some (pow_pos h), ← x_is)

  -- the last of its tree's entries has all the bits below T
  entries_last : entries_needed h n t ≡ bit_or x (t - 1) + 1
  entries_last =
      let p = tree_pos t tree in
      let rest : bit_and x (t - 1) ≡ x % t = mask_mod x (tree_log t) (sym (tree_pow t tree)) ∙ ap (λ (s : ℕ). x % s) (tree_pow t tree) in
      let last : (n - 1) / (2 ^ h * t) ≡ x / t = rw x_is (sym (div-div-eq-div-mul (n - 1) (2 ^ h) t)) in
      rw (ceil_last n (2 ^ h * t) some (mul-pos (pow_pos h) p), last) (omega (arith, or_add_and x (t - 1), div-add-mod' x t))

  module _ {r : ℕ} (r_is : r ≡ huge_of h (len.rows * 64)) where
    -- rows too few
    pub rows_short : r ≤ x → 3 ≡ lent_code h n t len
    rows_short l =
        let few : len.rows < (x + 1) * rows_per h = (div-lt_iff_lt-mul (pow_pos (h - 6))).0 (rw (← huge_by_rows len.rows huge, ← r_is) (omega arith)) in
        rw (rows_last, lt-leb (rows_per h * (x + 1)) len.rows (omega arith))

    module _ (rows : x < r) where
      enough : rows_per h * (x + 1) ≤ len.rows
      enough =
          let below : x + 1 ≤ len.rows / rows_per h = rw (← huge_by_rows len.rows huge, ← r_is) (omega arith) in
          omega (arith, (le-div_iff_mul-le (pow_pos (h - 6))).0 below)

      -- rows enough, and entries too few
      pub entries_short : len.entries ≤ bit_or x (t - 1) → 3 ≡ lent_code h n t len
      entries_short l = rw (rows_last, entries_last, le-leb _ len.rows enough, lt-leb (bit_or x (t - 1) + 1) len.entries (omega arith))

      -- both enough
      pub both_lent : bit_or x (t - 1) < len.entries → 0 ≡ lent_code h n t len
      both_lent l = rw (rows_last, entries_last, le-leb _ len.rows enough, le-leb (bit_or x (t - 1) + 1) len.entries (omega arith))
