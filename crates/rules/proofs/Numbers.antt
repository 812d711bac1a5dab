-- What callers use of document 01's numbers in place of the definitions' text, once for every huge order h and tree size t. Assumes nothing.
use mathlib.Core.Path.{◌≡◌, refl, sym, ap, ◌∙◌}
use mathlib.Core.Bool.{true}
use Prim.Native.Nat.{ℕ, ◌+◌, ◌-◌, ◌*◌, ◌/◌, ◌%◌, ◌^◌, ◌≤◌, ◌<◌}
use native.Mathlib.Nat.{mul_comm, mul-pos, mul-div_cancel, zero-mod, div-add-mod', div-div-eq-div-mul, div-lt_iff_lt-mul, div-mul-le_self, lt-div-mul-add}
use native.Mathlib.Omega.{arith}
use lib.Dec.{eqb, lit<}
use lib.Pow.{pow_pos, pow-lt, pow_mono}
use borrow.Author.Tests.{eq-eqb, ne_eqb, eqb-true, lt-ltb, ltb-true}
use Rattle.base.specs.Size.{Huge, rows_per}
use Rattle.base.proofs.Walks.{first_hit, first_is}
use Rattle.base.proofs.Sizes.{rows_frames, rest_by_less}
use Rattle.rules.specs.Numbers.{row_of, huge_of, tree_of, tree_log, is_tree, ceil, rows_needed, entries_needed}

-- ---- tree sizes

-- a tree size is 2 to the power of its logarithm
pub tree_pow : (t : ℕ) → is_tree t ≡ true → 2 ^ tree_log t ≡ t
unfolding tree_log
tree_pow t e = eqb-true (2 ^ tree_log t) t (first_hit (λ k. eqb (2 ^ k) t) 10 0 (ltb-true (tree_log t) 10 e))

-- a tree has at least one huge frame
pub tree_pos : (t : ℕ) → is_tree t ≡ true → 0 < t
tree_pos t e = rw (← tree_pow t e) (pow_pos (tree_log t))

-- and at most 512
pub tree_high : (t : ℕ) → is_tree t ≡ true → t ≤ 512
tree_high t e =
    let l : tree_log t < 10 = ltb-true (tree_log t) 10 e in
    rw (← tree_pow t e) (pow_mono {j = 9} (omega arith))

-- each of the first ten powers of 2 has its exponent for logarithm
pub tree_is : (k : ℕ) → k < 10 → tree_log (2 ^ k) ≡ k
unfolding tree_log
tree_is k h =
    first_is (λ j. eqb (2 ^ j) (2 ^ k)) 10 0 k (omega arith) (omega arith) (eq-eqb (2 ^ k) (2 ^ k) refl)
    (λ j _ l. ne_eqb (2 ^ j) (2 ^ k) (λ q. omega (arith, pow-lt l)))

-- so each of them is a tree size
pub pow_tree : (k : ℕ) → k < 10 → is_tree (2 ^ k) ≡ true
pow_tree k h = rw (tree_is k h) (lt-ltb k 10 h)

-- ---- where a frame is

-- the huge frame of a frame is that of its row
pub huge_of_row : {h : ℕ} (f : ℕ) → Huge h → huge_of h f ≡ row_of f / rows_per h
huge_of_row {h} f huge = rw (rows_frames huge, mul_comm (rows_per h) 64) (sym (div-div-eq-div-mul f 64 (rows_per h)))

pub huge_by_rows : {h : ℕ} (row : ℕ) → Huge h → huge_of h (row * 64) ≡ row / rows_per h
huge_by_rows {h} row H = huge_of_row (row * 64) H ∙ ap (λ (r : ℕ). r / rows_per h) (mul-div_cancel row (lit< tt))

-- the tree of a frame is that of its huge frame
pub tree_of_huge : (h t f : ℕ) → tree_of h t f ≡ huge_of h f / t
tree_of_huge h t f = sym (div-div-eq-div-mul f (2 ^ h) t)

pub tree_by_rows : {h : ℕ} (t row : ℕ) → Huge h → tree_of h t (row * 64) ≡ row / rows_per h / t
tree_by_rows {h} t row H = tree_of_huge h t (row * 64) ∙ ap (λ (x : ℕ). x / t) (huge_by_rows row H)

-- the huge frames of a tree
pub tree_ends : (t x y : ℕ) → 0 < t → x / t ≡ y → (y * t ≤ x) × (x < y * t + t)
tree_ends t x y p e = rw (← e) (div-mul-le_self x t, lt-div-mul-add p)

-- ---- how much is lent

-- rounded up, a quotient covers what is divided
pub ceil_covers : (n b : ℕ) → 0 < b → n ≤ ceil n b * b
ceil_covers n b p = omega (arith, lt-div-mul-add {a = n + (b - 1)} {b = b} p)

-- and is the least number that does
pub ceil_least : (n b q : ℕ) → 0 < b → n ≤ q * b → ceil n b ≤ q
ceil_least n b q p l = let m : ceil n b < q + 1 = (div-lt_iff_lt-mul p).1 (omega arith) in omega arith

-- each frame below n has a row among those that n frames need
pub rows_cover : {h : ℕ} (n f : ℕ) → Huge h → f < n → row_of f < rows_needed h n
rows_cover {h} n f huge l =
    rw (rows_frames huge) ((div-lt_iff_lt-mul (lit< tt)).1 (omega (arith, ceil_covers n (rows_per h * 64) (mul-pos (pow_pos (h - 6)) (lit< tt)))))

-- and its huge frame an entry among those that n frames need, in trees of t
pub entries_cover : (h n t f : ℕ) → 0 < t → f < n → huge_of h f < entries_needed h n t
entries_cover h n t f p l = (div-lt_iff_lt-mul (pow_pos h)).1 (omega (arith, ceil_covers n (2 ^ h * t) (mul-pos (pow_pos h) p)))

-- an aligned block begins with a huge frame
pub block_begins : (h f o : ℕ) → h ≤ o → f % 2 ^ o ≡ 0 → huge_of h f * 2 ^ h ≡ f
block_begins h f o l e =
    let even : f % 2 ^ h ≡ 0 = sym (rest_by_less f h o l) ∙ ap (λ (r : ℕ). r % 2 ^ h) e ∙ zero-mod (2 ^ h) in
    omega (arith, div-add-mod' f (2 ^ h))
