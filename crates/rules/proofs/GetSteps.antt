-- A get's loop over the entries of a tree: where a visit is, what it may touch, and what the get answers. Assumes nothing.
use mathlib.Core.Path.{◌≡◌, refl, sym, ap, ◌∙◌}
use mathlib.Core.Bool.{Bool, true}
use mathlib.Core.List.{List}
use Prim.Native.Nat.{ℕ, ◌+◌, ◌-◌, ◌*◌, ◌/◌, ◌%◌, ◌^◌, ◌≤◌, ◌<◌}
use native.Mathlib.Nat.{div-add-mod', div-le_self, div-mul-le_self, mod-lt, mul-div_cancel}
use native.Mathlib.Omega.{arith}
use lib.Bits.{bit_and}
use lib.Dec.{lit<}
use lib.ListN.{set}
use borrow.Author.Tests.{lt-ltb, le-ltb}
use Rattle.base.specs.Code.{out}
use Rattle.base.specs.Size.{Huge, rows_per}
use Rattle.base.specs.Bits.{with_bits}
use Rattle.base.proofs.Walks.{FirstAt, first_found, first_none}
use Rattle.base.proofs.Sizes.{mask_mod}
use Rattle.rules.specs.Numbers.{huge_of, is_tree, tree_log}
use Rattle.rules.specs.Refusals.{Started, Blocked}
use Rattle.rules.specs.State.{Mem, mem, entry_of, Lengths}
use Rattle.rules.specs.Get.{got, visit, stops, entry_at, visits_passed, ended, get_small}
use Rattle.rules.proofs.Numbers.{huge_of_row, tree_pow, tree_pos, tree_high}
use Rattle.rules.proofs.Lent.{start_tree}
use Rattle.rules.specs.Numbered.{Visit}
use Rattle.rules.specs.Numbered.{Place}
use Rattle.rules.proofs.VisitSteps.{Free}

-- ---- the entries of a tree, from entry x on, wrapping

module _ (t x : ℕ) (tree : is_tree t ≡ true) where
  -- the place of x in its tree, by a mask, T being a power of 2
  pub child_is : bit_and x (t - 1) ≡ x % t
  child_is = mask_mod x (tree_log t) (sym (tree_pow t tree)) ∙ ap (λ (m : ℕ). x % m) (tree_pow t tree)

  -- the entry that is visited after j others, by masks too
  pub entry_masked : (j : ℕ) → x - bit_and x (t - 1) + bit_and (bit_and x (t - 1) + j) (t - 1) ≡ entry_at t x j
  entry_masked j =
      let first : x - x % t ≡ x / t * t = omega (arith, div-add-mod' x t) in
      rw (child_is, first, mask_mod (x % t + j) (tree_log t) (sym (tree_pow t tree)), tree_pow t tree)

  -- it is one of the tree's
  pub entry_in : (j : ℕ) → entry_at t x j < (x / t + 1) * t
  entry_in j = omega (arith, mod-lt (x % t + j) (tree_pos t tree))

  -- and far below a word's end where x is
  pub entry_near : (j : ℕ) → entry_at t x j < x + 512
  entry_near j = omega (arith, entry_in j, div-mul-le_self x t, tree_high t tree)

-- ---- what a get without a frame may touch

module _ {h n t : ℕ} {len : Lengths} {row o : ℕ} (H : Huge h) (s : Started h n t len row o) where
  -- the huge frame of the start row, as `row_huge` says it
  pub start_huge : huge_of h (row * 64) ≡ row / rows_per h
  start_huge = rw (huge_of_row (row * 64) H, mul-div_cancel row (lit< tt))

  -- which is far below a word's end
  pub start_low : row / rows_per h < 16384
  start_low = omega (arith, s.begins, s.sized.most, div-le_self row (rows_per h))

  -- the entry of each visit is lent
  pub entry_lent : (j : ℕ) → entry_at t (row / rows_per h) j < len.entries
  entry_lent j = omega (arith, entry_in t (row / rows_per h) s.sized.tree j, start_tree H s)

  -- and far below a word's end
  pub entry_low : (j : ℕ) → entry_at t (row / rows_per h) j < 1048576
  entry_low j = omega (arith, entry_near t (row / rows_per h) s.sized.tree j, start_low)

  -- a block that a visit answers is one that a call may name
  pub found_block : {x f : ℕ} {rs es : List ℕ} → Free h n rs es o x f → Blocked h n t len f o
  found_block free = record { sized = s.sized; top = s.top; ends = free.ends; aligned = free.aligned }

-- ---- what a get answers

-- whether the visit after j others ends a get
abbrev pub stops_at : ℕ → ℕ → ℕ → Mem → ℕ → ℕ → ℕ → Bool
stops_at h n t m row o j = stops (visit h n m row o (entry_at t (row / rows_per h) j))

module _ (h n t : ℕ) (m : Mem) (row o j : ℕ) (at : FirstAt (stops_at h n t m row o) t j) where
  -- the visit after j others ends it
  pub get_ended : j < t → (v : Visit) → v ≡ visit h n m row o (entry_at t (row / rows_per h) j) → stops v ≡ true → ended h m o (j + 1) v ≡ get_small h n t m row o
  unfolding get_small visits_passed
  get_ended l v e s = rw (← first_found (stops_at h n t m row o) t j at l (ap stops (sym e) ∙ s), lt-ltb j t l, ← e)

  -- no visit does
  pub get_none : t ≤ j → out (got 7 0 t) m ≡ get_small h n t m row o
  unfolding get_small visits_passed
  get_none l = rw (← first_none (stops_at h n t m row o) t j at l, le-ltb j t l)

-- the visit after j others answers block f, whose bits are then set, and the entry lowered
pub get_taken : (h n t : ℕ) (rs es : List ℕ) (row o j : ℕ) → FirstAt (stops_at h n t (mem rs es) row o) t j → j < t
    → {x : ℕ} (f : ℕ) → x ≡ entry_at t (row / rows_per h) j → Place f ≡ visit h n (mem rs es) row o x → Free h n rs es o x f
    → {entry : ℕ} {left : List ℕ} → left ≡ with_bits true rs f (f + 2 ^ o) → entry ≡ entry_of es x - 2 ^ o
    → out (got 0 f (j + 1)) (mem left (set es x entry)) ≡ get_small h n t (mem rs es) row o
get_taken h n t rs es row o j at l f x_is e free left_is entry_is =
    rw (left_is, entry_is, ← free.huge) (get_ended h n t (mem rs es) row o j at l (Place f) (rw x_is at e) refl)
