-- What passing the refusals means, and so which rows and entries are lent. Assumes nothing.
use mathlib.Core.Path.{◌≡◌, refl, ap, ◌∙◌}
use Prim.Native.Nat.{ℕ, ◌+◌, ◌-◌, ◌*◌, ◌/◌, ◌%◌, ◌^◌, ◌≤◌, ◌<◌}
use native.Mathlib.Nat.{mul_assoc, mul-div_cancel, lt-div-mul-add, mul-pos, mul-le-mul_right, div-add-mod', mul_comm}
use native.Mathlib.Omega.{arith}
use lib.Dec.{leb, ltb}
use lib.Pow.{pow_pos}
use borrow.Author.Tests.{eq-eqb, lt-ltb, le-leb, leb-true, ltb-true, eqb-true}
use Rattle.base.specs.Code.{unless, or_else}
use Rattle.base.specs.Size.{Huge, rows_per}
use Rattle.base.proofs.Tests.{both}
use Rattle.base.proofs.Codes.{none_of, holds}
use Rattle.base.proofs.Sizes.{pow_divides}
use Rattle.base.proofs.Rests.{block_ends}
use Rattle.rules.specs.Numbers.{tree_of, tree_at, top_order, aligned, ceil, rows_needed, entries_needed}
use Rattle.rules.specs.State.{Lengths, lengths_needed}
use Rattle.rules.specs.Refusals.{frames_code, tree_code, lent_code, sizes_code, order_code, block_code, start_code, frame_code, Sized, Blocked, Started, Framed}
use Rattle.rules.proofs.Present.{present_low}
use Rattle.rules.proofs.Numbers.{tree_by_rows, entries_cover, block_begins, tree_pos}
use Rattle.rules.proofs.Trees.{tree_frames}
use Rattle.rules.proofs.Needed.{tree_covers, tree_needed, whole_needed}

-- ---- what passing means

pub sized : (h n t : ℕ) (len : Lengths) → sizes_code h n t len ≡ 0 → Sized h n t len
sized h n t len e =
    let a = none_of (frames_code n) (or_else (tree_code t) (lent_code h n t len)) e in
    let b = none_of (tree_code t) (lent_code h n t len) a.1 in
    let c = both (ltb 0 n) (leb n 1048576) (holds _ 0 a.0) in
    let d = both (leb (rows_needed h n) len.rows) (leb (entries_needed h n t) len.entries) (holds _ 2 b.1) in
    record {
      some = ltb-true 0 n c.0;
      most = leb-true n 1048576 c.1;
      tree = holds _ 1 b.0;
      rows = leb-true (rows_needed h n) len.rows d.0;
      entries = leb-true (entries_needed h n t) len.entries d.1;
    }

-- and sizes that fit pass
pub sized_passes : {h n t : ℕ} {len : Lengths} → Sized h n t len → sizes_code h n t len ≡ 0
unfolding or_else
sized_passes {h} {n} {t} {len} s = rw (lt-ltb 0 n s.some, le-leb n 1048576 s.most, s.tree, le-leb _ len.rows s.rows, le-leb _ len.entries s.entries)

pub blocked : (h n t : ℕ) (len : Lengths) (f o : ℕ) → block_code h n t len f o ≡ 0 → Blocked h n t len f o
blocked h n t len f o e =
    let a = none_of (sizes_code h n t len) (or_else (order_code h t o) (or_else (unless (leb (f + 2 ^ o) n) 5) (unless (aligned f o) 6))) e in
    let b = none_of (order_code h t o) (or_else (unless (leb (f + 2 ^ o) n) 5) (unless (aligned f o) 6)) a.1 in
    let c = none_of (unless (leb (f + 2 ^ o) n) 5) (unless (aligned f o) 6) b.1 in
    record {
      sized = sized h n t len a.0;
      top = leb-true o (top_order h t) (holds _ 3 b.0);
      ends = leb-true (f + 2 ^ o) n (holds _ 4 c.0);
      aligned = eqb-true (f % 2 ^ o) 0 (holds _ 5 c.1);
    }

-- and a block that fits passes
pub blocked_passes : {h n t : ℕ} {len : Lengths} {f o : ℕ} → Blocked h n t len f o → block_code h n t len f o ≡ 0
unfolding or_else
blocked_passes {h} {n} {t} {len} {f} {o} b =
    rw (sized_passes b.sized, le-leb o (top_order h t) b.top, le-leb (f + 2 ^ o) n b.ends, eq-eqb (f % 2 ^ o) 0 b.aligned)

pub started : (h n t : ℕ) (len : Lengths) (row o : ℕ) → start_code h n t len row o ≡ 0 → Started h n t len row o
started h n t len row o e =
    let a = none_of (sizes_code h n t len) (or_else (order_code h t o) (unless (ltb (row * 64) n) 5)) e in
    let b = none_of (order_code h t o) (unless (ltb (row * 64) n) 5) a.1 in
    record {
      sized = sized h n t len a.0;
      top = leb-true o (top_order h t) (holds _ 3 b.0);
      begins = ltb-true (row * 64) n (holds _ 4 b.1);
    }

pub framed : (h n t : ℕ) (len : Lengths) (f : ℕ) → frame_code h n t len f ≡ 0 → Framed h n t len f
framed h n t len f e =
    let a = none_of (sizes_code h n t len) (unless (ltb f n) 5) e in
    record { sized = sized h n t len a.0; below = ltb-true f n (holds _ 4 a.1) }

-- ---- what passed would pass with no more lent than is needed

pub sized_exactly : {h n t : ℕ} {len : Lengths} → Sized h n t len → Sized h n t (lengths_needed h n t)
sized_exactly s = record { some = s.some; most = s.most; tree = s.tree; rows = omega arith; entries = omega arith }

pub blocked_exactly : {h n t : ℕ} {len : Lengths} {f o : ℕ} → Blocked h n t len f o → Blocked h n t (lengths_needed h n t) f o
blocked_exactly b = record { sized = sized_exactly b.sized; top = b.top; ends = b.ends; aligned = b.aligned }

pub started_exactly : {h n t : ℕ} {len : Lengths} {row o : ℕ} → Started h n t len row o → Started h n t (lengths_needed h n t) row o
started_exactly b = record { sized = sized_exactly b.sized; top = b.top; begins = b.begins }

-- ---- the rows of a present huge frame are lent

module _ {h n t : ℕ} {len : Lengths} (H : Huge h) (s : Sized h n t len) where
  pub present_rows : (x : ℕ) → x * 2 ^ h < n → (x + 1) * rows_per h ≤ len.rows
  present_rows x l =
      let m : (x + 1) * rows_per h ≤ ceil n (2 ^ h) * rows_per h = mul-le-mul_right (rows_per h) (omega (arith, present_low h n x l)) in
      omega (arith, s.rows, mul_comm (rows_per h) (ceil n (2 ^ h)))

  -- ---- the entries of a tree that begins below N are lent
  pub tree_entries : (y : ℕ) → y * (2 ^ h * t) < n → y * t + t ≤ len.entries
  tree_entries y l =
      let pos = tree_pos t s.tree in
      let low : y < ceil n (2 ^ h * t) = rw (mul-div_cancel y (mul-pos (pow_pos h) pos)) at (tree_covers h n t (y * (2 ^ h * t)) pos l) in
      omega (arith, s.entries, tree_needed h n t y low)

-- ---- a frame's entry and rows are lent, and its tree's entries

module _ {h n t : ℕ} {len : Lengths} {f : ℕ} (H : Huge h) (b : Framed h n t len f) where
  pub frame_entry : f / 2 ^ h < len.entries
  frame_entry = omega (arith, b.sized.entries, entries_cover h n t f (tree_pos t b.sized.tree) b.below)

  pub frame_row : (f / 2 ^ h + 1) * rows_per h ≤ len.rows
  frame_row = present_rows H b.sized (f / 2 ^ h) (omega (arith, b.below, div-add-mod' f (2 ^ h)))

  pub frame_tree : tree_at h t f + t ≤ len.entries
  frame_tree = tree_entries H b.sized (f / (2 ^ h * t)) (omega (arith, b.below, div-add-mod' f (2 ^ h * t)))

-- ---- so are a block's

module _ {h n t : ℕ} {len : Lengths} {f o : ℕ} (H : Huge h) (b : Blocked h n t len f o) where
  -- its first frame
  pub at_first : Framed h n t len f
  at_first = record { sized = b.sized; below = omega (arith, b.ends, pow_pos o) }

  pub block_entry : f / 2 ^ h < len.entries
  block_entry = frame_entry H at_first

  pub block_row : (f / 2 ^ h + 1) * rows_per h ≤ len.rows
  block_row = frame_row H at_first

  -- from the huge order on, all its entries
  pub block_entries : h ≤ o → f / 2 ^ h + 2 ^ (o - h) ≤ len.entries
  block_entries l =
      let last : (f / 2 ^ h + 2 ^ (o - h)) * 2 ^ h ≤ n = omega (arith, block_begins h f o l b.aligned, pow_divides h o l, b.ends) in
      omega (arith, b.sized.entries, whole_needed h n t (f / 2 ^ h + 2 ^ (o - h)) (tree_pos t b.sized.tree) last)

-- and it ends in the tree it begins in
pub block_in_tree : {h n t : ℕ} {len : Lengths} {f o : ℕ} → Blocked h n t len f o → f + 2 ^ o ≤ (tree_of h t f + 1) * (2 ^ h * t)
block_in_tree {h} {t = t} {f = f} {o} b =
    let size : 2 ^ (top_order h t - o) * 2 ^ o ≡ 2 ^ h * t = pow_divides o (top_order h t) b.top ∙ tree_frames t b.sized.tree refl h in
    let all = mul_assoc (tree_of h t f + 1) (2 ^ (top_order h t - o)) (2 ^ o) ∙ ap (λ (s : ℕ). (tree_of h t f + 1) * s) size in
    let low = lt-div-mul-add {a = f} {b = 2 ^ h * t} (mul-pos (pow_pos h) (tree_pos t b.sized.tree)) in
    rw all at (block_ends f (2 ^ o) ((tree_of h t f + 1) * 2 ^ (top_order h t - o)) b.aligned (rw all (omega arith)))

-- ---- the entries of a start row's tree are lent

module _ {h n t : ℕ} {len : Lengths} {row o : ℕ} (H : Huge h) (b : Started h n t len row o) where
  pub start_tree : (row / rows_per h / t + 1) * t ≤ len.entries
  start_tree = rw (← tree_by_rows t row H) (omega (arith, frame_tree H (record { sized = b.sized; below = b.begins })))
