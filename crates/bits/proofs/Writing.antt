-- A run of bits written row by row, from the first row on: what is written, and what is left. Assumes nothing.
use mathlib.Core.Path.{◌≡◌}
use mathlib.Core.Bool.{Bool}
use mathlib.Core.List.{List, ◌++◌, append_assoc, append-nil}
use Prim.Native.Nat.{ℕ, suc, ◌+◌, ◌-◌, ◌≤◌, ◌<◌, min}
use native.Mathlib.Numerals.{add-one}
use native.Mathlib.Omega.{arith}
use lib.ListN.{length, get_or, set, take, drop, length-set, drop_of_length-le}
use lib.Seq.{drop-cons, drop-set-lt, take_all, take-suc-set}
use Rattle.base.specs.Bits.{overlay, with_bits}

-- what a loop knows at row i: the rows are `whole` once those from i on have their bits from a up to e written, counted from row i
pub record WriteAt (b : Bool) (whole rows : List ℕ) (a e i : ℕ) : Type 0 where
  pub inside : i ≤ length rows
  pub ordered : a ≤ e
  pub left : take i rows ++ with_bits b (drop i rows) a e ≡ whole

-- a row is written from lo up to hi, the parts of a and e that lie in it
pub write_more : {b : Bool} {whole rows : List ℕ} {a e i lo hi x : ℕ} → WriteAt b whole rows a e i → i < length rows
    → lo ≡ min a 64 → hi ≡ min e 64 → x ≡ overlay b (get_or rows i 0) lo hi → WriteAt b whole (set rows i x) (a - lo) (e - hi) (i + 1)
unfolding with_bits
write_more {b} {rows = rows} {a} {e} {i} {lo} {hi} {x} w h l m q =
    let row : x ≡ overlay b (get_or rows i 0) (min a 64) (min e 64) = rw (l, m) at q in
    let start : a - lo ≡ a - 64 = omega arith in
    let end : e - hi ≡ e - 64 = omega arith in
    let past : i < suc i = omega arith in
    record {
      inside = simp length-set (omega arith);
      ordered = omega arith;
      left = rw (add-one, take-suc-set rows i x, drop-set-lt (suc i) rows i x, append_assoc, start, end, row) (rw (drop-cons rows i 0) at w.left);
    }

-- past the last row nothing is left
pub write_end : {b : Bool} {whole rows : List ℕ} {a e i : ℕ} → WriteAt b whole rows a e i → length rows ≤ i → rows ≡ whole
unfolding with_bits
write_end {rows = rows} {i = i} w h = rw (drop_of_length-le rows h, append-nil, take_all i rows) at w.left
