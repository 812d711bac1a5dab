-- How many entries and bitfields differ before and after a run from the first on is written. Assumes nothing.
use mathlib.Core.Path.{◌≡◌, sym, ap, ◌∙◌}
use mathlib.Core.Bool.{Bool, true, not}
use mathlib.Core.List.{List}
use Prim.Native.Nat.{ℕ, ◌+◌, ◌-◌, ◌*◌, ◌/◌, ◌≤◌, ◌<◌}
use native.Mathlib.Nat.{mul-le-mul_right, le-div_iff_mul-le}
use native.Mathlib.Omega.{arith}
use lib.Dec.{eqb}
use lib.Pow.{pow_pos}
use lib.ListN.{length, get_or}
use borrow.Author.Tests.{eq-eqb}
use Rattle.base.specs.Walk.{all, count, written}
use Rattle.base.specs.Size.{rows_per}
use Rattle.base.proofs.Walks.{all_of, all_same, count_same, count_none, count_parts}
use Rattle.base.proofs.Written.{written_in, written_beyond}
use Rattle.rules.specs.State.{entry_of}
use Rattle.rules.specs.Recover.{entries_differ, bitfields_differ}

-- entries: k of them, from the first on
pub entries_differ_lem : (f : ℕ → ℕ) (es : List ℕ) (k : ℕ) → k ≤ length es → entries_differ es (written f es 0 k) ≡ count (λ x. not (eqb (entry_of es x) (f x))) k 0
unfolding entries_differ
entries_differ_lem f es k l =
    let parts : length es ≡ k + (length es - k) = omega arith in
    ap (λ (n : ℕ). count differs n 0) parts ∙ count_parts differs k (length es - k) 0
    ∙ omega (
      arith,
      count_same differs (λ x. not (eqb (entry_of es x) (f x))) k 0 (λ x _ u. ap (λ (y : ℕ). not (eqb (entry_of es x) y)) (written_in f es 0 k x (omega arith) u (omega arith))),
      count_none differs (length es - k) (0 + k) (λ x u _. ap not (eq-eqb _ _ (sym (written_beyond f es 0 k x u)))),
    )
  where
    differs : ℕ → Bool
    differs x = not (eqb (entry_of es x) (entry_of (written f es 0 k) x))

-- bitfields: the rows of k huge frames
pub bitfields_differ_lem : (h : ℕ) (f : ℕ → ℕ) (rs : List ℕ) (k : ℕ) → k * rows_per h ≤ length rs
    → bitfields_differ h rs (written f rs 0 (k * rows_per h)) ≡ count (λ x. not (all (λ i. eqb (get_or rs i 0) (f i)) (rows_per h) (x * rows_per h))) k 0
unfolding bitfields_differ
bitfields_differ_lem h f rs k l =
    let most : k ≤ length rs / rows_per h = (le-div_iff_mul-le (pow_pos (h - 6))).1 l in
    let parts : length rs / rows_per h ≡ k + (length rs / rows_per h - k) = omega arith in
    ap (λ (n : ℕ). count differs n 0) parts ∙ count_parts differs k (length rs / rows_per h - k) 0
    ∙ omega (
      arith,
      count_same differs (λ x. not (all (λ i. eqb (get_or rs i 0) (f i)) (rows_per h) (x * rows_per h))) k 0 (λ x _ u. ap not (inside x (omega arith))),
      count_none differs (length rs / rows_per h - k) (0 + k) (λ x u _. ap not (beyond x (omega arith))),
    )
  where
    left : List ℕ
    left = written f rs 0 (k * rows_per h)

    differs : ℕ → Bool
    differs x = not (all (λ i. eqb (get_or rs i 0) (get_or left i 0)) (rows_per h) (x * rows_per h))

    inside : (x : ℕ) → x < k → all (λ i. eqb (get_or rs i 0) (get_or left i 0)) (rows_per h) (x * rows_per h) ≡ all (λ i. eqb (get_or rs i 0) (f i)) (rows_per h) (x * rows_per h)
    inside x u =
        let ends : (x + 1) * rows_per h ≤ k * rows_per h = mul-le-mul_right (rows_per h) (omega arith) in
        all_same _ _ (rows_per h) (x * rows_per h) (λ i a b. ap (eqb (get_or rs i 0)) (written_in f rs 0 (k * rows_per h) i (omega arith) (omega arith) (omega arith)))

    beyond : (x : ℕ) → k ≤ x → all (λ i. eqb (get_or rs i 0) (get_or left i 0)) (rows_per h) (x * rows_per h) ≡ true
    beyond x u =
        let starts : k * rows_per h ≤ x * rows_per h = mul-le-mul_right (rows_per h) u in
        all_of _ (rows_per h) (x * rows_per h) (λ i a b. eq-eqb _ _ (sym (written_beyond f rs 0 (k * rows_per h) i (omega arith))))
