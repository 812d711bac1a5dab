-- What passing the checks of a call means, and what a search's answer tells. Assumes nothing.
use mathlib.Core.Path.{◌≡◌, refl, sym, ap, ◌∙◌, subst}
use mathlib.Core.Bool.{Bool, true, false}
use mathlib.Core.List.{List, append-nil}
use Prim.Native.Nat.{ℕ, ◌+◌, ◌-◌, ◌*◌, ◌/◌, ◌%◌, ◌^◌, ◌≤◌, ◌<◌}
use native.Mathlib.Nat.{div-lt_iff_lt-mul, zero-add}
use native.Mathlib.Omega.{arith}
use lib.Dec.{eqb, leb, ltb}
use lib.Pow.{pow_pos}
use lib.ListN.{length, get_or, replicate, drop_of_length-le}
use borrow.Author.Tests.{eq-eqb, eqb-true, eqb-false, ltb-true, ltb-false, le-leb, leb-true}
use Rattle.base.specs.Walk.{pick}
use Rattle.base.specs.Code.{unless, or_else}
use Rattle.base.specs.Size.{Huge, rows_per}
use Rattle.base.specs.Bits.{solid, block_is, with_bits}
use Rattle.base.proofs.Walks.{pick_case, first_hit, first_before}
use Rattle.base.proofs.Codes.{none_of, holds}
use Rattle.base.proofs.Sizes.{rows_frames}
use Rattle.base.proofs.Writes.{with_rows}
use Rattle.base.proofs.Frames.{block_each, block_of}
use Rattle.bits.specs.Block.{Block}
use Rattle.bitfield_rules.specs.Calls.{Placed}
use Rattle.bitfield_rules.specs.Calls.{placed, rows_code, order_code, block_code, visited, distance, passed, first_zeros}
use Rattle.bitfield_rules.specs.Means.{Each, Within, NoneClear, FirstClear}
use Rattle.bitfield_rules.proofs.Search.{clear_at}
use Rattle.bitfield_rules.proofs.Order.{visited_aligned, visited_ends, distance_visited, turn_low, visited_at}

-- ---- the refusals: what passing them means

pub rows_many : (h len : ℕ) → rows_code h len ≡ 0 → len ≡ rows_per h
rows_many h len e = eqb-true len (rows_per h) (holds _ 2 e)

-- the rows' bits are the frames of the huge frame
pub rows_bits : {h : ℕ} → Huge h → (len : ℕ) → rows_code h len ≡ 0 → len * 64 ≡ 2 ^ h
rows_bits {h} H len e = rw (rows_many h len e) (sym (rows_frames H))

-- all rows made solid are all bits written
pub all_written : {h : ℕ} → Huge h → (rows : List ℕ) (b : Bool) → rows_code h (length rows) ≡ 0 → ((j : ℕ) → get_or rows j 0 < 2 ^ 64)
    → replicate (length rows) (solid b 64) ≡ with_bits b rows 0 (2 ^ h)
all_written {h} H rows b e fits =
    sym (ap (with_bits b rows 0) (sym (rows_bits H (length rows) e) ∙ ap (λ (k : ℕ). k * 64) (sym (zero-add (length rows)))) ∙ with_rows b rows 0 (length rows) fits (omega arith)
    ∙ rw (zero-add (length rows), drop_of_length-le rows {i = length rows} (omega arith), append-nil))

pub order_rows : (h len o : ℕ) → order_code h len o ≡ 0 → len ≡ rows_per h
order_rows h len o e = rows_many h len (none_of (rows_code h len) (unless (leb o h) 4) e).0

pub order_low : (h len o : ℕ) → order_code h len o ≡ 0 → o ≤ h
order_low h len o e = leb-true o h (holds _ 3 (none_of (rows_code h len) (unless (leb o h) 4) e).1)

pub within : (h len p o : ℕ) → block_code h len p o ≡ 0 → Within h len p o
within h len p o e =
    let a = none_of (order_code h len o) (or_else (unless (leb (p + 2 ^ o) (2 ^ h)) 5) (unless (eqb (p % 2 ^ o) 0) 6)) e in
    let b = none_of (rows_code h len) (unless (leb o h) 4) a.0 in
    let c = none_of (unless (leb (p + 2 ^ o) (2 ^ h)) 5) (unless (eqb (p % 2 ^ o) 0) 6) a.1 in
    record {
      rows = eqb-true len (rows_per h) (holds _ 2 b.0);
      order = leb-true o h (holds _ 3 b.1);
      ends = leb-true (p + 2 ^ o) (2 ^ h) (holds _ 4 c.0);
      aligned = eqb-true (p % 2 ^ o) 0 (holds _ 5 c.1);
    }

-- and such a block passes
pub passes_within : {h len p o : ℕ} → Within h len p o → block_code h len p o ≡ 0
unfolding or_else
passes_within w = rw (eq-eqb _ _ w.rows, le-leb _ _ w.order, le-leb _ _ w.ends, eq-eqb _ _ w.aligned)

-- it lies in the rows, as the routines on any rows ask
pub in_rows : {h : ℕ} → Huge h → {rows : List ℕ} {p o : ℕ} → Within h (length rows) p o → Block rows p o
in_rows H w = record { order = omega (arith, H.high, w.order); ends = rw (w.rows, ← rows_frames H) w.ends; aligned = w.aligned }

-- ---- searches

module _ {h : ℕ} (H : Huge h) (rows : List ℕ) (start o : ℕ) where
  -- an aligned place that is visited before the search ends is not clear
  earlier : o ≤ h → (q : ℕ) → q % 2 ^ o ≡ 0 → q + 2 ^ o ≤ 2 ^ h → distance h start o q / 2 ^ o < passed h rows start o
      → Each false rows q (2 ^ o) → ⊥
  unfolding passed
  earlier lh q even ends l clear =
      let p = pow_pos o in
      let no : block_is false rows q (2 ^ o) ≡ false =
      ap (λ (x : ℕ). block_is false rows x (2 ^ o)) (sym (visited_at H start o lh q even (omega arith)))
      ∙ first_before (clear_at h rows start o) (2 ^ (h - o)) 0 (distance h start o q / 2 ^ o) (omega arith) l in
      let z : ◌≡◌ {A = ℕ} 0 1 = cc (no, block_of false rows q (2 ^ o) clear) in
      omega arith

  -- the answer of a search, by what led to it
  module _ (c p : ℕ) (is : first_zeros h rows start o ≡ placed c p) where
    cases : {A : Type 0} → ((order_code h (length rows) o ≡ 0) → passed h rows start o < 2 ^ (h - o) → c ≡ 0 → p ≡ visited h start o (passed h rows start o) → A)
        → ((order_code h (length rows) o ≡ 0) → 2 ^ (h - o) ≤ passed h rows start o → c ≡ 7 → A)
        → ((order_code h (length rows) o ≡ 0 → ⊥) → c ≡ order_code h (length rows) o → A) → A
    unfolding first_zeros
    cases {A} found missed refused = go (eqb code 0) (ltb n (2 ^ (h - o))) refl refl is
      where
        code : ℕ
        code = order_code h (length rows) o

        n : ℕ
        n = passed h rows start o

        go : (s t : Bool) → eqb code 0 ≡ s → ltb n (2 ^ (h - o)) ≡ t → pick s (pick t (placed 0 (visited h start o n)) (placed 7 0)) (placed code 0) ≡ placed c p → A
        go true true d e q = found (eqb-true code 0 d) (ltb-true n (2 ^ (h - o)) e) (sym (ap (λ (x : Placed). x.code) q)) (sym (ap (λ (x : Placed). x.place) q))
        go true false d e q = missed (eqb-true code 0 d) (ltb-false n (2 ^ (h - o)) e) (sym (ap (λ (x : Placed). x.code) q))
        go false t d e q = refused (eqb-false code 0 d) (sym (ap (λ (x : Placed). x.code) q))

    -- a search that is done found the first clear block ..
    pub search_found : c ≡ 0 → FirstClear h rows start o p
    unfolding passed
    search_found z = cases took (λ u l e. absurd (omega arith)) (λ n e. absurd (n (sym e ∙ z)))
      where
        took : (order_code h (length rows) o ≡ 0) → passed h rows start o < 2 ^ (h - o) → c ≡ 0 → p ≡ visited h start o (passed h rows start o) → FirstClear h rows start o p
        took u l e at =
            let s = none_of (rows_code h (length rows)) (unless (leb o h) 4) u in
            let lh = leb-true o h (holds _ 3 s.1) in
            let n = passed h rows start o in
            let far : distance h start o p ≡ n * 2 ^ o = ap (distance h start o) at ∙ distance_visited H start o lh n l in
            record {
              block = record {
                rows = eqb-true (length rows) (rows_per h) (holds _ 2 s.0);
                order = lh;
                ends = rw at (visited_ends H start o lh n);
                aligned = rw at (visited_aligned H start o lh n);
              };
              clear = block_each false rows p (2 ^ o) (ap (λ (x : ℕ). block_is false rows x (2 ^ o)) at ∙ first_hit (clear_at h rows start o) (2 ^ (h - o)) 0 (omega arith));
              least = λ q even ends before. earlier lh q even ends ((div-lt_iff_lt-mul (pow_pos o)).1 (subst (λ (x : ℕ). distance h start o q < x) far before));
            }

    -- .. and one refused with 7 that there is none
    pub search_missed : c ≡ 7 → NoneClear h rows o
    unfolding or_else
    search_missed z = cases (λ u l e at. absurd (omega arith)) none (λ n e. absurd (not_seven (sym e ∙ z)))
      where
        none : (order_code h (length rows) o ≡ 0) → 2 ^ (h - o) ≤ passed h rows start o → c ≡ 7 → NoneClear h rows o
        none u l e q even ends =
            let s = none_of (rows_code h (length rows)) (unless (leb o h) 4) u in
            let lh = leb-true o h (holds _ 3 s.1) in
            let turn = turn_low H start o lh q even (omega (arith, pow_pos o)) in
            earlier lh q even ends (omega arith)

        not_seven : order_code h (length rows) o ≡ 7 → ⊥
        not_seven = go (eqb (length rows) (rows_per h)) (leb o h)
          where
            go : (s t : Bool) → or_else (unless s 3) (unless t 4) ≡ 7 → ⊥
            go true true e = omega arith
            go true false e = omega arith
            go false t e = omega arith

-- where the rows and the order are right, a search that finds no block is refused with 7
pub search_code : (h : ℕ) (rows : List ℕ) (start o : ℕ) → length rows ≡ rows_per h → o ≤ h → ((first_zeros h rows start o).code ≡ 0 → ⊥) → (first_zeros h rows start o).code ≡ 7
unfolding first_zeros or_else
search_code h rows start o long low =
    rw (eq-eqb (length rows) (rows_per h) long, le-leb o h low)
    (pick_case (λ (a : Placed). (a.code ≡ 0 → ⊥) → a.code ≡ 7) (ltb (passed h rows start o) (2 ^ (h - o))) (λ _ none. absurd (none refl)) (λ _ _. refl))
