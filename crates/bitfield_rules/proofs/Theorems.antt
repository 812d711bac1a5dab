-- A term of the theorem, call by call. Assumes nothing.
use mathlib.Core.Path.{◌≡◌, refl, sym, ap, ◌∙◌, subst}
use mathlib.Core.Bool.{Bool, true, false, not, ◌&&◌}
use mathlib.Core.List.{List}
use mathlib.Core.Logic.{◌⊎◌, inl, inr}
use Prim.Native.Nat.{ℕ, ◌+◌, ◌-◌, ◌*◌, ◌%◌, ◌^◌, ◌≤◌}
use native.Mathlib.Nat.{zero-mul}
use native.Mathlib.Omega.{arith}
use lib.Dec.{eqb, leb, ltb}
use lib.ListN.{length}
use borrow.Author.Tests.{eq-eqb, ne_eqb, eqb-true, eqb-false, leb-true, le-leb, lt-leb}
use Rattle.base.specs.Walk.{pick, count, sum}
use Rattle.base.specs.Code.{Out, out, unless, or_else, stored}
use Rattle.base.specs.Size.{Huge, rows_per}
use Rattle.base.specs.Bits.{bit_is, block_is, with_bits}
use Rattle.base.proofs.Walks.{pick_case}
use Rattle.base.proofs.Tests.{both}
use Rattle.base.proofs.Codes.{none_of, holds, or_none}
use Rattle.base.proofs.Stored.{refused, if_done, if_refused}
use Rattle.base.proofs.Sizes.{rows_frames}
use Rattle.base.proofs.Counting.{count_runs}
use Rattle.base.proofs.Writes.{length_with}
use Rattle.base.proofs.Frames.{alike, bit_written, bit_kept, block_each, block_of}
use Rattle.bitfield_rules.specs.Calls.{Placed}
use Rattle.bitfield_rules.specs.Calls.{placed, zero_count, answered, rows_code, order_code, block_code, range_code, set, fill, toggle, is_zero, count_zeros, visited, passed, first_zeros, set_first_zeros}
use Rattle.bitfield_rules.specs.Means.{Each, Checked, NoneClear, FirstClear, Wrote, Stores, BitfieldMeans}
use Rattle.bitfield_rules.proofs.Laws.{rows_many, within, passes_within, search_found, search_missed}

checks : (h len p o : ℕ) → Checked h len p o
unfolding or_else
checks h len p o = record {
  three = λ n. rw (ne_eqb len (rows_per h) n);
  four = λ e l. rw (eq-eqb len (rows_per h) e, lt-leb o h l);
  five = λ e l u. rw (eq-eqb len (rows_per h) e, le-leb o h l, lt-leb (p + 2 ^ o) (2 ^ h) u);
  six = λ e l u n. rw (eq-eqb len (rows_per h) e, le-leb o h l, le-leb (p + 2 ^ o) (2 ^ h) u, ne_eqb (p % 2 ^ o) 0 n);
  none = passes_within;
}

-- ---- calls that store

-- what `stored` makes of a code and the rows that it would leave
stores : (rows after : List ℕ) (code : ℕ) (Done : List ℕ → Type 0) → (code ≡ 0 → Done after) → Stores rows code Done (stored code rows after)
stores rows after code Done d = record {
  exact = pick_case (λ (x : Out ℕ (List ℕ)). x.answer ≡ code) (eqb code 0) (λ z. sym (eqb-true code 0 z)) (λ _. refl);
  done = λ z. let e = if_done rows after code z in subst Done (sym e.1) (d e.0);
  kept = if_refused rows after code;
}

-- the rows with bits written, where the range ends in the huge frame
wrote : {h : ℕ} → Huge h → (b : Bool) (rows : List ℕ) (a e : ℕ) → length rows ≡ rows_per h → a ≤ e → e ≤ 2 ^ h → Wrote b rows a e (2 ^ h) (with_bits b rows a e)
wrote {h} H b rows a e long order ends =
    let n = rows_frames H in
    record {
      long = length_with b rows a e;
      inside = λ f lo hi. bit_written b rows a e order b f (omega arith) lo hi ∙ alike_self b;
      outside = λ c f low out. bit_kept b rows a e order c f (omega arith) out;
    }
  where
    alike_self : (b : Bool) → alike b b ≡ true
    alike_self true = refl
    alike_self false = refl

module _ {h : ℕ} (H : Huge h) (rows : List ℕ) where
  sets : (a e : ℕ) (b : Bool) → Stores rows (range_code h (length rows) a e) (Wrote b rows a e (2 ^ h)) (set h rows a e b)
  unfolding set
  sets a e b = stores rows (with_bits b rows a e) (range_code h (length rows) a e) (Wrote b rows a e (2 ^ h)) (λ z.
      let c = none_of (rows_code h (length rows)) (unless (leb a e && leb e (2 ^ h)) 5) z in
      let t = both (leb a e) (leb e (2 ^ h)) (holds _ 4 c.1) in
      wrote H b rows a e (rows_many h (length rows) c.0) (leb-true a e t.0) (leb-true e (2 ^ h) t.1))

  fills : (b : Bool) → Stores rows (rows_code h (length rows)) (Wrote b rows 0 (2 ^ h) (2 ^ h)) (fill h rows b)
  unfolding fill
  fills b =
      stores rows (with_bits b rows 0 (2 ^ h)) (rows_code h (length rows)) (Wrote b rows 0 (2 ^ h) (2 ^ h))
      (λ z. wrote H b rows 0 (2 ^ h) (rows_many h (length rows) z) (omega arith) (omega arith))

  module _ (p o : ℕ) where
    -- a block whose bits are not each b
    not_each : (b : Bool) → (Each b rows p (2 ^ o) → ⊥) → block_is b rows p (2 ^ o) ≡ false
    not_each b n = pick_false (block_is b rows p (2 ^ o)) (λ e. n (block_each b rows p (2 ^ o) e))
      where
        pick_false : (t : Bool) → (t ≡ true → ⊥) → t ≡ false
        pick_false true n = absurd (n refl)
        pick_false false n = refl

    turned : (b : Bool) → Each b rows p (2 ^ o) → Stores rows (block_code h (length rows) p o) (Wrote (not b) rows p (p + 2 ^ o) (2 ^ h)) (toggle h rows p o b)
    unfolding toggle
    turned b each =
        rw (block_of b rows p (2 ^ o) each, or_none (block_code h (length rows) p o))
        (stores rows (with_bits (not b) rows p (p + 2 ^ o)) (block_code h (length rows) p o) (Wrote (not b) rows p (p + 2 ^ o) (2 ^ h)) (λ z.
        let w = within h (length rows) p o z in
        wrote H (not b) rows p (p + 2 ^ o) w.rows (omega arith) w.ends))

    left : (b : Bool) → (Each b rows p (2 ^ o) → ⊥) → toggle h rows p o b ≡ out (or_else (block_code h (length rows) p o) 7) rows
    unfolding toggle
    left b n =
        rw (not_each b n)
        (sym (refused rows (with_bits (not b) rows p (p + 2 ^ o)) refl (λ z. let e = (none_of (block_code h (length rows) p o) 7 z).1 in omega arith)))

    -- ---- calls that only read
    asks : (Each false rows p (2 ^ o) → is_zero h rows p o ≡ answered (block_code h (length rows) p o) (eqb (block_code h (length rows) p o) 0))
        × ((Each false rows p (2 ^ o) → ⊥) → is_zero h rows p o ≡ answered (block_code h (length rows) p o) false)
    unfolding is_zero
    asks = (λ each. rw (block_of false rows p (2 ^ o) each) (yes (eqb c 0) refl), λ n. rw (not_each false n) (no (eqb c 0) refl))
      where
        c : ℕ
        c = block_code h (length rows) p o

        yes : (t : Bool) → eqb c 0 ≡ t → pick t (answered 0 true) (answered c false) ≡ answered c t
        yes true q = ap (λ (k : ℕ). answered k true) (sym (eqb-true c 0 q))
        yes false q = refl

        no : (t : Bool) → eqb c 0 ≡ t → pick t (answered 0 false) (answered c false) ≡ answered c false
        no true q = ap (λ (k : ℕ). answered k false) (sym (eqb-true c 0 q))
        no false q = refl

  counts : count_zeros h rows
      ≡ pick (eqb (rows_code h (length rows)) 0) (zero_count 0 (sum (λ i. count (bit_is false rows) 64 (i * 64)) (rows_per h) 0)) (zero_count (rows_code h (length rows)) 0)
  unfolding count_zeros
  counts = rw (rows_frames H, ← count_runs (bit_is false rows) 64 (rows_per h) 0, zero-mul 64)

  -- ---- searches
  module _ (start o : ℕ) where
    refuses : (order_code h (length rows) o ≡ 0 → ⊥) → first_zeros h rows start o ≡ placed (order_code h (length rows) o) 0
    unfolding first_zeros
    refuses n = rw (ne_eqb (order_code h (length rows) o) 0 n)

    -- a search that is not refused answers by whether a place is left
    unrefused : order_code h (length rows) o ≡ 0
        → first_zeros h rows start o ≡ pick (ltb (passed h rows start o) (2 ^ (h - o))) (placed 0 (visited h start o (passed h rows start o))) (placed 7 0)
    unfolding first_zeros
    unrefused z = rw (eq-eqb (order_code h (length rows) o) 0 z)

    searches : order_code h (length rows) o ≡ 0
        → ((first_zeros h rows start o ≡ placed 7 0) × NoneClear h rows o) ⊎ (((first_zeros h rows start o).code ≡ 0) × FirstClear h rows start o (first_zeros h rows start o).place)
    searches z =
        rw (unrefused z) (pick_case Says (ltb (passed h rows start o) (2 ^ (h - o))) (λ _ e. inr (refl, search_found H rows start o _ _ e refl)) (λ _ e. inl (refl, search_missed H rows start o _ _ e refl)) (unrefused z))
      where
        Says : Placed → Type 0
        Says a = first_zeros h rows start o ≡ a → ((a ≡ placed 7 0) × NoneClear h rows o) ⊎ ((a.code ≡ 0) × FirstClear h rows start o a.place)

    takes : ((set_first_zeros h rows start o).answer ≡ first_zeros h rows start o)
        × Stores rows (first_zeros h rows start o).code (Wrote true rows (first_zeros h rows start o).place ((first_zeros h rows start o).place + 2 ^ o) (2 ^ h))
        (out (set_first_zeros h rows start o).answer.code (set_first_zeros h rows start o).left)
    unfolding set_first_zeros
    takes = pick_case Taken (eqb a.code 0)
        (λ t.
        let z = eqb-true a.code 0 t in
        let w = (search_found H rows start o a.code a.place refl z).block in (
          refl,
          record {
            exact = refl;
            done = λ _. wrote H true rows a.place (a.place + 2 ^ o) w.rows (omega arith) w.ends;
            kept = λ n. absurd (n z);
          },
        ))
        (λ t. (refl, record { exact = refl; done = λ z. absurd (eqb-false a.code 0 t z); kept = λ _. refl }))
      where
        a : Placed
        a = first_zeros h rows start o

        Taken : Out Placed (List ℕ) → Type 0
        Taken made =
            (made.answer ≡ a) × Stores rows a.code (Wrote true rows a.place (a.place + 2 ^ o) (2 ^ h)) (out made.answer.code made.left)

pub bitfield_means : BitfieldMeans
bitfield_means h rows H = record {
  checks = checks h (length rows);
  sets = sets H rows;
  fills = fills H rows;
  toggles = λ p o b. (turned H rows p o b, left H rows p o b);
  asks = asks H rows;
  counts = counts H rows;
  searches = searches H rows;
  refuses = refuses H rows;
  takes = takes H rows;
}
