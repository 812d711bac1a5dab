-- Recover makes a state consistent with every frame free or held as it was, and leaves a consistent state as it is. Assumes nothing.
use mathlib.Core.Path.{◌≡◌, refl, sym, ap, ap₂, ◌∙◌}
use mathlib.Core.Bool.{Bool, true, false, not, true≢false}
use mathlib.Core.List.{List}
use mathlib.Core.Logic.{inl, inr, ⊎_elim}
use Prim.Native.Nat.{ℕ, ◌+◌, ◌-◌, ◌*◌, ◌/◌, ◌^◌, ◌≤◌, ◌<◌}
use native.Mathlib.Decide.{dec_lt, ℕ_discrete}
use native.Mathlib.Nat.{div-add-mod'}
use native.Mathlib.Omega.{arith}
use lib.Dec.{eqb}
use lib.ListN.{length, get_or}
use borrow.Author.Tests.{eq-eqb, ne_eqb, eqb-true, leb-true}
use Rattle.base.specs.Walk.{pick}
use Rattle.base.specs.Bits.{bit_is, block_is}
use Rattle.base.specs.Code.{Out, out, unless}
use Rattle.base.specs.Size.{Huge, rows_per}
use Rattle.base.proofs.Sizes.{frames_fit}
use Rattle.base.proofs.Walks.{all_each, all_of, count_le, count_same, count_none, pick_case}
use Rattle.base.proofs.Written.{written_stays}
use Rattle.base.proofs.Frames.{block_each, clear_row}
use Rattle.base.proofs.Codes.{done}
use Rattle.rules.specs.Numbers.{mark, huge_of, whole, ceil, rows_needed, entries_needed}
use Rattle.rules.specs.Refusals.{Sized, sizes_refusal}
use Rattle.rules.specs.State.{Mem, mem, entry_of, clear_of, lengths_of}
use Rattle.rules.proofs.Numbers.{tree_pos}
use Rattle.rules.proofs.Lent.{sized, sized_passes}
use Rattle.rules.proofs.Present.{present_entry, low_present, row_present, row_within, huge_is}
use Rattle.rules.specs.Audit.{reason}
use Rattle.rules.proofs.Reasons.{reason_absent, reason_marked, reason_counted}
use Rattle.rules.specs.Numbered.{Recovered}
use Rattle.rules.specs.Recover.{recovered, blocks_recovery, recoverable, entry_after, row_after, mended, entries_differ, bitfields_differ, differing, recover_all, recover}
use Rattle.rules.proofs.Mended.{rows_beyond, entries_beyond, mended_sized, mended_mark, mended_count, mended_row, mended_clear, mended_same}
use Rattle.rules.specs.Consistent.{Fits, ByMark, ByCount, Consistent, free}
use Rattle.rules.proofs.Frees.{no_mark, held_mark, held_past, entry_told}
use Rattle.rules.proofs.Audits.{consistent_reasonless}

-- ---- what does not hinder

-- a code that is not given shows its test
passed : (b : Bool) (x c : ℕ) {r : ℕ} → r ≡ pick b x c → (r ≡ c → ⊥) → b ≡ true
passed true x c e q = refl
passed false x c e q = absurd (q e)

module _ (h n : ℕ) (m : Mem) (x : ℕ) (easy : not (blocks_recovery (reason h n m x)) ≡ true) where
  other : (r : ℕ) → blocks_recovery r ≡ true → reason h n m x ≡ r → ⊥
  other r e q = true≢false (sym easy ∙ ap (λ (k : ℕ). not (blocks_recovery k)) q ∙ ap not e)

  -- a marked huge frame is whole
  easy_whole : x * 2 ^ h < n → entry_of m.entries x ≡ mark → (x + 1) * 2 ^ h ≤ n
  easy_whole l k = leb-true ((x + 1) * 2 ^ h) n (passed (whole h n x) (unless (block_is false m.rows (x * 2 ^ h) (2 ^ h)) 2) 1 (reason_marked h n m x l k) (other 1 refl))

  -- in any other present one all bits past N are set
  easy_past : x * 2 ^ h < n → (entry_of m.entries x ≡ mark → ⊥) → (f : ℕ) → n ≤ f → f < (x + 1) * 2 ^ h → bit_is true m.rows f ≡ true
  easy_past l k f a b =
      let rest = (x + 1) * 2 ^ h - n in
      let right = unless (eqb (entry_of m.entries x) (clear_of h m.rows x)) 4 in
      block_each true m.rows n rest (passed (block_is true m.rows n rest) right 3 (reason_counted h n m x l k) (other 3 refl)) f a (omega arith)

  -- and an absent entry is 0
  easy_absent : n ≤ x * 2 ^ h → entry_of m.entries x ≡ 0
  easy_absent l = eqb-true (entry_of m.entries x) 0 (passed (eqb (entry_of m.entries x) 0) 0 5 (reason_absent h n m x l) (other 5 refl))

-- ---- a state that is mended

module _ {h n t : ℕ} {m : Mem} (H : Huge h) (fits : Fits m) (s : Sized h n t (lengths_of m)) (r : recoverable h n t m ≡ true) where
  easy : (x : ℕ) → x < entries_needed h n t → not (blocks_recovery (reason h n m x)) ≡ true
  unfolding recoverable
  easy x l = all_each (λ x. not (blocks_recovery (reason h n m x))) (entries_needed h n t) 0 r x (omega arith) (omega arith)

  easy_here : (x : ℕ) → x * 2 ^ h < n → not (blocks_recovery (reason h n m x)) ≡ true
  easy_here x l = easy x (present_entry h n t x (tree_pos t s.tree) l)

  module _ (x : ℕ) (l : x * 2 ^ h < n) where
    mended_marked : entry_of m.entries x ≡ mark → ByMark h n (mended h n m) x
    mended_marked k =
        let ends = easy_whole h n m x (easy_here x l) l k in
        record {
          marked = mended_mark m s x l k;
          below = omega arith;
          clear = λ f a b. mended_clear m s H f (ap (entry_of m.entries) (huge_is h x f (omega arith) (omega arith)) ∙ k) (omega arith);
        }

    mended_counted : (entry_of m.entries x ≡ mark → ⊥) → ByCount h n (mended h n m) x
    mended_counted k =
        let count = mended_count m s x l k in
        let same : (b : Bool) (f : ℕ) → x * 2 ^ h ≤ f → f < (x + 1) * 2 ^ h → bit_is b (mended h n m).rows f ≡ bit_is b m.rows f =
        λ b f a u. mended_same m s H f (λ q. k (sym (ap (entry_of m.entries) (huge_is h x f a u)) ∙ q)) b in
        record {
          most = omega (arith, count_le (bit_is false m.rows) (2 ^ h) (x * 2 ^ h));
          counts = count ∙ count_same (bit_is false m.rows) (bit_is false (mended h n m).rows) (2 ^ h) (x * 2 ^ h) (λ f a u. sym (same false f a (omega arith)));
          past = λ f a u. same true f (omega arith) (omega arith) ∙ easy_past h n m x (easy_here x l) l k f (omega arith) (omega arith);
        }

  mended_fits : Fits (mended h n m)
  mended_fits = record {
    rows = λ i. elim (dec_lt i (rows_needed h n)) [
      | yes l ↦ rw (mended_row m s i l) (pick_case (λ v. v < 2 ^ 64) (eqb (entry_of m.entries (i / rows_per h)) mark) (λ _. omega arith) (λ _. fits.rows i))
      | no l ↦ rw (rows_beyond h n m i (omega arith)) (fits.rows i)
    ];
    entries = λ x. elim (dec_lt (x * 2 ^ h) n) [
      | yes l ↦ elim (ℕ_discrete (entry_of m.entries x) mark) [
        | yes k ↦ omega (arith, mended_mark m s x l k, fits.entries x)
        | no k ↦ omega (arith, mended_count m s x l k, count_le (bit_is false m.rows) (2 ^ h) (x * 2 ^ h), frames_fit H)
      ]
      | no l ↦ rw (entries_beyond h n m x (omega arith)) (fits.entries x)
    ];
  }

  mended_consistent : Consistent h n t (mended h n m)
  mended_consistent y = record {
    sized = mended_sized m s;
    fits = mended_fits;
    present = λ x _ l. elim (ℕ_discrete (entry_of m.entries x) mark) [ yes k ↦ inl (mended_marked x l k) | no k ↦ inr (mended_counted x l k) ];
    absent = λ x _ l u. entries_beyond h n m x (omega arith) ∙ easy_absent h n m x (easy x u) (omega arith);
  }

  mended_free : (f : ℕ) → free h n (mended h n m) f ≡ free h n m f
  mended_free f = elim (dec_lt f n) [
    | yes l ↦
        let x = huge_of h f in
        let here : x * 2 ^ h < n = omega (arith, div-add-mod' f (2 ^ h)) in
        elim (ℕ_discrete (entry_of m.entries x) mark) [
          | yes k ↦ held_mark h n (mended h n m) f (mended_mark m s x here k) ∙ sym (held_mark h n m f k)
          | no k ↦ rw (mended_same m s H f k false, ne_eqb (entry_of m.entries x) mark k, ne_eqb _ mark (no_mark H (mended_counted x here k)))
        ]
    | no l ↦ held_past h n (mended h n m) f (omega arith) ∙ sym (held_past h n m f (omega arith))
  ]

-- what recover leaves if it is done
recovered_mended : (h n t : ℕ) (m : Mem) → (recover_all h n t m).answer.code ≡ 0 → (recoverable h n t m ≡ true) × ((recover_all h n t m).left ≡ mended h n m)
unfolding recover_all
recovered_mended h n t m e = go (recoverable h n t m) refl e
  where
    go : (b : Bool) → recoverable h n t m ≡ b → (pick b (out (differing h m (mended h n m)) (mended h n m)) (out (recovered 8 0 0) m)).answer.code ≡ 0
        → (recoverable h n t m ≡ true) × ((pick b (out (differing h m (mended h n m)) (mended h n m)) (out (recovered 8 0 0) m)).left ≡ mended h n m)
    go true q e = (q, refl)
    go false q e = absurd (omega arith)

pub recover_makes_consistent : (h n t : ℕ) (m : Mem) → Huge h → Fits m → (recover h n t m).answer.code ≡ 0
    → Consistent h n t (recover h n t m).left × ((f : ℕ) → free h n (recover h n t m).left f ≡ free h n m f)
unfolding recover
recover_makes_consistent h n t m H fits e =
    let d = done (recover_all h n t m) (out (recovered (sizes_refusal h n t m) 0 0) m) (λ o. o.answer.code) refl e in
    let s = sized h n t (lengths_of m) d.0 in
    let r = recovered_mended h n t m (ap (λ (o : Out Recovered Mem). o.answer.code) (sym d.1) ∙ e) in
    rw (d.1, r.1) (mended_consistent H fits s r.0, mended_free H fits s r.0)

-- ---- a state that is consistent

-- nothing differs from itself
no_entries_differ : (es : List ℕ) → entries_differ es es ≡ 0
unfolding entries_differ
no_entries_differ es = count_none _ (length es) 0 (λ x _ _. ap not (eq-eqb (entry_of es x) (entry_of es x) refl))

no_bitfields_differ : (h : ℕ) (rs : List ℕ) → bitfields_differ h rs rs ≡ 0
unfolding bitfields_differ
no_bitfields_differ h rs =
    count_none _ (length rs / rows_per h) 0
    (λ x _ _. ap not (all_of (λ i. eqb (get_or rs i 0) (get_or rs i 0)) (rows_per h) (x * rows_per h) (λ i _ _. eq-eqb (get_or rs i 0) (get_or rs i 0) refl)))

module _ {h n t : ℕ} {m : Mem} (H : Huge h) (c : Consistent h n t m) where
  consistent_recoverable : recoverable h n t m ≡ true
  unfolding recoverable
  consistent_recoverable =
      all_of _ (entries_needed h n t) 0 (λ x _ l. ap (λ (r : ℕ). not (blocks_recovery r)) (consistent_reasonless H (c (x / t)) x refl (omega arith)))

  row_stays : (i : ℕ) → i / rows_per h * 2 ^ h < n → row_after h m i ≡ get_or m.rows i 0
  row_stays i l =
      let x = i / rows_per h in
      ⊎_elim
      (λ k. rw (eq-eqb _ _ k.marked)
      (sym (clear_row m.rows (c 0).fits.rows i (λ f a b. let own = row_within H i f a b in k.clear f own.0 own.1))))
      (λ (k : ByCount h n m x). rw (ne_eqb _ _ (no_mark H k)))
      ((c (x / t)).present x refl l)

  mended_is : mended h n m ≡ m
  unfolding mended
  mended_is =
      ap₂ mem
      (written_stays (row_after h m) m.rows 0 (rows_needed h n) (λ i _ l. row_stays i (row_present h n i (omega arith))))
      (written_stays (entry_after h m) m.entries 0 (ceil n (2 ^ h)) (λ x _ l. sym (entry_told H (c (x / t)) x refl (low_present h n x (omega arith)))))

  none_differ : differing h m (mended h n m) ≡ recovered 0 0 0
  none_differ = ap (differing h m) mended_is ∙ ap₂ (recovered 0) (no_entries_differ m.entries) (no_bitfields_differ h m.rows)

pub recover_keeps_consistent : (h n t : ℕ) (m : Mem) → Huge h → Consistent h n t m → recover h n t m ≡ out (recovered 0 0 0) m
unfolding recover recover_all
recover_keeps_consistent h n t m H c = rw (sized_passes (c 0).sized, consistent_recoverable H c) (ap₂ out (none_differ H c) (mended_is H c))
