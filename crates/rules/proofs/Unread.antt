-- Nothing beyond the needed rows and entries is read: two memories that are the same there give equal answers, and stay the same. Assumes nothing.
use mathlib.Core.Path.{◌≡◌, refl, sym, ap, ap₂, ◌∙◌}
use mathlib.Core.Bool.{Bool, true, false, not}
use mathlib.Core.List.{List, [], ◌∷◌}
use Prim.Native.Nat.{ℕ, ◌+◌, ◌*◌, ◌/◌, ◌^◌, ◌≤◌, ◌<◌}
use native.Mathlib.Decide.{dec_lt, ℕ_discrete}
use native.Mathlib.Nat.{mul_comm, mul-le-mul_right, div-lt_iff_lt-mul}
use native.Mathlib.Omega.{arith}
use lib.Dec.{eqb, ltb}
use lib.ListN.{get_or, replicate}
use lib.Pow.{pow_pos}
use borrow.Author.Tests.{ltb-true}
use Rattle.base.specs.Walk.{all, count, written}
use Rattle.base.specs.Code.{or_else, stored}
use Rattle.base.specs.Size.{Huge, rows_per}
use Rattle.base.specs.Bits.{with_bits}
use Rattle.base.proofs.Sums.{sum_same}
use Rattle.base.proofs.Walks.{pick_both, all_same, count_same, first_same}
use Rattle.base.proofs.Written.{written_alike}
use Rattle.base.proofs.Writes.{length_with, with_alike}
use Rattle.rules.specs.Numbers.{ceil, tree_of, rows_needed, trees_needed, entries_needed}
use Rattle.rules.specs.Refusals.{Sized, sizes_refusal}
use Rattle.rules.specs.State.{Mem, mem, entry_of, free_of, lengths_of}
use Rattle.rules.specs.Queries.{statistics, free_in, stats_all, stats}
use Rattle.rules.specs.Audit.{fault, reason, faultless, audit_all, audit}
use Rattle.rules.specs.Recover.{recovered, blocks_recovery, recoverable, entry_after, row_after, mended, differing, recover_all, recover}
use Rattle.rules.specs.Starts as starts
use Rattle.rules.specs.Starts.{rows_from, free_entry, held_entry, free_all, reserve_all}
use Rattle.rules.specs.Numbered.{Fault}
use Rattle.rules.specs.Numbered.{Recovered}
use Rattle.rules.specs.Call.{AllCall, Call, stats_numbers, called, left}
use Rattle.rules.specs.Keeps.{number_of, tested, own, fields}
use Rattle.rules.specs.OneTree.{Agree, On}
use Rattle.rules.specs.Same.{Same, SameOut, BeyondUnread}
use Rattle.rules.proofs.Numbers.{tree_pos}
use Rattle.rules.proofs.Present.{present_entry, row_present, low_present}
use Rattle.rules.proofs.Needed.{tree_covers, tree_needed}
use Rattle.rules.proofs.Lent.{sized, sized_passes, blocked, started, framed}
use Rattle.rules.proofs.Refusals.{sizes_then, block_tested, start_tested, frame_tested, call_bare, call_refused}
use Rattle.rules.proofs.Mended.{entries_beyond, mended_entry, mended_row}
use Rattle.rules.proofs.Differs.{entries_differ_lem, bitfields_differ_lem}
use Rattle.rules.proofs.OtherTrees.{other_trees}
use Rattle.rules.proofs.TreeParts.{Agreeing, clear_alike}
use Rattle.rules.proofs.TreeWhys.{reason_alike}
use Rattle.rules.proofs.OneTree.{tree_alone}

module _ {h n t : ℕ} {a b : Mem} (H : Huge h) (sa : Sized h n t (lengths_of a)) (sb : Sized h n t (lengths_of b)) (s : Same h n t a b) where
  some : 0 < t
  some = tree_pos t sa.tree

  -- they agree on each needed tree
  agreeing : (y : ℕ) → y < trees_needed h n t → Agreeing h n t y a b
  agreeing y l = record {
    huge = H;
    sized = sa;
    other = sb;
    agree = record { rows = λ i u _. s.rows i u; entries = λ x e. s.entries x (rw (mul_comm t) ((div-lt_iff_lt-mul some).0 (omega (arith, e)))) };
  }

  -- and so on that of a needed entry
  around : (x : ℕ) → x < entries_needed h n t → Agreeing h n t (x / t) a b
  around x u = agreeing (x / t) ((div-lt_iff_lt-mul some).1 (rw (mul_comm t) at u))

  -- ---- a call on one tree

  -- that is refused by 1 to 6
  tested_same : (bs : List Bool) → tested h n t a bs ≡ tested h n t b bs
  tested_same bs =
      sym (sizes_then h n t a bs refl) ∙ ap (λ (c : ℕ). or_else c (number_of 4 bs)) (sized_passes sa ∙ sym (sized_passes sb)) ∙ sizes_then h n t b bs refl

  refused_same : (c : Call) → (tested h n t a (own h n t c) ≡ 0 → ⊥) → SameOut h n t (called h n t a c) (called h n t b c)
  refused_same c q =
      let e = tested_same (own h n t c) in
      let p = call_bare h n t a c q in
      let r = call_bare h n t b c (λ z. q (e ∙ z)) in
      let kept = call_refused h n t a c (λ z. q (sym (ap (λ (l : List ℕ). get_or l 0 0) p) ∙ z)) in
      let other = call_refused h n t b c (λ z. q (e ∙ sym (ap (λ (l : List ℕ). get_or l 0 0) r) ∙ z)) in
      (p ∙ ap (λ (k : ℕ). k ∷ replicate (fields h c) 0) e ∙ sym r, rw (kept, other) s)

  -- or passes them, so that its tree is a needed one
  passed_same : (c : Call) (y : ℕ) → On h t y c → y < trees_needed h n t → SameOut h n t (called h n t a c) (called h n t b c)
  passed_same c y on l =
      let k = tree_alone h n t y a b c H (sized_passes sa) (sized_passes sb) on (agreeing y l).agree in
      let others : (m : Mem) (z : ℕ) → (z ≡ y → ⊥) → Agree h n t z (left h n t m c) m = λ m. other_trees h n t y m c H on in (
        k.0,
        record {
          rows = λ i u. elim (ℕ_discrete (i / (rows_per h * t)) y) [
            | yes e ↦ k.1.0.rows i u e
            | no q ↦ (others a _ q).rows i u refl ∙ s.rows i u ∙ sym ((others b _ q).rows i u refl)
          ];
          entries = λ x u. elim (ℕ_discrete (x / t) y) [
            | yes e ↦ k.1.0.entries x e
            | no q ↦ (others a _ q).entries x refl ∙ s.entries x u ∙ sym ((others b _ q).entries x refl)
          ];
        },
      )

  on_tree : (c : Call) (y : ℕ) → On h t y c → (tested h n t a (own h n t c) ≡ 0 → y < trees_needed h n t) → SameOut h n t (called h n t a c) (called h n t b c)
  on_tree c y on low = elim (ℕ_discrete (tested h n t a (own h n t c)) 0) [ yes z ↦ passed_same c y on (low z) | no q ↦ refused_same c q ]

  -- ---- a huge frame that is present

  module _ (x : ℕ) (l : x * 2 ^ h < n) where
    entry_same : entry_of a.entries x ≡ entry_of b.entries x
    entry_same = s.entries x (present_entry h n t x some l)

    after_same : entry_after h a x ≡ entry_after h b x
    after_same = rw (entry_same, clear_alike (around x (present_entry h n t x some l)) x refl l)

  -- ---- the calls that read everything

  free_same : (k at : ℕ) → at + k ≤ entries_needed h n t → free_in a.entries k at ≡ free_in b.entries k at
  free_same k at l = sum_same _ _ k at (λ x _ u. ap free_of (s.entries x (omega arith)))

  stats_same : stats h n t a ≡ stats h n t b
  unfolding stats stats_all
  stats_same =
      rw (sized_passes sa, sized_passes sb, free_same (entries_needed h n t) 0 (omega arith))
      (ap₂ (statistics 0 (free_in b.entries (entries_needed h n t) 0))
      (count_same _ _ (entries_needed h n t) 0 (λ x _ u. ap (λ (e : ℕ). eqb e (2 ^ h)) (s.entries x (omega arith))))
      (count_same _ _ (trees_needed h n t) 0 (λ y _ u. ap (λ (k : ℕ). eqb k (2 ^ h * t)) (free_same t (y * t) (tree_needed h n t y (omega arith))))))

  reason_same : (x : ℕ) → x < entries_needed h n t → reason h n a x ≡ reason h n b x
  reason_same x u = reason_alike (around x u) x refl

  faultless_same : faultless h n t a ≡ faultless h n t b
  unfolding faultless
  faultless_same = first_same _ _ (entries_needed h n t) 0 (λ x _ u. ap (λ (r : ℕ). not (eqb r 0)) (reason_same x (omega arith)))

  audit_same : audit h n t a ≡ audit h n t b
  unfolding audit audit_all
  audit_same =
      let x = faultless h n t b in
      rw (sized_passes sa, sized_passes sb, faultless_same)
      (pick_both ◌≡◌ (ltb x (entries_needed h n t)) (λ l. ap (fault 0 x) (reason_same x (ltb-true x (entries_needed h n t) l))) (λ _. refl))

  recoverable_same : recoverable h n t a ≡ recoverable h n t b
  unfolding recoverable
  recoverable_same = all_same _ _ (entries_needed h n t) 0 (λ x _ u. ap (λ (r : ℕ). not (blocks_recovery r)) (reason_same x (omega arith)))

  row_after_same : (i : ℕ) → i < rows_needed h n → row_after h a i ≡ row_after h b i
  row_after_same i l = rw (entry_same (i / rows_per h) (row_present h n i l), s.rows i l)

  mended_same : Same h n t (mended h n a) (mended h n b)
  mended_same = record {
    rows = λ i l. mended_row a sa i l ∙ row_after_same i l ∙ sym (mended_row b sb i l);
    entries = λ x u. elim (dec_lt (x * 2 ^ h) n) [
      | yes l ↦ mended_entry a sa x l ∙ after_same x l ∙ sym (mended_entry b sb x l)
      | no l ↦ entries_beyond h n a x (omega arith) ∙ s.entries x u ∙ sym (entries_beyond h n b x (omega arith))
    ];
  }

  -- the present huge frames have needed entries and rows
  present_few : ceil n (2 ^ h) ≤ entries_needed h n t
  present_few = elim (dec_lt (entries_needed h n t) (ceil n (2 ^ h))) [
    | yes l ↦ absurd (omega (arith, present_entry h n t (entries_needed h n t) some (low_present h n (entries_needed h n t) l)))
    | no l ↦ omega arith
  ]

  row_needed : (x i : ℕ) → x < ceil n (2 ^ h) → i < x * rows_per h + rows_per h → i < rows_needed h n
  row_needed x i l u = let ends : (x + 1) * rows_per h ≤ ceil n (2 ^ h) * rows_per h = mul-le-mul_right (rows_per h) (omega arith) in omega (arith, mul_comm (rows_per h) (ceil n (2 ^ h)))

  -- how many entries and bitfields recover changes
  changed : (m : Mem) → Sized h n t (lengths_of m) → differing h m (mended h n m)
      ≡ recovered 0 (count (λ x. not (eqb (entry_of m.entries x) (entry_after h m x))) (ceil n (2 ^ h)) 0)
      (count (λ x. not (all (λ i. eqb (get_or m.rows i 0) (row_after h m i)) (rows_per h) (x * rows_per h))) (ceil n (2 ^ h)) 0)
  unfolding mended
  changed m k =
      ap₂ (recovered 0) (entries_differ_lem (entry_after h m) m.entries (ceil n (2 ^ h)) (omega (arith, k.entries, present_few)))
      (rw (mul_comm (rows_per h) (ceil n (2 ^ h))) (bitfields_differ_lem h (row_after h m) m.rows (ceil n (2 ^ h)) (rw (mul_comm (rows_per h)) at k.rows)))

  changed_same : differing h a (mended h n a) ≡ differing h b (mended h n b)
  changed_same =
      changed a sa
      ∙ ap₂ (recovered 0)
      (count_same _ _ (ceil n (2 ^ h)) 0 (λ x _ u. let l = low_present h n x (omega arith) in ap₂ (λ (e v : ℕ). not (eqb e v)) (entry_same x l) (after_same x l)))
      (count_same _ _ (ceil n (2 ^ h)) 0 (λ x _ u. ap not (all_same _ _ (rows_per h) (x * rows_per h) (λ i _ v.
      let l : i < rows_needed h n = row_needed x i (omega arith) v in ap₂ eqb (s.rows i l) (row_after_same i l)))))
      ∙ sym (changed b sb)

  recover_same : SameOut h n t (recover h n t a) (recover h n t b)
  unfolding recover recover_all
  recover_same =
      rw (sized_passes sa, sized_passes sb, recoverable_same)
      (pick_both (SameOut h n t) (recoverable h n t b) (λ _. (changed_same, mended_same)) (λ _. (refl, s)))

  -- ---- the starts

  started_same : (c : ℕ) (f : ℕ → ℕ)
      → Same h n t (mem (rows_from h n a.rows c) (written f a.entries 0 (entries_needed h n t))) (mem (rows_from h n b.rows c) (written f b.entries 0 (entries_needed h n t)))
  started_same c f = record {
    rows = λ i l.
        with_alike true (with_bits false a.rows 0 c) (with_bits false b.rows 0 c) c (rows_needed h n * 64) i
        (rw (length_with false a.rows 0 c) (omega (arith, sa.rows))) (rw (length_with false b.rows 0 c) (omega (arith, sb.rows)))
        (with_alike false a.rows b.rows 0 c i (omega (arith, sa.rows)) (omega (arith, sb.rows)) (s.rows i l));
    entries = λ x l. written_alike f a.entries b.entries 0 (entries_needed h n t) x (omega (arith, sa.entries)) (omega (arith, sb.entries)) (s.entries x l);
  }

  stored_same : {p q : Mem} → Same h n t p q → SameOut h n t (stored (sizes_refusal h n t a) a p) (stored (sizes_refusal h n t b) b q)
  stored_same k = rw (sized_passes sa, sized_passes sb) (refl, k)

  starts_same : SameOut h n t (free_all h n t a) (free_all h n t b) × SameOut h n t (reserve_all h n t a) (reserve_all h n t b)
  unfolding free_all starts.all_free reserve_all starts.all_held
  starts_same = (stored_same (started_same n (free_entry h n)), stored_same (started_same (n / 2 ^ h * 2 ^ h) (held_entry h n)))

  -- ---- all calls

  called_all : (c : AllCall) → SameOut h n t (called h n t a (Call.OnAll c)) (called h n t b (Call.OnAll c))
  unfolding called
  called_all AllCall.Stats = (ap stats_numbers stats_same, s)
  called_all AllCall.Audit = (ap (λ (r : Fault). r.code ∷ r.huge ∷ r.reason ∷ []) audit_same, s)
  called_all AllCall.Recover = (ap (λ (r : Recovered). r.code ∷ r.entries ∷ r.bitfields ∷ []) recover_same.0, recover_same.1)

  called_same : (c : Call) → SameOut h n t (called h n t a c) (called h n t b c)
  unfolding On own
  called_same (Call.OnRow c row o) =
      on_tree (Call.OnRow c row o) (tree_of h t (row * 64)) refl (λ z. tree_covers h n t (row * 64) some (started h n t _ row o (start_tested h n t a row o ∙ z)).begins)
  called_same (Call.OnBlock c f o) =
      on_tree (Call.OnBlock c f o) (tree_of h t f) refl
      (λ z. tree_covers h n t f some (omega (arith, (blocked h n t _ f o (block_tested h n t a f o ∙ z)).ends, pow_pos o)))
  called_same (Call.OnFrame c f) = on_tree (Call.OnFrame c f) (tree_of h t f) refl (λ z. tree_covers h n t f some (framed h n t _ f (frame_tested h n t a f ∙ z)).below)
  called_same (Call.OnAll c) = called_all c

pub needed_alone : BeyondUnread
needed_alone h n t a b H za zb s =
    let sa = sized h n t _ za in
    let sb = sized h n t _ zb in
    (called_same H sa sb s, starts_same H sa sb s)
