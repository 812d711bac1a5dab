-- What a call leaves, on any memory: the memory as it was, or that with one block, group of entries or all of it rewritten. Assumes nothing.
use mathlib.Core.Path.{◌≡◌, refl}
use mathlib.Core.Bool.{Bool, true, false, ◌&&◌}
use mathlib.Core.List.{List, [], ◌∷◌}
use Prim.Native.Nat.{ℕ, ◌+◌, ◌-◌, ◌*◌, ◌/◌, ◌^◌, ◌≤◌, ◌<◌}
use lib.Dec.{eqb, leb, ltb}
use native.Mathlib.Omega.{arith}
use lib.Pow.{pow_mono}
use borrow.Author.Tests.{eqb-true, eqb-false, leb-true, ltb-true, ltb-false}
use Rattle.base.specs.Walk.{written}
use Rattle.base.specs.Code.{Out}
use Rattle.base.specs.Size.{rows_per}
use Rattle.base.specs.Bits.{block_is, with_bits}
use Rattle.base.proofs.Tests.{both}
use Rattle.base.proofs.Walks.{pick_case}
use Rattle.rules.specs.Numbered.{Got}
use Rattle.rules.specs.Numbers.{mark, huge_of, group_of}
use Rattle.rules.specs.State.{Mem, on_entries, entry_of, free_of, entries_are, with_rows, with_entries, with_entry}
use Rattle.rules.specs.Refusals.{sizes_refusal, block_refusal, start_refusal}
use Rattle.rules.specs.Get.{group_at, groups_passed, take_group, get_huge, get_huge_at, taken, visit, entry_at, visits_passed, ended, get_small, get_small_at, get, get_at}
use Rattle.rules.specs.Put.{put_huge, put_marked, put_counted, put_small, put}
use Rattle.rules.specs.Numbered.{Visit}
use Rattle.rules.specs.Numbered.{Pass, Damage, Place}
use Rattle.rules.specs.Numbered.{Recovered}
use Rattle.rules.specs.Recover.{recoverable, mended, recover_all, recover}
use Rattle.rules.specs.Call.{RowCall, BlockCall, FrameCall, AllCall, Call, got_numbers, called, left}
use Rattle.rules.specs.Marks.{remarked}

-- a call, the numbers that it answers and the memory that it leaves
pub data Leaves (h n t : ℕ) (m : Mem) : Call → List ℕ → Mem → Type 0 where
  refused : {c : Call} {k : ℕ} {ks : List ℕ} → (k ≡ 0 → ⊥) → Leaves h n t m c (k ∷ ks) m
  asked : {c : Call} {ks : List ℕ} → ((x : ℕ) (was : Bool) → remarked h c ks x was ≡ was) → Leaves h n t m c ks m
  got_block : (row o j f p : ℕ) → start_refusal h n t m row o ≡ 0 → o < h → visit h n m row o (entry_at t (row / rows_per h) j) ≡ Place f
      → Leaves h n t m (Call.OnRow RowCall.Get row o) (0 ∷ f ∷ p ∷ []) (taken h m f o)
  got_group : (row o j p : ℕ) → start_refusal h n t m row o ≡ 0 → h ≤ o → (group_at t (group_of h o) (row / rows_per h) j + group_of h o) * 2 ^ h ≤ n
      → Leaves h n t m (Call.OnRow RowCall.Get row o) (0 ∷ group_at t (group_of h o) (row / rows_per h) j * 2 ^ h ∷ p ∷ [])
      (with_entries m (written (λ i. mark) m.entries (group_at t (group_of h o) (row / rows_per h) j) (group_of h o)))
  took_block : (f o : ℕ) → block_refusal h n t m f o ≡ 0 → o < h → 2 ^ o ≤ free_of (entry_of m.entries (huge_of h f))
      → Leaves h n t m (Call.OnBlock BlockCall.GetAt f o) (0 ∷ f ∷ 1 ∷ []) (taken h m f o)
  took_group : (f o : ℕ) → block_refusal h n t m f o ≡ 0 → h ≤ o
      → Leaves h n t m (Call.OnBlock BlockCall.GetAt f o) (0 ∷ f ∷ 1 ∷ []) (with_entries m (written (λ i. mark) m.entries (f / 2 ^ h) (group_of h o)))
  gave_block : (f o v : ℕ) → block_refusal h n t m f o ≡ 0 → o < h → v ≤ 2 ^ h
      → Leaves h n t m (Call.OnBlock BlockCall.Put f o) (0 ∷ []) (with_entry (with_rows m (with_bits false m.rows f (f + 2 ^ o))) (huge_of h f) v)
  gave_part : (f o v : ℕ) → block_refusal h n t m f o ≡ 0 → o < h → v ≤ 2 ^ h
      → Leaves h n t m (Call.OnBlock BlockCall.Put f o) (0 ∷ [])
      (with_entry (with_rows m (with_bits false (with_bits true m.rows (huge_of h f * 2 ^ h) (huge_of h f * 2 ^ h + 2 ^ h)) f (f + 2 ^ o))) (huge_of h f) v)
  gave_group : (f o : ℕ) → block_refusal h n t m f o ≡ 0 → h ≤ o
      → Leaves h n t m (Call.OnBlock BlockCall.Put f o) (0 ∷ []) (with_entries m (written (λ i. 2 ^ h) m.entries (f / 2 ^ h) (group_of h o)))
  recovered : {ks : List ℕ} → sizes_refusal h n t m ≡ 0 → Leaves h n t m (Call.OnAll AllCall.Recover) (0 ∷ ks) (mended h n m)

-- 7 and 8 are refusals
seven : ◌≡◌ {A = ℕ} 7 0 → ⊥
seven q = omega arith

eight : ◌≡◌ {A = ℕ} 8 0 → ⊥
eight q = omega arith

module _ (h n t : ℕ) (m : Mem) where
  -- what a call leaves that answers a Got, or a code alone; where it touches entries alone
  abbrev LeavesGot : Call → Out Got Mem → Type 0
  LeavesGot c x = Leaves h n t m c (got_numbers x.answer) x.left

  abbrev LeavesCode : Call → Out ℕ Mem → Type 0
  LeavesCode c x = Leaves h n t m c (x.answer ∷ []) x.left

  abbrev EntriesGot : Call → Out Got (List ℕ) → Type 0
  EntriesGot c x = LeavesGot c (on_entries m x)

  abbrev EntriesCode : Call → Out ℕ (List ℕ) → Type 0
  EntriesCode c x = LeavesCode c (on_entries m x)

  -- ---- get without a frame

  module _ (row o : ℕ) (s : start_refusal h n t m row o ≡ 0) where
    ended_leaves : o < h → (j p : ℕ) (v : Visit) → visit h n m row o (entry_at t (row / rows_per h) j) ≡ v → LeavesGot (Call.OnRow RowCall.Get row o) (ended h m o p v)
    ended_leaves l j p Pass e = refused seven
    ended_leaves l j p Damage e = refused eight
    ended_leaves l j p (Place f) e = got_block row o j f p s l e

    small_leaves : o < h → LeavesGot (Call.OnRow RowCall.Get row o) (get_small h n t m row o)
    unfolding get_small
    small_leaves l =
        let j = visits_passed h n t m row o in
        pick_case (LeavesGot (Call.OnRow RowCall.Get row o)) (ltb j t)
        (λ _. ended_leaves l j (j + 1) (visit h n m row o (entry_at t (row / rows_per h) j)) refl) (λ _. refused seven)

    huge_leaves : h ≤ o → EntriesGot (Call.OnRow RowCall.Get row o) (get_huge h n t m.entries row o)
    unfolding get_huge take_group
    huge_leaves l =
        let g = group_of h o in
        let j = groups_passed h m.entries t g (row / rows_per h) in
        let at = group_at t g (row / rows_per h) j in
        pick_case (EntriesGot (Call.OnRow RowCall.Get row o)) (ltb j (t / g))
        (λ _. pick_case (EntriesGot (Call.OnRow RowCall.Get row o)) (leb ((at + g) * 2 ^ h) n)
        (λ e. got_group row o j _ s l (leb-true ((at + g) * 2 ^ h) n e)) (λ _. refused eight))
        (λ _. refused seven)

  get_leaves : (row o : ℕ) → LeavesGot (Call.OnRow RowCall.Get row o) (get h n t m row o)
  unfolding get
  get_leaves row o =
      pick_case (LeavesGot (Call.OnRow RowCall.Get row o)) (eqb (start_refusal h n t m row o) 0)
      (λ e. pick_case (LeavesGot (Call.OnRow RowCall.Get row o)) (ltb o h)
      (λ l. small_leaves row o (eqb-true _ 0 e) (ltb-true o h l)) (λ l. huge_leaves row o (eqb-true _ 0 e) (ltb-false o h l)))
      (λ e. refused (eqb-false _ 0 e))

  -- ---- at a frame

  module _ (f o : ℕ) (b : block_refusal h n t m f o ≡ 0) where
    small_at_leaves : o < h → LeavesGot (Call.OnBlock BlockCall.GetAt f o) (get_small_at h m f o)
    unfolding get_small_at
    small_at_leaves l =
        let e = entry_of m.entries (huge_of h f) in
        pick_case (LeavesGot (Call.OnBlock BlockCall.GetAt f o)) (leb (2 ^ o) (free_of e))
        (λ w. pick_case (LeavesGot (Call.OnBlock BlockCall.GetAt f o)) (block_is false m.rows f (2 ^ o)) (λ _. took_block f o b l (leb-true (2 ^ o) (free_of e) w))
        (λ _. refused (pick_case (λ (k : ℕ). k ≡ 0 → ⊥) (leb e (2 ^ h)) (λ _. seven) (λ _. eight))))
        (λ _. refused seven)

    huge_at_leaves : h ≤ o → EntriesGot (Call.OnBlock BlockCall.GetAt f o) (get_huge_at h m.entries f o)
    unfolding get_huge_at
    huge_at_leaves l =
        pick_case (EntriesGot (Call.OnBlock BlockCall.GetAt f o)) (entries_are (2 ^ h) m.entries (f / 2 ^ h) (group_of h o))
        (λ _. took_group f o b l) (λ _. refused seven)

    put_small_leaves : o < h → LeavesCode (Call.OnBlock BlockCall.Put f o) (put_small h m f o)
    unfolding put_small put_marked put_counted
    put_small_leaves l =
        let x = huge_of h f in
        let e = entry_of m.entries x in
        let size : 2 ^ o ≤ 2 ^ h = pow_mono (omega arith) in
        pick_case (LeavesCode (Call.OnBlock BlockCall.Put f o)) (eqb e mark)
        (λ _. pick_case (LeavesCode (Call.OnBlock BlockCall.Put f o)) (block_is false m.rows (x * 2 ^ h) (2 ^ h))
        (λ _. gave_part f o (2 ^ o) b l size) (λ _. refused eight))
        (λ _. pick_case (LeavesCode (Call.OnBlock BlockCall.Put f o)) (leb e (2 ^ h - 2 ^ o) && block_is true m.rows f (2 ^ o))
        (λ w. gave_block f o (e + 2 ^ o) b l (omega (arith, leb-true e (2 ^ h - 2 ^ o) (both _ _ w).0))) (λ _. refused seven))

    put_huge_leaves : h ≤ o → EntriesCode (Call.OnBlock BlockCall.Put f o) (put_huge h m.entries f o)
    unfolding put_huge
    put_huge_leaves l =
        pick_case (EntriesCode (Call.OnBlock BlockCall.Put f o)) (entries_are mark m.entries (f / 2 ^ h) (group_of h o))
        (λ _. gave_group f o b l) (λ _. refused seven)

  get_at_leaves : (f o : ℕ) → LeavesGot (Call.OnBlock BlockCall.GetAt f o) (get_at h n t m f o)
  unfolding get_at
  get_at_leaves f o =
      pick_case (LeavesGot (Call.OnBlock BlockCall.GetAt f o)) (eqb (block_refusal h n t m f o) 0)
      (λ e. pick_case (LeavesGot (Call.OnBlock BlockCall.GetAt f o)) (ltb o h)
      (λ l. small_at_leaves f o (eqb-true _ 0 e) (ltb-true o h l)) (λ l. huge_at_leaves f o (eqb-true _ 0 e) (ltb-false o h l)))
      (λ e. refused (eqb-false _ 0 e))

  put_leaves : (f o : ℕ) → LeavesCode (Call.OnBlock BlockCall.Put f o) (put h n t m f o)
  unfolding put
  put_leaves f o =
      pick_case (LeavesCode (Call.OnBlock BlockCall.Put f o)) (eqb (block_refusal h n t m f o) 0)
      (λ e. pick_case (LeavesCode (Call.OnBlock BlockCall.Put f o)) (ltb o h)
      (λ l. put_small_leaves f o (eqb-true _ 0 e) (ltb-true o h l)) (λ l. put_huge_leaves f o (eqb-true _ 0 e) (ltb-false o h l)))
      (λ e. refused (eqb-false _ 0 e))

  -- ---- recover

  abbrev LeavesRecovered : Out Recovered Mem → Type 0
  LeavesRecovered x = Leaves h n t m (Call.OnAll AllCall.Recover) (x.answer.code ∷ x.answer.entries ∷ x.answer.bitfields ∷ []) x.left

  recover_leaves : LeavesRecovered (recover h n t m)
  unfolding recover recover_all
  recover_leaves =
      pick_case LeavesRecovered (eqb (sizes_refusal h n t m) 0)
      (λ e. pick_case LeavesRecovered (recoverable h n t m) (λ _. recovered (eqb-true _ 0 e)) (λ _. refused eight))
      (λ e. refused (eqb-false _ 0 e))

  -- ---- all calls

  pub leaves : (c : Call) → Leaves h n t m c (called h n t m c).answer (left h n t m c)
  unfolding called remarked
  leaves (Call.OnRow RowCall.Get row o) = get_leaves row o
  leaves (Call.OnRow RowCall.WhyGet row o) = asked (λ x was. refl)
  leaves (Call.OnBlock BlockCall.GetAt f o) = get_at_leaves f o
  leaves (Call.OnBlock BlockCall.Put f o) = put_leaves f o
  leaves (Call.OnBlock BlockCall.IsFree f o) = asked (λ x was. refl)
  leaves (Call.OnBlock BlockCall.WhyGetAt f o) = asked (λ x was. refl)
  leaves (Call.OnBlock BlockCall.WhyPut f o) = asked (λ x was. refl)
  leaves (Call.OnFrame (FrameCall.StatsAt o) f) = asked (λ x was. refl)
  leaves (Call.OnFrame FrameCall.Room f) = asked (λ x was. refl)
  leaves (Call.OnFrame FrameCall.TreeRun f) = asked (λ x was. refl)
  leaves (Call.OnAll AllCall.Stats) = asked (λ x was. refl)
  leaves (Call.OnAll AllCall.Audit) = asked (λ x was. refl)
  leaves (Call.OnAll AllCall.Recover) = recover_leaves
