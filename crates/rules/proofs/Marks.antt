-- Which huge frames have the mark after each call: a case for each way in which a call writes. Assumes nothing.
use mathlib.Core.Path.{◌≡◌, refl, sym, ap, ◌∙◌, subst}
use mathlib.Core.Bool.{Bool, true, false, not, ◌&&◌, ◌||◌, and-true, and-false, or-false}
use mathlib.Core.List.{List, ◌∷◌}
use Prim.Native.Nat.{ℕ, ◌+◌, ◌-◌, ◌*◌, ◌/◌, ◌%◌, ◌^◌, ◌≤◌, ◌<◌}
use native.Mathlib.Decide.{dec_lt, ℕ_discrete}
use native.Mathlib.Nat.{add-zero, mul-div_cancel}
use native.Mathlib.Omega.{arith}
use lib.Dec.{eqb, leb}
use lib.ListN.{length, set}
use lib.Pow.{pow_pos}
use lib.Seq.{get_or-set_same, get_or-set_other}
use borrow.Author.Tests.{eq-eqb, ne_eqb, le-leb, lt-leb, leb-true}
use Rattle.base.specs.Walk.{pick, written}
use Rattle.base.specs.Size.{Huge, rows_per}
use Rattle.base.specs.Bits.{bit_is}
use Rattle.base.proofs.Sizes.{frames_fit}
use Rattle.base.proofs.Walks.{pick_case, count_le}
use Rattle.base.proofs.Stored.{if_done}
use Rattle.base.proofs.Written.{written_before, written_in, written_beyond}
use Rattle.rules.specs.Numbers.{mark, huge_of, whole, entries_needed, group_of}
use Rattle.rules.specs.Refusals.{Sized, Blocked, sizes_refusal}
use Rattle.rules.specs.State.{Mem, Lengths, entry_of, free_of, lengths_of, with_entries}
use Rattle.rules.specs.Get.{taken, group_at, visit, entry_at}
use Rattle.rules.specs.Numbered.{Visit}
use Rattle.rules.specs.Numbered.{Place}
use Rattle.rules.specs.Recover.{mended}
use Rattle.rules.specs.Starts as starts
use Rattle.rules.specs.Starts.{free_entry, held_entry, free_all, reserve_all}
use Rattle.rules.specs.Call.{RowCall, BlockCall, Call}
use Rattle.rules.specs.Consistent.{Fits}
use Rattle.rules.specs.Marks.{marked, meets, remarked, MarksMove}
use Rattle.rules.proofs.Numbers.{tree_pos, block_begins}
use Rattle.rules.proofs.Present.{huge_is, block_huge}
use Rattle.rules.proofs.Needed.{whole_needed}
use Rattle.rules.proofs.Lent.{sized, blocked, started, block_entry, block_entries}
use Rattle.rules.proofs.VisitSteps.{visit_free}
use Rattle.rules.proofs.GetSteps.{found_block}
use Rattle.rules.proofs.GroupSteps.{group_frames}
use Rattle.rules.proofs.Entries.{whole_not_mark}
use Rattle.rules.proofs.Mended.{entries_beyond, mended_mark, mended_count}
use Rattle.rules.proofs.Leaves.{Leaves, refused, asked, got_block, got_group, took_block, took_group, gave_block, gave_part, gave_group, recovered, leaves}

-- ---- which huge frames a block meets

-- the last frame of an aligned block: below the huge order in the first one's huge frame, from it up in the last one of the group
last_small : {h : ℕ} (f o : ℕ) → o < h → f % 2 ^ o ≡ 0 → huge_of h (f + 2 ^ o - 1) ≡ huge_of h f
last_small f o l even = block_huge f o l even (f + 2 ^ o - 1) (omega (arith, pow_pos o)) (omega (arith, pow_pos o))

last_huge : (h at o : ℕ) → h ≤ o → huge_of h (at * 2 ^ h + 2 ^ o - 1) + 1 ≡ at + group_of h o
last_huge h at o l =
    let g = pow_pos (o - h) in
    let last = at + group_of h o - 1 in
    let ends : (last + 1) * 2 ^ h ≡ at * 2 ^ h + 2 ^ o = ap (λ (k : ℕ). k * 2 ^ h) (omega (arith, g)) ∙ group_frames h at o l in
    omega (arith, g, huge_is h last (at * 2 ^ h + 2 ^ o - 1) (omega (arith, ends, pow_pos h)) (omega (arith, ends, pow_pos o)))

-- one that begins at a frame
whole_last : {h n t : ℕ} {len : Lengths} {f o : ℕ} → Blocked h n t len f o → h ≤ o → huge_of h (f + 2 ^ o - 1) + 1 ≡ huge_of h f + group_of h o
whole_last {h} {f = f} {o} b l = subst (λ (a : ℕ). huge_of h (a + 2 ^ o - 1) + 1 ≡ huge_of h f + group_of h o) (block_begins h f o l b.aligned) (last_huge h (huge_of h f) o l)

-- ---- what is written

-- where the block meets a huge frame, that has the mark as b says, and any other as before
abbrev Over : ℕ → Mem → Mem → ℕ → ℕ → Bool → Type 0
Over h m after a o b = (x : ℕ) → marked after x ≡ pick (meets h a o x) b (marked m x)

-- entries
group_over : (h : ℕ) (m : Mem) (a o at g v : ℕ) → huge_of h a ≡ at → huge_of h (a + 2 ^ o - 1) + 1 ≡ at + g → at + g ≤ length m.entries
    → Over h m (with_entries m (written (λ i. v) m.entries at g)) a o (eqb v mark)
group_over h m a o at g v begins ends l x = elim (dec_lt x at) [
  | yes u ↦ rw (lt-leb (huge_of h a) x (omega arith)) (ap (λ (e : ℕ). eqb e mark) (written_before (λ i. v) m.entries at g x u))
  | no u ↦ elim (dec_lt x (at + g)) [
    | yes k ↦
        rw (le-leb (huge_of h a) x (omega arith), le-leb x (huge_of h (a + 2 ^ o - 1)) (omega arith))
        (ap (λ (e : ℕ). eqb e mark) (written_in (λ i. v) m.entries at g x (omega arith) k (omega arith)))
    | no k ↦
        rw (le-leb (huge_of h a) x (omega arith), lt-leb x (huge_of h (a + 2 ^ o - 1)) (omega arith))
        (ap (λ (e : ℕ). eqb e mark) (written_beyond (λ i. v) m.entries at g x (omega arith)))
  ]
]

-- a block below the huge order is given back: its entry is no mark
gave_over : {h n t : ℕ} (H : Huge h) (m : Mem) (f o v : ℕ) → Blocked h n t (lengths_of m) f o → o < h → v ≤ 2 ^ h
    → Over h m (with_entries m (set m.entries (huge_of h f) v)) f o false
unfolding written
gave_over {h} H m f o v b l u x =
    let last = last_small f o l b.aligned in
    rw add-zero at (group_over h m f o (huge_of h f) 1 v refl (omega arith) (omega (arith, block_entry H b)) x)
    ∙ ap (λ (d : Bool). pick (meets h f o x) d (marked m x)) (ne_eqb v mark (λ e. omega (arith, frames_fit H)))

-- one is taken: its entry was no mark, and is none
taken_stays : {h n t : ℕ} (H : Huge h) (m : Mem) → Fits m → (f o : ℕ) → Blocked h n t (lengths_of m) f o → 2 ^ o ≤ free_of (entry_of m.entries (huge_of h f))
    → (x : ℕ) → marked (taken h m f o) x ≡ marked m x
taken_stays {h} H m fits f o b counts x =
    let e = entry_of m.entries (huge_of h f) in
    let was : e ≡ mark → ⊥ = λ q. omega (arith, pow_pos o, rw (eq-eqb e mark q) at counts) in
    elim (ℕ_discrete x (huge_of h f)) [
      | yes k ↦
          rw (k, get_or-set_same m.entries (huge_of h f) (e - 2 ^ o) 0 (block_entry H b))
          (ne_eqb (e - 2 ^ o) mark (λ q. omega (arith, pow_pos o, fits.entries (huge_of h f))) ∙ sym (ne_eqb e mark was))
      | no k ↦ ap (λ (v : ℕ). eqb v mark) (get_or-set_other m.entries (huge_of h f) x (e - 2 ^ o) 0 k)
    ]

-- a visit that finds a block is of an entry that counts it
visit_counts : (h n : ℕ) (m : Mem) (row o x f : ℕ) → visit h n m row o x ≡ Place f → 2 ^ o ≤ free_of (entry_of m.entries x)
unfolding visit
visit_counts h n m row o x f = pick_case (λ (v : Visit). v ≡ Place f → 2 ^ o ≤ free_of (entry_of m.entries x)) (leb (2 ^ o) (free_of (entry_of m.entries x)))
    (λ l _. leb-true _ _ l) (λ _ q. absurd (let z : ◌≡◌ {A = ℕ} 0 1 = cc in omega arith))

-- recover writes no mark, and none away
mended_marks : {h n t : ℕ} → Huge h → (m : Mem) → Sized h n t (lengths_of m) → (x : ℕ) → marked (mended h n m) x ≡ marked m x
mended_marks {h} {n} H m s x = elim (dec_lt (x * 2 ^ h) n) [
  | yes l ↦ elim (ℕ_discrete (entry_of m.entries x) mark) [
    | yes e ↦ eq-eqb _ mark (mended_mark m s x l e) ∙ sym (eq-eqb _ mark e)
    | no e ↦
        let count = count_le (bit_is false m.rows) (2 ^ h) (x * 2 ^ h) in
        ne_eqb (entry_of (mended h n m).entries x) mark (λ q. omega (arith, mended_count m s x l e, count, frames_fit H)) ∙ sym (ne_eqb _ mark e)
  ]
  | no l ↦ ap (λ (e : ℕ). eqb e mark) (entries_beyond h n m x (omega arith))
]

-- ---- the calls

-- a mark that is added, or taken away, where a test holds
added : (b was : Bool) → pick b true was ≡ (was || b)
added true true = refl
added true false = refl
added false was = sym (or-false was)

removed : (b was : Bool) → pick b false was ≡ (was && not b)
removed true true = refl
removed true false = refl
removed false was = sym (and-true was)

-- a refused call neither adds nor takes away
refused_stays : (h : ℕ) (c : Call) (k : ℕ) (ks : List ℕ) → (k ≡ 0 → ⊥) → (x : ℕ) (was : Bool) → remarked h c (k ∷ ks) x was ≡ was
unfolding remarked
refused_stays h (Call.OnRow RowCall.Get row o) k ks q x was = rw (ne_eqb k 0 q, and-false) (or-false was)
refused_stays h (Call.OnRow RowCall.WhyGet row o) k ks q x was = refl
refused_stays h (Call.OnBlock BlockCall.GetAt a o) k ks q x was = rw (ne_eqb k 0 q, and-false) (or-false was)
refused_stays h (Call.OnBlock BlockCall.Put a o) k ks q x was = rw (ne_eqb k 0 q) (and-true was)
refused_stays h (Call.OnBlock BlockCall.IsFree a o) k ks q x was = refl
refused_stays h (Call.OnBlock BlockCall.WhyGetAt a o) k ks q x was = refl
refused_stays h (Call.OnBlock BlockCall.WhyPut a o) k ks q x was = refl
refused_stays h (Call.OnFrame c a) k ks q x was = refl
refused_stays h (Call.OnAll c) k ks q x was = refl

module _ {h n t : ℕ} (H : Huge h) {m : Mem} (fits : Fits m) where
  leaves_marks : {c : Call} {ks : List ℕ} {after : Mem} → Leaves h n t m c ks after → (x : ℕ) → marked after x ≡ remarked h c ks x (marked m x)
  unfolding remarked
  leaves_marks (refused {c} {k} {ks} q) x = sym (refused_stays h c k ks q x (marked m x))
  leaves_marks (asked stays) x = sym (stays x (marked m x))
  leaves_marks (got_block row o j f p s l e) x =
      let at = entry_at t (row / rows_per h) j in
      let k = visit_free H n m.rows m.entries row o at f e in
      let b = found_block H (started h n t _ row o s) k in
      taken_stays H m fits f o b (rw k.huge (visit_counts h n m row o at f e)) x ∙ rw (lt-leb h o l) (sym (or-false (marked m x)))
  leaves_marks (got_group row o j p s l e) x =
      let at = group_at t (group_of h o) (row / rows_per h) j in
      let z = (started h n t _ row o s).sized in
      group_over h m (at * 2 ^ h) o at (group_of h o) mark (mul-div_cancel at (pow_pos h)) (last_huge h at o l)
      (omega (arith, whole_needed h n t (at + group_of h o) (tree_pos t z.tree) e, z.entries)) x
      ∙ rw (le-leb h o l) (added (meets h (at * 2 ^ h) o x) (marked m x))
  leaves_marks (took_block f o b l w) x = taken_stays H m fits f o (blocked h n t _ f o b) w x ∙ rw (lt-leb h o l) (sym (or-false (marked m x)))
  leaves_marks (took_group f o b l) x =
      let k = blocked h n t _ f o b in
      group_over h m f o (huge_of h f) (group_of h o) mark refl (whole_last k l) (block_entries H k l) x
      ∙ rw (le-leb h o l) (added (meets h f o x) (marked m x))
  leaves_marks (gave_block f o v b l w) x = gave_over H m f o v (blocked h n t _ f o b) l w x ∙ removed (meets h f o x) (marked m x)
  leaves_marks (gave_part f o v b l w) x = gave_over H m f o v (blocked h n t _ f o b) l w x ∙ removed (meets h f o x) (marked m x)
  leaves_marks (gave_group f o b l) x =
      let k = blocked h n t _ f o b in
      group_over h m f o (huge_of h f) (group_of h o) (2 ^ h) refl (whole_last k l) (block_entries H k l) x
      ∙ rw (ne_eqb (2 ^ h) mark (whole_not_mark H refl)) (removed (meets h f o x) (marked m x))
  leaves_marks (recovered s) x = mended_marks H m (sized h n t _ s) x

-- ---- the starts

module _ (h n t : ℕ) (m : Mem) (x : ℕ) (l : x < entries_needed h n t) where
  -- entries that are all written
  written_mark : Sized h n t (lengths_of m) → (f : ℕ → ℕ) → eqb (entry_of (written f m.entries 0 (entries_needed h n t)) x) mark ≡ eqb (f x) mark
  written_mark s f = ap (λ (e : ℕ). eqb e mark) (written_in f m.entries 0 (entries_needed h n t) x (omega arith) (omega arith) (omega (arith, s.entries)))

  free_all_marks : Huge h → (free_all h n t m).answer ≡ 0 → marked (free_all h n t m).left x ≡ false
  unfolding free_all starts.all_free
  free_all_marks H e =
      let d = if_done m (starts.all_free h n t m) (sizes_refusal h n t m) e in
      rw d.1 (written_mark (sized h n t _ d.0) (free_entry h n) ∙ ne_eqb (free_entry h n x) mark (λ q. omega (arith, frames_fit H)))

  reserve_all_marks : (reserve_all h n t m).answer ≡ 0 → marked (reserve_all h n t m).left x ≡ whole h n x
  unfolding reserve_all starts.all_held
  reserve_all_marks e =
      let d = if_done m (starts.all_held h n t m) (sizes_refusal h n t m) e in
      rw d.1 (written_mark (sized h n t _ d.0) (held_entry h n) ∙ told (whole h n x))
    where
      told : (b : Bool) → eqb (pick b mark 0) mark ≡ b
      told true = refl
      told false = refl

pub calls_mark : MarksMove
calls_mark h n t m x H fits = (λ c. leaves_marks H fits (leaves h n t m c) x, (λ l. free_all_marks h n t m x l H, λ l. reserve_all_marks h n t m x l))
