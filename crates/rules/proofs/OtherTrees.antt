-- A call on one tree writes no row and no entry of another, on any memory. Assumes nothing.
use mathlib.Core.Path.{◌≡◌, refl, sym, ap, ◌∙◌}
use mathlib.Core.Bool.{Bool, true, false}
use mathlib.Core.List.{List}
use Prim.Native.Nat.{ℕ, ◌+◌, ◌-◌, ◌*◌, ◌/◌, ◌^◌, ◌≤◌, ◌<◌}
use native.Mathlib.Decide.{dec_lt}
use native.Mathlib.Nat.{div-div-eq-div-mul, div-mul-le_self}
use native.Mathlib.Omega.{arith}
use lib.ListN.{get_or}
use lib.Seq.{get_or-set_other}
use Rattle.base.specs.Walk.{written}
use Rattle.base.specs.Size.{Huge, rows_per}
use Rattle.base.specs.Bits.{with_bits}
use Rattle.base.proofs.Written.{written_before, written_beyond}
use Rattle.base.proofs.Writes.{with_ahead, with_beyond}
use Rattle.base.proofs.Sizes.{rows_frames, first_row}
use Rattle.base.proofs.Rests.{quotient_is}
use Rattle.rules.specs.Numbers.{mark, huge_of, tree_log, tree_of, group_of}
use Rattle.rules.specs.Refusals.{Blocked, Started}
use Rattle.rules.specs.State.{Mem, entry_of, Lengths, with_rows, with_entries, with_entry}
use Rattle.rules.proofs.Numbers.{tree_pos, tree_of_huge, tree_by_rows}
use Rattle.rules.proofs.Present.{block_within}
use Rattle.rules.proofs.Lent.{blocked, started}
use Rattle.rules.specs.Get.{group_at, taken, visit, entry_at}
use Rattle.rules.proofs.GroupSteps.{group_in_tree, Tree, group_ends, start_groups}
use Rattle.rules.specs.Numbered.{Place}
use Rattle.rules.proofs.VisitSteps.{visit_free}
use Rattle.rules.specs.Call.{Call, left}
use Rattle.rules.specs.OneTree.{Agree, On}
use Rattle.rules.proofs.Rings.{visited_ring}
use Rattle.rules.proofs.Leaves.{Leaves, refused, asked, got_block, got_group, took_block, took_group, gave_block, gave_part, gave_group, recovered, leaves}

-- rows and entries of every tree but y are alike
record Elsewhere (h t y : ℕ) (a b : Mem) : Type 0 where
  rows : (i : ℕ) → (i / (rows_per h * t) ≡ y → ⊥) → get_or a.rows i 0 ≡ get_or b.rows i 0
  entries : (x : ℕ) → (x / t ≡ y → ⊥) → entry_of a.entries x ≡ entry_of b.entries x

unwritten : {h t y : ℕ} {m : Mem} → Elsewhere h t y m m
unwritten = record { rows = λ i _. refl; entries = λ i _. refl }

-- ---- what is written

-- frames of huge frame x, in its rows alone
frames_in_rows : {h : ℕ} → Huge h → (b : Bool) (rows : List ℕ) (x a e : ℕ) → x * 2 ^ h ≤ a → a ≤ e → e ≤ (x + 1) * 2 ^ h
    → (i : ℕ) → (i / rows_per h ≡ x → ⊥) → get_or (with_bits b rows a e) i 0 ≡ get_or rows i 0
frames_in_rows {h} H b rows x a e lo l hi i q =
    let first = first_row H x in
    let size = rows_frames H in
    elim (dec_lt i (x * rows_per h)) [
      | yes u ↦ with_ahead b rows a e i l (omega arith)
      | no u ↦ elim (dec_lt i (x * rows_per h + rows_per h)) [
        | yes k ↦ absurd (q (quotient_is (rows_per h) x i (omega arith) k))
        | no k ↦ with_beyond b rows a e i l (omega arith)
      ]
    ]

module _ {h : ℕ} (H : Huge h) (t y : ℕ) (m : Mem) where
  -- bits and the entry of a huge frame of tree y
  block_elsewhere : (b : Bool) (x a e v : ℕ) → x / t ≡ y → x * 2 ^ h ≤ a → a ≤ e → e ≤ (x + 1) * 2 ^ h
      → Elsewhere h t y (with_entry (with_rows m (with_bits b m.rows a e)) x v) m
  block_elsewhere b x a e v here lo l hi = record {
    rows = λ i q. frames_in_rows H b m.rows x a e lo l hi i (λ k. q (sym (div-div-eq-div-mul i (rows_per h) t) ∙ ap (λ (r : ℕ). r / t) k ∙ here));
    entries = λ i q. get_or-set_other m.entries x i v 0 (λ k. q (ap (λ (r : ℕ). r / t) k ∙ here));
  }

  -- entries of tree y
  group_elsewhere : (f : ℕ → ℕ) (at g : ℕ) → y * t ≤ at → at + g ≤ y * t + t → Elsewhere h t y (with_entries m (written f m.entries at g)) m
  group_elsewhere f at g lo hi = record {
    rows = λ i q. refl;
    entries = λ i q. elim (dec_lt i at) [
      | yes l ↦ written_before f m.entries at g i l
      | no l ↦ elim (dec_lt i (at + g)) [
        | yes u ↦ absurd (q (quotient_is t y i (omega arith) (omega arith)))
        | no u ↦ written_beyond f m.entries at g i (omega arith)
      ]
    ];
  }

  -- ---- a block that passed the refusals

  module _ {n : ℕ} {len : Lengths} {f o : ℕ} (k : Blocked h n t len f o) (on : tree_of h t f ≡ y) where
    huge_here : huge_of h f / t ≡ y
    huge_here = sym (tree_of_huge h t f) ∙ on

    small_elsewhere : o < h → (b : Bool) (v : ℕ) → Elsewhere h t y (with_entry (with_rows m (with_bits b m.rows f (f + 2 ^ o))) (huge_of h f) v) m
    small_elsewhere l b v = block_elsewhere b (huge_of h f) f (f + 2 ^ o) v huge_here (div-mul-le_self f (2 ^ h)) (omega arith) (block_within f o l k.aligned)

    huge_elsewhere : h ≤ o → (v : ℕ → ℕ) → Elsewhere h t y (with_entries m (written v m.entries (huge_of h f) (group_of h o))) m
    huge_elsewhere l v =
        group_elsewhere v (huge_of h f) (group_of h o) (rw huge_here at (div-mul-le_self (huge_of h f) t)) (rw on at (group_in_tree k l))

  -- ---- a start row that did

  module _ {n : ℕ} {len : Lengths} {row o : ℕ} (k : Started h n t len row o) (on : tree_of h t (row * 64) ≡ y) where
    start_here : row / rows_per h / t ≡ y
    start_here = sym (tree_by_rows t row H) ∙ on

    found_elsewhere : o < h → (j f : ℕ) → visit h n m row o (entry_at t (row / rows_per h) j) ≡ Place f → Elsewhere h t y (taken h m f o) m
    found_elsewhere l j f e =
        let w = visit_free H n m.rows m.entries row o (entry_at t (row / rows_per h) j) f e in
        let here : huge_of h f / t ≡ y = ap (λ (x : ℕ). x / t) w.huge ∙ visited_ring t (row / rows_per h) (tree_pos t k.sized.tree) j ∙ start_here in
        block_elsewhere true (huge_of h f) f (f + 2 ^ o) _ here (div-mul-le_self f (2 ^ h)) (omega arith) (block_within f o l w.aligned)

    groups : h ≤ o → Tree t (group_of h o) (row / rows_per h) (y * t) (2 ^ (h + tree_log t - o)) len.entries
    groups l = rw (← start_here) (start_groups H k l)

    group_found_elsewhere : h ≤ o → (j : ℕ) (v : ℕ → ℕ)
        → Elsewhere h t y (with_entries m (written v m.entries (group_at t (group_of h o) (row / rows_per h) j) (group_of h o))) m
    group_found_elsewhere l j v =
        let at = group_at t (group_of h o) (row / rows_per h) j in
        group_elsewhere v at (group_of h o) (rw start_here (omega arith)) (group_ends (groups l) j at refl)

-- ---- the calls

call_elsewhere : {h n t y : ℕ} {m : Mem} {c : Call} {ks : List ℕ} {after : Mem} → Huge h → Leaves h n t m c ks after → On h t y c → Elsewhere h t y after m
unfolding On
call_elsewhere H (refused q) on = unwritten
call_elsewhere H (asked stays) on = unwritten
call_elsewhere {h} {n} {t} {y} {m} H (got_block row o j f p s l e) on = found_elsewhere H t y m (started h n t _ row o s) on l j f e
call_elsewhere {h} {n} {t} {y} {m} H (got_group row o j p s l e) on = group_found_elsewhere H t y m (started h n t _ row o s) on l j (λ i. mark)
call_elsewhere {h} {n} {t} {y} {m} H (took_block f o b l w) on = small_elsewhere H t y m (blocked h n t _ f o b) on l true _
call_elsewhere {h} {n} {t} {y} {m} H (took_group f o b l) on = huge_elsewhere H t y m (blocked h n t _ f o b) on l (λ i. mark)
call_elsewhere {h} {n} {t} {y} {m} H (gave_block f o v b l w) on = small_elsewhere H t y m (blocked h n t _ f o b) on l false v
call_elsewhere {h} {n} {t} {y} {m} H (gave_part f o v b l w) on =
    let a = huge_of h f * 2 ^ h in
    let here = sym (tree_of_huge h t f) ∙ on in
    let all = block_elsewhere H t y m true (huge_of h f) a (a + 2 ^ h) v here (omega arith) (omega arith) (omega arith) in
    let part = small_elsewhere H t y (with_rows m (with_bits true m.rows a (a + 2 ^ h))) (blocked h n t _ f o b) on l false v in
    record { rows = λ i q. part.rows i q ∙ all.rows i q; entries = part.entries }
call_elsewhere {h} {n} {t} {y} {m} H (gave_group f o b l) on = huge_elsewhere H t y m (blocked h n t _ f o b) on l (λ i. 2 ^ h)
call_elsewhere H (recovered s) on = absurd on

pub other_trees : (h n t y : ℕ) (m : Mem) (c : Call) → Huge h → On h t y c → (z : ℕ) → (z ≡ y → ⊥) → Agree h n t z (left h n t m c) m
other_trees h n t y m c H on z q =
    let k = call_elsewhere H (leaves h n t m c) on in
    record { rows = λ i _ e. k.rows i (λ p. q (sym e ∙ p)); entries = λ x e. k.entries x (λ p. q (sym e ∙ p)) }
