-- No call, and neither start, changes the lengths of the memory, or a row or an entry beyond those that N and T need, however much is lent. Assumes nothing.
use mathlib.Core.Path.{◌≡◌, refl, ◌∙◌}
use mathlib.Core.Bool.{Bool, true, false}
use mathlib.Core.List.{List}
use Prim.Native.Nat.{ℕ, ◌+◌, ◌*◌, ◌/◌, ◌^◌, ◌≤◌, ◌<◌}
use native.Mathlib.Decide.{dec_lt}
use native.Mathlib.Nat.{div-add-mod'}
use native.Mathlib.Omega.{arith}
use lib.Dec.{eqb}
use lib.ListN.{length, get_or, set, length-set}
use lib.Pow.{pow_pos}
use lib.Seq.{get_or-set_other}
use Rattle.base.specs.Walk.{written}
use Rattle.base.specs.Code.{Out}
use Rattle.base.specs.Size.{Huge, rows_per}
use Rattle.base.specs.Bits.{with_bits}
use Rattle.base.proofs.Walks.{pick_case}
use Rattle.base.proofs.Written.{length_written, written_beyond}
use Rattle.base.proofs.Writes.{length_with, with_beyond}
use Rattle.rules.specs.Numbers.{huge_of, rows_needed, entries_needed, group_of}
use Rattle.rules.specs.State.{Mem, mem, entry_of, with_rows, with_entries, with_entry}
use Rattle.rules.specs.Refusals.{sizes_refusal}
use Rattle.rules.proofs.Numbers.{entries_cover, tree_pos}
use Rattle.rules.proofs.Present.{rows_enough, present_ends, present_entry}
use Rattle.rules.proofs.Needed.{whole_needed}
use Rattle.rules.proofs.Lent.{sized, blocked, started, blocked_exactly, block_entries}
use Rattle.rules.specs.Get.{group_at, entry_at}
use Rattle.rules.proofs.VisitSteps.{visit_free}
use Rattle.rules.specs.Starts.{rows_from, free_entry, held_entry, free_all, reserve_all}
use Rattle.rules.specs.Starts as starts
use Rattle.rules.specs.Recover.{mended}
use Rattle.rules.proofs.Mended.{rows_beyond, entries_beyond}
use Rattle.rules.specs.Call.{Call, left}
use Rattle.rules.proofs.Leaves.{Leaves, refused, asked, got_block, got_group, took_block, took_group, gave_block, gave_part, gave_group, recovered, leaves}

-- lengths, and all rows and entries beyond the needed ones, are as they were
pub record Beyond (h n t : ℕ) (m after : Mem) : Type 0 where
  pub long : (length after.rows ≡ length m.rows) × (length after.entries ≡ length m.entries)
  pub rows : (i : ℕ) → rows_needed h n ≤ i → get_or after.rows i 0 ≡ get_or m.rows i 0
  pub entries : (x : ℕ) → entries_needed h n t ≤ x → entry_of after.entries x ≡ entry_of m.entries x

-- ---- what is written

module _ {h n t : ℕ} where
  pub unwritten : (m : Mem) → Beyond h n t m m
  unwritten m = record { long = (refl, refl); rows = λ i _. refl; entries = λ x _. refl }

  -- one write after another
  pub after_both : {a b c : Mem} → Beyond h n t a b → Beyond h n t b c → Beyond h n t a c
  after_both p q = record {
    long = (q.long.0 ∙ p.long.0, q.long.1 ∙ p.long.1);
    rows = λ i l. q.rows i l ∙ p.rows i l;
    entries = λ x l. q.entries x l ∙ p.entries x l;
  }

  -- bits of needed rows
  bits_kept : (m : Mem) (b : Bool) (a e : ℕ) → a ≤ e → e ≤ rows_needed h n * 64 → Beyond h n t m (with_rows m (with_bits b m.rows a e))
  bits_kept m b a e l u = record {
    long = (length_with b m.rows a e, refl);
    rows = λ i k. with_beyond b m.rows a e i l (omega arith);
    entries = λ x _. refl;
  }

  -- needed entries: a run of them, or one
  group_kept : (m : Mem) (f : ℕ → ℕ) (at g : ℕ) → at + g ≤ entries_needed h n t → Beyond h n t m (with_entries m (written f m.entries at g))
  group_kept m f at g l = record {
    long = (refl, length_written f m.entries at g);
    rows = λ i _. refl;
    entries = λ x k. written_beyond f m.entries at g x (omega arith);
  }

  entry_kept : (m : Mem) (x v : ℕ) → x < entries_needed h n t → Beyond h n t m (with_entries m (set m.entries x v))
  entry_kept m x v l = record { long = (refl, length-set m.entries x v); rows = λ i _. refl; entries = λ y k. get_or-set_other m.entries x y v 0 (λ e. omega arith) }

  -- a block that ends at or before N, and its entry
  block_kept : Huge h → 0 < t → (m : Mem) (b : Bool) (f o v : ℕ) → f + 2 ^ o ≤ n
      → Beyond h n t m (with_entry (with_rows m (with_bits b m.rows f (f + 2 ^ o))) (huge_of h f) v)
  block_kept H pos m b f o v l =
      after_both (bits_kept m b f (f + 2 ^ o) (omega arith) (omega (arith, rows_enough H n)))
      (entry_kept (with_rows m (with_bits b m.rows f (f + 2 ^ o))) (huge_of h f) v (entries_cover h n t f pos (omega (arith, pow_pos o))))

-- ---- the calls

module _ {h : ℕ} (H : Huge h) (n t : ℕ) (m : Mem) where
  leaves_beyond : {c : Call} {ks : List ℕ} {after : Mem} → Leaves h n t m c ks after → Beyond h n t m after
  unfolding mended
  leaves_beyond (refused q) = unwritten m
  leaves_beyond (asked stays) = unwritten m
  leaves_beyond (got_block row o j f p s l e) =
      block_kept H (tree_pos t (started h n t _ row o s).sized.tree) m true f o _
      (visit_free H n m.rows m.entries row o (entry_at t (row / rows_per h) j) f e).ends
  leaves_beyond (got_group row o j p s l e) =
      group_kept m _ _ (group_of h o) (whole_needed h n t (group_at t (group_of h o) (row / rows_per h) j + group_of h o) (tree_pos t (started h n t _ row o s).sized.tree) e)
  leaves_beyond (took_block f o b l w) = let k = blocked h n t _ f o b in block_kept H (tree_pos t k.sized.tree) m true f o _ k.ends
  leaves_beyond (took_group f o b l) = group_kept m _ _ _ (block_entries H (blocked_exactly (blocked h n t _ f o b)) l)
  leaves_beyond (gave_block f o v b l w) = let k = blocked h n t _ f o b in block_kept H (tree_pos t k.sized.tree) m false f o v k.ends
  leaves_beyond (gave_part f o v b l w) =
      let k = blocked h n t _ f o b in
      let x = huge_of h f in
      -- it begins below N, so its rows are needed
      let here : x * 2 ^ h < n = omega (arith, k.ends, pow_pos o, div-add-mod' f (2 ^ h)) in
      after_both (bits_kept m true (x * 2 ^ h) (x * 2 ^ h + 2 ^ h) (omega arith) (omega (arith, present_ends H n x here)))
      (block_kept H (tree_pos t k.sized.tree) (with_rows m (with_bits true m.rows (x * 2 ^ h) (x * 2 ^ h + 2 ^ h))) false f o v k.ends)
  leaves_beyond (gave_group f o b l) = group_kept m _ _ _ (block_entries H (blocked_exactly (blocked h n t _ f o b)) l)
  leaves_beyond (recovered s) = record {
    long = (length_written _ _ _ _, length_written _ _ _ _);
    rows = rows_beyond h n m;
    entries = λ x l. entries_beyond h n m x (elim (dec_lt (x * 2 ^ h) n) [
      | yes q ↦ absurd (omega (arith, present_entry h n t x (tree_pos t (sized h n t _ s).tree) q))
      | no q ↦ omega arith
    ]);
  }

  pub call_beyond : (c : Call) → Beyond h n t m (left h n t m c)
  call_beyond c = leaves_beyond (leaves h n t m c)

  -- ---- the starts

  started_beyond : (c : ℕ) (f : ℕ → ℕ) → c ≤ n → Beyond h n t m (mem (rows_from h n m.rows c) (written f m.entries 0 (entries_needed h n t)))
  started_beyond c f l =
      let free = with_rows m (with_bits false m.rows 0 c) in
      after_both (bits_kept m false 0 c (omega arith) (omega (arith, rows_enough H n)))
      (after_both (bits_kept free true c (rows_needed h n * 64) (omega (arith, rows_enough H n)) (omega arith))
      (group_kept (with_rows m (rows_from h n m.rows c)) f 0 (entries_needed h n t) (omega arith)))

  pub starts_beyond : Beyond h n t m (free_all h n t m).left × Beyond h n t m (reserve_all h n t m).left
  unfolding free_all starts.all_free reserve_all starts.all_held
  starts_beyond = (
    pick_case (λ (x : Out ℕ Mem). Beyond h n t m x.left) (eqb (sizes_refusal h n t m) 0) (λ _. started_beyond n (free_entry h n) (omega arith)) (λ _. unwritten m),
    pick_case (λ (x : Out ℕ Mem). Beyond h n t m x.left) (eqb (sizes_refusal h n t m) 0)
        (λ _. started_beyond (n / 2 ^ h * 2 ^ h) (held_entry h n) (omega (arith, div-add-mod' n (2 ^ h)))) (λ _. unwritten m),
  )
