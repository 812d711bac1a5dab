-- What a caller in another language reads by offset and length is the run that `tree_run` hands back. Assumes nothing.
use mathlib.Core.Path.{◌≡◌, refl}
use mathlib.Core.Bool.{Bool, true, false}
use mathlib.Core.List.{[]}
use Prim.Native.Nat.{ℕ}
use lib.Dec.{eqb}
use lib.ListN.{length, take, drop}
use borrow.Author.Tests.{eq-eqb, ne_eqb}
use Rattle.base.specs.Walk.{pick}
use Rattle.base.specs.Size.{Huge}
use Rattle.base.proofs.Parts.{part_long}
use Rattle.rules.specs.Numbers.{tree_at}
use Rattle.rules.specs.State.{Mem, lengths_of}
use Rattle.rules.specs.Refusals.{frame_refusal}
use Rattle.rules.proofs.Lent.{framed, frame_tree}
use Rattle.rules.specs.Room.{run_of}
use Rattle.rules.specs.Room as staff
use Rattle.ravelbeam.specs.Run.{run, tree_run}

pub run_placed : (h n t : ℕ) (m : Mem) (f : ℕ) → take (tree_run h n t m f).length (drop (tree_run h n t m f).offset m.entries) ≡ staff.tree_run h n t m f
unfolding tree_run staff.tree_run
run_placed h n t m f = go (eqb (frame_refusal h n t m f) 0)
  where
    go : (b : Bool) → let r = pick b (run 0 (tree_at h t f) t) (run (frame_refusal h n t m f) 0 0) in take r.length (drop r.offset m.entries)
        ≡ pick b (run_of h t m.entries f) []
    go true = refl
    go false = refl

-- its length by the part that was handed back: none where the call is refused
pub run_refused : (h n t : ℕ) (m : Mem) (f : ℕ) → (frame_refusal h n t m f ≡ 0 → ⊥) → length (staff.tree_run h n t m f) ≡ 0
unfolding staff.tree_run
run_refused h n t m f differs = rw (ne_eqb (frame_refusal h n t m f) 0 differs)

pub run_long : {h : ℕ} → Huge h → (n t : ℕ) (m : Mem) (f : ℕ) → frame_refusal h n t m f ≡ 0 → length (staff.tree_run h n t m f) ≡ t
unfolding staff.tree_run
run_long {h} H n t m f e = rw (eq-eqb (frame_refusal h n t m f) 0 e) (part_long m.entries (tree_at h t f) t (frame_tree H (framed h n t (lengths_of m) f e)))
