-- Refused with no entries, or the tree's. Assumes nothing.
use mathlib.Core.Path.{◌≡◌, sym}
use mathlib.Core.List.{[]}
use Prim.Native.Nat.{ℕ, ◌+◌, ◌≤◌}
use native.Mathlib.Nat.{add-sub_cancel_left}
use native.Mathlib.Omega.{arith}
use Rattle.base.proofs.Codes.{answered}
use Rattle.base.proofs.Refused.{refused_here}
use Rattle.base.specs.Size.{Huge}
use Rattle.rules.specs.State.{Lengths, mem, lengths_of}
use Rattle.rules.specs.Numbers.{tree_at}
use Rattle.rules.specs.Refusals.{frame_code}
use Rattle.rules.proofs.Lent.{framed, frame_tree}
use Rattle.rules.specs.Room as spec
use Rattle.staff_h.proofs.tree_run.Goals as goal

-- the tree of a frame that passed its check has its entries lent
lent : (h n t f : ℕ) (len : Lengths) → Huge h → 0 ≡ frame_code h n t len f → {s first : ℕ} → s ≡ t → first ≡ tree_at h s f → first + s ≤ len.entries
lent h n t f len H e s_is first_is = rw (first_is, s_is) (frame_tree H (framed h n t len f (sym e)))

pub overflow_add-result : goal.overflow_add-result
overflow_add-result c =
    let a = c.args in
    omega (arith, lent a.h.order a.n a.t a.frame (lengths_of (mem a.rows.now a.entries.now)) a.h.within c.in-Ok.ensures.code c.in-Ok.ensures.size c.tree_first-first.ensures)

pub offset_bounds-entries-first : goal.offset_bounds-entries-first
offset_bounds-entries-first c =
    let a = c.args in
    omega (arith, lent a.h.order a.n a.t a.frame (lengths_of (mem a.rows.now a.entries.now)) a.h.within c.in-Ok.ensures.code c.in-Ok.ensures.size c.tree_first-first.ensures)

pub slice_bounds-result-end : goal.slice_bounds-result-end
slice_bounds-result-end c =
    let a = c.args in
    lent a.h.order a.n a.t a.frame (lengths_of (mem a.rows.now a.entries.now)) a.h.within c.in-Ok.ensures.code c.in-Ok.ensures.size c.tree_first-first.ensures

pub returns-in-Ok : goal.returns-in-Ok
unfolding spec.tree_run
returns-in-Ok c =
    let e = c.in-Ok.ensures in
    answered _ _ (sym e.code) (rw (add-sub_cancel_left c.tree_first-first.result c.in-Ok.t.huge, c.tree_first-first.ensures, e.size))

pub returns-in-Err : goal.returns-in-Err
unfolding spec.tree_run
returns-in-Err c = refused_here _ (λ _. []) _ c.in-Err.ensures.code
