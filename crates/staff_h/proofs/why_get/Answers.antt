-- Refused, a tree that is not consistent, or the reason. Assumes nothing.
use mathlib.Core.Path.{◌≡◌, refl, sym, ◌∙◌}
use Prim.Native.Nat.{ℕ, ◌*◌, ◌<◌}
use native.Mathlib.Omega.{arith}
use Rattle.base.proofs.Refused.{handed_on, numbered}
use Rattle.rules.specs.Numbers.{tree_of}
use Rattle.rules.specs.State.{Lengths, mem, lengths_of}
use Rattle.rules.specs.Refusals.{Framed}
use Rattle.rules.specs.Answers.{why_of}
use Rattle.rules.specs.Consistent.{Fits}
use Rattle.rules.specs.Why as spec
use Rattle.rules.specs.Refusals.{start_code}
use Rattle.rules.proofs.Lent.{started}
use Rattle.staff_h.proofs.Tells.{tells_refusal, tells_damage, tells_reason, sound_consistent}
use Rattle.staff_h.proofs.why_get.Goals as goal

-- the first frame of a start row that passed its check
within : (h n t : ℕ) (len : Lengths) (row o : ℕ) → 0 ≡ start_code h n t len row o → Framed h n t len (row * 64)
within h n t len row o e = let b = started h n t len row o (sym e) in record { sized = b.sized; below = b.begins }

low : (h n t : ℕ) (len : Lengths) (row o : ℕ) → 0 ≡ start_code h n t len row o → row * 64 < 1048576
low h n t len row o e = let b = started h n t len row o (sym e) in omega (arith, b.begins, b.sized.most)

pub returns-in_err-t : goal.returns-in_err-t
unfolding spec.why_get
returns-in_err-t c =
    let s = c.args in
    handed_on why_of c.from_residual.result c.in_err-t.field-0.0 c.from_residual.ensures.1
    ∙ tells_refusal _ c.in_err-t.ensures.code (spec.sound s.h.order s.n s.t (mem s.rows.now s.entries.now) (tree_of s.h.order s.t (s.row * 64))) (numbered c.in_err-t.field-0.0)

pub overflow_mul-row : goal.overflow_mul-row
overflow_mul-row c =
    let a = c.args in
    omega (arith, low a.h.order a.n a.t (lengths_of (mem a.rows.now a.entries.now)) a.row a.order c.in_ok-t.ensures.code)

pub sound-requires : goal.sound-requires
sound-requires c = rw c.in_ok-t.ensures.size (within _ _ _ _ _ _ c.in_ok-t.ensures.code)

pub returns-then-not-sound : goal.returns-then-not-sound
unfolding spec.why_get
returns-then-not-sound c = tells_damage _ c.in_ok-t.ensures.code refl (rw c.in_ok-t.ensures.size at c.sound.ensures) c.if-not-sound.true

pub overflow_mul-row-2 : goal.overflow_mul-row-2
overflow_mul-row-2 c =
    let a = c.args in
    omega (arith, low a.h.order a.n a.t (lengths_of (mem a.rows.now a.entries.now)) a.row a.order c.in_ok-t.ensures.code)

-- the tree that was found sound is consistent
pub get-requires : goal.get-requires
get-requires c =
    let s = c.args in
    let m = mem s.rows.now s.entries.now in
    let e = c.in_ok-t.ensures in
    let fits : Fits m = record { rows = λ i. (c.type_inv.rows i).fits; entries = λ x. (c.type_inv.entries x).fits } in
    let begun = started s.h.order s.n s.t (lengths_of m) s.row s.order (sym e.code) in
    let whole = within s.h.order s.n s.t (lengths_of m) s.row s.order e.code in
    rw e.size (begun.top, (s.n, whole, sound_consistent m s.h.within fits whole (rw e.size at c.sound.ensures) c.if-not-sound.false))

pub returns : goal.returns
unfolding spec.why_get
returns c =
    let s = c.args in
    let e = c.in_ok-t.ensures in
    let fits : Fits (mem s.rows.now s.entries.now) = record { rows = λ i. (c.type_inv.rows i).fits; entries = λ x. (c.type_inv.entries x).fits } in
    let sound = rw e.size at c.sound.ensures in
    let whole = within _ _ _ _ _ _ e.code in
    tells_reason _ e.code refl sound c.if-not-sound.false
    (rw e.size at (c.get.ensures s.n (rw e.size (sound_consistent (mem s.rows.now s.entries.now) s.h.within fits whole sound c.if-not-sound.false)) whole.below))
