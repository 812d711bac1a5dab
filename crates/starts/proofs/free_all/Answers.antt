-- The entries of whole huge frames, and that of a partial one where there is one. Assumes nothing.
use mathlib.Core.Path.{◌≡◌}
use Prim.Native.Nat.{◌*◌, ◌^◌}
use native.Mathlib.Omega.{arith}
use Rattle.rules.specs.Starts as spec
use Rattle.starts.proofs.Entries.{partial_needed, free_even, free_partial}
use Rattle.starts.proofs.Rows.{begins_low}
use Rattle.starts.proofs.free_all.Goals as goal

pub bounds-entries-partial : goal.bounds-entries-partial
bounds-entries-partial c =
    let s = c.requires in
    omega (arith, partial_needed s c.frame_huge-partial.ensures c.huge_frame-first.ensures (λ e. omega arith), s.entries)

-- the partial huge frame's entry is needed
pub returns-then-first-n : goal.returns-then-first-n
unfolding spec.all_free
returns-then-first-n c =
    let a = c.args in
    let s = c.requires in
    let inside = partial_needed s c.frame_huge-partial.ensures c.huge_frame-first.ensures (λ e. omega arith) in
    rw (
      c.write_rows.ensures,
      c.write_entries.ensures,
      c.whole.ensures,
      c.huge_frame-first.ensures,
      free_partial a.h.order a.n c.frame_huge-partial.ensures a.entries.now _ inside s.entries,
    )

pub returns-else-first-n : goal.returns-else-first-n
unfolding spec.all_free
returns-else-first-n c =
    let a = c.args in
    let even : c.frame_huge-partial.result * 2 ^ a.h.order ≡ a.n = omega (arith, c.huge_frame-first.ensures, c.if-first-n.false, begins_low a.h.order a.n c.frame_huge-partial.ensures) in
    rw (c.write_rows.ensures, c.write_entries.ensures, c.whole.ensures, free_even a.h.order a.n c.frame_huge-partial.ensures a.entries.now _ even)
