-- All huge frames that lie wholly below N come before the others, and their entries are needed. Assumes nothing.
use Prim.Native.Nat.{◌≤◌}
use native.Mathlib.Omega.{arith}
use Rattle.starts.proofs.Entries.{wholes_needed, wholes_written}
use Rattle.starts.proofs.write_entries.Goals as goal

pub fill-requires : goal.fill-requires
fill-requires c =
    let s = c.requires.1 in
    omega (arith, wholes_needed s c.frame_huge-wholes.ensures, c.entries_needed-needed.ensures, s.entries)

pub overflow_sub-needed : goal.overflow_sub-needed
overflow_sub-needed c = rw c.entries_needed-needed.ensures (wholes_needed c.requires.1 c.frame_huge-wholes.ensures)

pub fill-requires-2 : goal.fill-requires-2
fill-requires-2 c =
    let s = c.requires.1 in
    omega (arith, wholes_needed s c.frame_huge-wholes.ensures, c.entries_needed-needed.ensures, s.entries)

pub returns : goal.returns
returns c =
    let a = c.args in
    let inside : c.frame_huge-wholes.result ≤ c.entries_needed-needed.result = rw c.entries_needed-needed.ensures (wholes_needed c.requires.1 c.frame_huge-wholes.ensures) in
    rw (← c.entries_needed-needed.ensures, c.fill-2.ensures, c.fill.ensures) (wholes_written a.h.order a.n c.frame_huge-wholes.ensures a.entries.now a.v _ inside)
