-- A block that is found ends far below a word's end. Assumes nothing.
use mathlib.Core.Path.{refl}
use native.Mathlib.Omega.{arith}
use Rattle.bitfield_rules.specs.Calls.{placed}
use Rattle.rules.proofs.VisitSteps.{Looked, block_low}
use Rattle.visits.proofs.look.Goals as goal

pub overflow_add-first : goal.overflow_add-first
overflow_add-first c =
    let a = c.args in
    let k : Looked a.h.order a.n a.rows.now a.entries.now a.row a.order a.x c.size-size.result c.huge_frame-first.result (placed 0 c.in-Ok.place) = record {
      size_is = c.size-size.ensures;
      no_mark = c.if-entry.false;
      enough = c.if-entry-size.false;
      first_is = c.huge_frame-first.ensures;
      present = c.if-n-first.false;
      found_is = c.in-Ok.ensures;
    } in
    omega (arith, block_low k refl c.args.h.within c.requires.3)

pub overflow_add-first-in-Ok-1 : goal.overflow_add-first-in-Ok-1
overflow_add-first-in-Ok-1 c =
    let a = c.args in
    let k : Looked a.h.order a.n a.rows.now a.entries.now a.row a.order a.x c.size-size.result c.huge_frame-first.result (placed 0 c.in-Ok.place) = record {
      size_is = c.size-size.ensures;
      no_mark = c.if-entry.false;
      enough = c.if-entry-size.false;
      first_is = c.huge_frame-first.ensures;
      present = c.if-n-first.false;
      found_is = c.in-Ok.ensures;
    } in
    omega (arith, block_low k refl c.args.h.within c.requires.3)
