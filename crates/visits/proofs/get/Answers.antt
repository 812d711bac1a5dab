-- A turn skips to the next visit that may have a block, and what that visit answers tells whether it ends the get. Assumes nothing.
use mathlib.Core.Path.{refl, sym, ap, ◌∙◌}
use Prim.Native.Nat.{◌≤◌}
use native.Mathlib.Omega.{arith}
use Rattle.base.proofs.Walks.{first_start, first_more, first_from}
use Rattle.rules.specs.Get.{visit, stops}
use Rattle.rules.specs.Numbered.{Damage}
use Rattle.rules.proofs.Numbers.{tree_high}
use Rattle.rules.proofs.Lent.{present_rows, start_tree}
use Rattle.rules.proofs.Below.{turn_asked}
use Rattle.rules.proofs.VisitSteps.{visit_free}
use Rattle.rules.proofs.GetSteps.{start_huge, start_low, entry_lent, entry_low, found_block, get_ended, get_none}
use Rattle.visits.proofs.Skips.{skipped, get_turned}
use Rattle.visits.proofs.get.Goals as goal

pub loop-j-init : goal.loop-j-init
loop-j-init c = record {
  start = c.row_huge-start.ensures ∙ start_huge c.args.h.within c.requires.1;
  rows = refl;
  entries = refl;
  passed = first_start _ _;
}

-- ---- the next visit

pub next-requires : goal.next-requires
next-requires c =
    let i = c.loop-j.invariant in
    (omega (arith, i.start, start_low c.args.h.within c.requires.1), rw (i.start, i.entries) (start_tree c.args.h.within c.requires.1), omega (arith, c.requires.0, c.args.h.within.high), i.passed.0)

pub entry_at-x-requires : goal.entry_at-x-requires
entry_at-x-requires c =
    (omega (arith, c.loop-j.invariant.start, start_low c.args.h.within c.requires.1), omega (arith, c.in-Some.ensures.below, tree_high c.args.t.huge c.args.t.within))

pub look-requires : goal.look-requires
look-requires c =
    let i = c.loop-j.invariant in
    let x_is = rw i.start at c.entry_at-x.ensures in
    (c.requires.0, c.requires.1.sized.most, rw (i.entries, x_is) (entry_lent c.args.h.within c.requires.1 c.in-Some.j), rw x_is (entry_low c.args.h.within c.requires.1 c.in-Some.j), λ l. rw i.rows (present_rows c.args.h.within c.requires.1.sized c.entry_at-x.result l))

-- ---- it answers a block, which is free

pub toggle-requires : goal.toggle-requires
toggle-requires c =
    let i = c.loop-j.invariant in
    let seen = rw (c.in-Ok-Some.field-0-is, i.rows, i.entries) at c.in-Ok-Some.ensures.seen in
    rw i.rows (turn_asked c.args.h.within c.requires.0 (found_block c.args.h.within c.requires.1 (visit_free c.args.h.within _ _ _ _ _ _ _ (sym seen))))

pub lower-requires : goal.lower-requires
lower-requires c =
    let i = c.loop-j.invariant in
    let x_is = rw i.start at c.entry_at-x.ensures in
    let seen = rw (c.in-Ok-Some.field-0-is, i.rows, i.entries) at c.in-Ok-Some.ensures.seen in
    (omega (arith, c.requires.0, c.args.h.within.high), rw (i.entries, x_is) (entry_lent c.args.h.within c.requires.1 c.in-Some.j), rw i.entries ((visit_free c.args.h.within _ _ _ _ _ _ _ (sym seen)).counts))

pub returns-in-Ok-Some : goal.returns-in-Ok-Some
returns-in-Ok-Some c =
    let i = c.loop-j.invariant in
    let at_next = skipped _ _ _ _ _ _ _ _ _ i.passed (simp (i.entries, i.start) at c.in-Some.ensures.place) in
    let x_is = rw i.start at c.entry_at-x.ensures in
    let seen = rw (c.in-Ok-Some.field-0-is, i.rows, i.entries) at c.in-Ok-Some.ensures.seen in
    get_turned _ _ _ _ _ _ _ _ at_next c.in-Some.ensures.below _ x_is seen (visit_free c.args.h.within _ _ _ _ _ _ _ (sym seen)) i.rows i.entries c.toggle.ensures c.lower.ensures

-- ---- it is passed, or damage, or there is none

pub loop-j-smaller : goal.loop-j-smaller
loop-j-smaller c =
    let forward : c.loop-j.from ≤ c.in-Some.j = rw c.in-Some.ensures.place (first_from _ _ _) in
    omega (arith, c.in-Some.ensures.below)

pub loop-j-preserved : goal.loop-j-preserved
loop-j-preserved c =
    let i = c.loop-j.invariant in
    let at_next = skipped _ _ _ _ _ _ _ _ _ i.passed (simp (i.entries, i.start) at c.in-Some.ensures.place) in
    let x_is = rw i.start at c.entry_at-x.ensures in
    let seen = rw (c.in-Ok-None.field-0-is, i.rows, i.entries) at c.in-Ok-None.ensures.seen in
    record {
      start = i.start;
      rows = i.rows;
      entries = i.entries;
      passed = first_more _ _ _ at_next c.in-Some.ensures.below (ap stops (sym (seen ∙ ap (visit _ _ _ _ _) x_is)));
    }

pub returns-in-Err : goal.returns-in-Err
returns-in-Err c =
    let i = c.loop-j.invariant in
    let at_next = skipped _ _ _ _ _ _ _ _ _ i.passed (simp (i.entries, i.start) at c.in-Some.ensures.place) in
    let x_is = rw i.start at c.entry_at-x.ensures in
    let seen = rw (i.rows, i.entries) at c.in-Err.ensures.seen in
    rw (c.in-Err.ensures.damage, i.rows, i.entries) (get_ended _ _ _ _ _ _ _ at_next c.in-Some.ensures.below Damage (seen ∙ ap (visit _ _ _ _ _) x_is) refl)

pub returns : goal.returns
returns c =
    let i = c.loop-j.invariant in
    let at_end = skipped _ _ _ _ _ _ _ _ _ i.passed (simp (i.entries, i.start) at c.in_default.ensures.place) in
    rw (i.rows, i.entries) (get_none _ _ _ _ _ _ _ at_end (omega arith))
