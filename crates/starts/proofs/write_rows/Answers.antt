-- The needed rows hold N frames and more, so that the border's row is one of them, or ends them. Assumes nothing.
use native.Mathlib.Omega.{arith}
use borrow.Author.Rules.{rules}
use mathlib.Core.Path.{◌≡◌}
use Rattle.rules.proofs.Present.{rows_enough}
use Rattle.starts.proofs.Rows.{rows_whole, rows_border}
use Rattle.starts.proofs.write_rows.Goals as goal

-- the border's row is needed, or ends those that are
pub slice_bounds-fill_rows-end : goal.slice_bounds-fill_rows-end
slice_bounds-fill_rows-end c = omega (arith, c.rows_needed-needed.ensures, c.frame_row-border.ensures, rows_enough c.args.h.within c.args.n, c.requires.1)

pub slice_bounds-fill_rows-count-2 : goal.slice_bounds-fill_rows-count-2
slice_bounds-fill_rows-count-2 c = omega (arith, c.rows_needed-needed.ensures, c.frame_row-border.ensures, rows_enough c.args.h.within c.args.n, c.requires.1)

pub slice_bounds-fill_rows-start-2 : goal.slice_bounds-fill_rows-start-2
slice_bounds-fill_rows-start-2 c = omega (arith, c.rows_needed-needed.ensures, c.frame_row-border.ensures, rows_enough c.args.h.within c.args.n, c.requires.1)

pub returns-then-border-needed : goal.returns-then-border-needed
returns-then-border-needed c =
    rows_border c.args.h.within _ _ _ _ c.args.rows.now (λ j. search rules) c.rows_needed-needed.ensures c.frame_row-border.ensures
    (omega (arith, c.rows_needed-needed.ensures)) c.requires.1 c.fill_rows.ensures c.fill_rows-2.ensures (λ e. omega arith) c.frame_bit.ensures

pub returns-else-border-needed : goal.returns-else-border-needed
returns-else-border-needed c =
    let low : c.frame_row-border.result ≡ c.rows_needed-needed.result = omega (arith, c.rows_needed-needed.ensures, c.frame_row-border.ensures, c.if-border-needed.false, rows_enough c.args.h.within c.args.n, c.requires.1) in
    rows_whole c.args.h.within _ _ _ _ c.args.rows.now (λ j. search rules) c.rows_needed-needed.ensures c.frame_row-border.ensures
    (omega (arith, c.rows_needed-needed.ensures)) c.requires.1 c.fill_rows.ensures c.fill_rows-2.ensures low
