-- `lines::read` meets its contract: a law for each way out. Assumes nothing.
use Rattle.std.proofs.Common.{◌∙◌, sym}
use Rattle.lines.proofs.Cases.{read_long, read_alone, first_bad, second_bad, two_fields, third, third_bad, third_ends, third_more, third_other}
use Rattle.lines.proofs.read.Goals as goal
use Rattle.lines.proofs.read.Goals.{else-line-eq73-via-then-line-eq73+else-z-line, else-line-eq73-via-else-line-eq73}

pub returns-then-line-gt-LINE_MAX : goal.returns-then-line-gt-LINE_MAX
returns-then-line-gt-LINE_MAX c = read_long _ c.if-line-gt-LINE_MAX.true

pub returns-then-line-eq1 : goal.returns-then-line-eq1
returns-then-line-eq1 c = read_alone _ c.if-line-gt-LINE_MAX.false c.if-line-eq1.true c.line_alone.ensures

pub returns-in_err-x : goal.returns-in_err-x
returns-in_err-x c =
    c.from_residual.ensures ∙ first_bad _ c.if-line-gt-LINE_MAX.false c.if-line-eq1.false (sym c.in_err-x.ensures)

pub returns-in_err-y : goal.returns-in_err-y
returns-in_err-y c =
    c.from_residual-in_err-y.ensures
    ∙ second_bad _ c.if-line-gt-LINE_MAX.false c.if-line-eq1.false _ (sym c.in_ok-x.ensures) (sym c.in_err-y.ensures)

pub returns-then-y-line : goal.returns-then-y-line
returns-then-y-line c =
    two_fields _ c.if-line-gt-LINE_MAX.false c.if-line-eq1.false _ (sym c.in_ok-x.ensures) _ (sym c.in_ok-y.ensures) c.if-y-line.true c.line_two.ensures

pub returns-in_err-z : goal.returns-in_err-z
returns-in_err-z c =
    c.from_residual-in_err-z.ensures
    ∙ third _ c.if-line-gt-LINE_MAX.false c.if-line-eq1.false _ (sym c.in_ok-x.ensures) _ (sym c.in_ok-y.ensures) c.if-y-line.false
    (third_bad _ _ _ (sym c.in_err-z.ensures))

pub returns-then-z-line : goal.returns-then-z-line
returns-then-z-line c =
    third _ c.if-line-gt-LINE_MAX.false c.if-line-eq1.false _ (sym c.in_ok-x.ensures) _ (sym c.in_ok-y.ensures) c.if-y-line.false
    (third_ends _ _ _ _ (sym c.in_ok-z.ensures) c.if-z-line.true (rw c.if-line-eq73.true c.line_start.ensures))

pub returns-else-line-eq73 : goal.returns-else-line-eq73
returns-else-line-eq73 c =
    third _ c.if-line-gt-LINE_MAX.false c.if-line-eq1.false _ (sym c.in_ok-x.ensures) _ (sym c.in_ok-y.ensures) c.if-y-line.false
    (elim c.else-line-eq73.branch [
      | else-line-eq73-via-then-line-eq73+else-z-line w ↦ third_more _ _ _ _ (sym c.in_ok-z.ensures) w.if-z-line.false
      | else-line-eq73-via-else-line-eq73 w ↦ third_other _ _ _ _ (sym c.in_ok-z.ensures) w.if-line-eq73.false
    ])
