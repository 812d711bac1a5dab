-- All rows made solid are all bits written.
use Rattle.std.proofs.Common.{List, ℕ, length, replicate, sym, ap, ◌∙◌}
use Rattle.base.specs.Code.{out}
use Rattle.base.specs.Refused.{code_of}
use Rattle.base.proofs.Refused.{handed_on}
use Rattle.base.proofs.Stored.{done}
use Rattle.bitfield_rules.specs.Calls as spec
use Rattle.bitfield_rules.proofs.Laws.{all_written}
use Rattle.field.proofs.Refusals.{stored_here}
use Rattle.field.proofs.fill.Goals as goal
use Rattle.field.proofs.fill.Goals.{In_ok-rows}

pub returns-in_err-rows : goal.returns-in_err-rows
unfolding spec.fill
returns-in_err-rows c =
    let r = c.from_residual.result in
    let e = c.in_err-rows.field-0.0 in
    stored_here _ _ r e c.from_residual.ensures.1 (handed_on code_of r e c.from_residual.ensures.1 ∙ c.in_err-rows.ensures)

pub returns : goal.returns
unfolding spec.fill
returns c =
    let a = c.args in
    ap (λ (l : List ℕ). out 0 l)
    (c.fill_rows.ensures ∙ ap (replicate (length a.rows.now)) c.solid_row.ensures
    ∙ all_written c.args.h.within a.rows.now a.value (sym c.in_ok-rows.ensures) (λ j. ((goal.at.returns c).In_ok-rows.type_inv.rows j).fits))
    ∙ done _ _ c.in_ok-rows.ensures
