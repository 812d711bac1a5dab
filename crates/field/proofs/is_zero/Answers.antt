-- A block that passes its checks lies in the rows.
use Rattle.std.proofs.Common.{false, sym, ap, ◌∙◌, eq-eqb}
use Rattle.base.proofs.Refused.{handed_on, refused_here}
use Rattle.bitfield_rules.specs.Calls as spec
use Rattle.bitfield_rules.proofs.Laws.{within, in_rows}
use Rattle.field.proofs.is_zero.Goals as goal

pub returns-in_err-block : goal.returns-in_err-block
unfolding spec.is_zero
returns-in_err-block c =
    let e = c.in_err-block.field-0.0 in
    handed_on spec.answered_of c.from_residual.result e c.from_residual.ensures.1 ∙ refused_here _ (λ k. spec.answered k false) e c.in_err-block.ensures

pub block_is-requires : goal.block_is-requires
block_is-requires c = in_rows c.args.h.within (within _ _ _ _ (sym c.in_ok-block.ensures))

pub returns : goal.returns
unfolding spec.is_zero
returns c = rw (eq-eqb _ 0 (sym c.in_ok-block.ensures)) (ap (spec.answered 0) c.block_is.ensures)
