-- The bits of a huge frame's rows are its frames.
use Rattle.std.proofs.Common.{sym, ap, ◌∙◌, arith, eq-eqb}
use Rattle.base.proofs.Refused.{handed_on, refused_here}
use Rattle.base.proofs.Sizes.{frames_fit}
use Rattle.bitfield_rules.specs.Calls as spec
use Rattle.bitfield_rules.proofs.Laws.{rows_bits}
use Rattle.field.proofs.count_zeros.Goals as goal

pub returns-in_err-rows : goal.returns-in_err-rows
unfolding spec.count_zeros
returns-in_err-rows c =
    let e = c.in_err-rows.field-0.0 in
    handed_on spec.count_of c.from_residual.result e c.from_residual.ensures.1 ∙ refused_here _ (λ k. spec.zero_count k 0) e c.in_err-rows.ensures

pub zeros-requires : goal.zeros-requires
zeros-requires c = omega (arith, rows_bits c.args.h.within _ (sym c.in_ok-rows.ensures), frames_fit c.args.h.within)

pub returns : goal.returns
unfolding spec.count_zeros
returns c =
    let code = sym c.in_ok-rows.ensures in
    rw (eq-eqb _ 0 code, ← rows_bits c.args.h.within _ code) (ap (spec.zero_count 0) c.zeros.ensures)
