-- Refused with counts that are 0, or the counts filled in. Assumes nothing.
use mathlib.Core.Path.{sym, ap, ◌∙◌}
use Prim.Native.Nat.{ℕ}
use lib.ListN.{length, replicate}
use Rattle.base.specs.Code.{out}
use Rattle.base.specs.Refused.{code_of}
use Rattle.base.proofs.Codes.{answered}
use Rattle.base.proofs.Refused.{handed_on, refused_here}
use Rattle.rules.specs.Room as spec
use Rattle.rules.proofs.Lent.{framed}
use Rattle.staff_h.proofs.room.Goals as goal

pub returns-in_err-t-clause-tells : goal.returns-in_err-t-clause-tells
unfolding spec.room
returns-in_err-t-clause-tells c =
    let none = replicate (spec.orders c.args.h.order) 0 in
    rw c.requires
    (ap (λ (x : ℕ). out x none) (handed_on code_of c.from_residual.result c.in_err-t.field-0.0 c.from_residual.ensures.1)
    ∙ refused_here _ (λ x. out x none) c.in_err-t.field-0.0 c.in_err-t.ensures.code)

pub counts-requires : goal.counts-requires
counts-requires c = ((c.args.n, length c.args.rows.now, rw c.in_ok-t.ensures.size (framed _ _ _ _ _ (sym c.in_ok-t.ensures.code))), c.requires)

pub returns-clause-tells : goal.returns-clause-tells
unfolding spec.room
returns-clause-tells c = answered _ _ (sym c.in_ok-t.ensures.code) (ap (out 0) (rw c.in_ok-t.ensures.size at c.counts.ensures))
