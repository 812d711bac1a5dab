-- 0 and 0 where it is refused, or where the frame's tree begins and T. Assumes nothing.
use mathlib.Core.Path.{sym, ap, ap₂, ◌∙◌}
use native.Mathlib.Omega.{arith}
use lib.ListN.{length}
use Rattle.base.specs.Size.{Huge, huge_order}
use Rattle.base.proofs.Codes.{answered}
use Rattle.base.proofs.Refused.{numbered, refused_here}
use Rattle.rules.specs.State.{mem, lengths_of}
use Rattle.rules.proofs.Lent.{framed}
use Rattle.ravelbeam.specs.Run.{run, tree_run}
use Rattle.ravelbeam.proofs.Runs.{run_refused, run_long}
use Rattle.ravelbeam.proofs.rb_tree_run.Goals as goal

nine : Huge huge_order
nine = record { low = omega arith; high = omega arith }

pub returns-in-Ok : goal.returns-in-Ok
unfolding tree_run
returns-in-Ok c =
    let s = c.args in
    let m = mem s.rows.now s.entries.now in
    let passed = sym c.in-Ok.ensures in
    answered _ _ passed
    (ap₂ (run 0) (c.first_entry.ensures (framed huge_order s.n s.t (lengths_of m) s.frame passed).sized.tree) (ap length c.tree_run-run.ensures ∙ run_long nine s.n s.t m s.frame passed))

pub returns-in-Err : goal.returns-in-Err
unfolding tree_run
returns-in-Err c =
    let s = c.args in
    let m = mem s.rows.now s.entries.now in
    let code = c.in-Err.ensures in
    rw c.number.ensures
    (ap (run _ 0) (ap length c.tree_run-run.ensures ∙ run_refused huge_order s.n s.t m s.frame (λ e. numbered c.in-Err.refusal (code ∙ e)))
    ∙ refused_here _ (λ r. run r 0 0) c.in-Err.refusal code)
