-- `decimal::store` meets its contract: one digit more, before those that are stored. Assumes nothing.
use Rattle.std.proofs.Common.{length-set, arith, ◌∙◌}
use Rattle.decimal.proofs.Cases.{store_turn}
use Rattle.decimal.proofs.store.Goals as goal

pub loop-j-preserved : goal.loop-j-preserved
loop-j-preserved c =
    let a = c.loop-j in
    (rw length-set a.invariant.0, store_turn a.text c.args.at a.j a.rest c.loop-j-test.true (omega arith) ∙ a.invariant.1)
