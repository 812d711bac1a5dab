-- `decimal::places` meets its contract: one more than the logarithm, of 1 for 0. Assumes nothing.
use Rattle.decimal.proofs.Digits.{places_log}
use Rattle.decimal.proofs.places.Goals as goal

pub returns : goal.returns
returns c =
    let log = c.ilog10.ensures in
    places_log c.args.n c.max.result c.ilog10.result c.max.ensures log.power_le log.next_power_gt log.bound
