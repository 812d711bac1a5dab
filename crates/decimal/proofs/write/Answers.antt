-- `decimal::write` meets its contract: no number has more than twenty digits. Assumes nothing.
use Rattle.std.proofs.Common.{arith}
use Rattle.decimal.proofs.Digits.{places_high}
use Rattle.decimal.proofs.Cases.{wrote}
use Rattle.decimal.proofs.write.Goals as goal

pub store-requires : goal.store-requires
store-requires c = omega (arith, c.places-k.ensures, places_high c.args.n)

pub overflow_add-result : goal.overflow_add-result
overflow_add-result c = omega (arith, c.places-k.ensures, places_high c.args.n)

pub returns-clause-writes : goal.returns-clause-writes
returns-clause-writes c = wrote c.args.text.now c.args.at c.args.n c.places-k.result c.places-k.ensures c.store.ensures

pub returns-clause-ends : goal.returns-clause-ends
returns-clause-ends c = omega (arith, c.places-k.ensures, places_high c.args.n)
