-- What the digits up to here say, which is below 2^64.
use Rattle.std.proofs.Common.{◌≡◌, ◌^◌, ◌<◌, length}
use Rattle.decimal.specs.Decimal.{value_at}
use Rattle.decimal.proofs.read.Given as goal

abbrev pub invariant-loop-c : goal.invariant-loop-c
invariant-loop-c l = (l.len ≡ length l.yielded) × (l.value ≡ value_at l.line l.at l.len) × (l.value < 2 ^ 64)
