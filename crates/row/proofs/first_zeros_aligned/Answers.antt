-- An order past all that are matched is above 6.
use Rattle.std.proofs.Common.{◌<◌, arith}
use borrow.Author.Tests.{lt-leb}
use Rattle.row.specs.Row.{first_zeros}
use Rattle.row.proofs.first_zeros_aligned.Goals as goal

pub returns-in_default : goal.returns-in_default
unfolding first_zeros
returns-in_default c =
    let high : 6 < c.args.order = omega arith in
    rw (lt-leb c.args.order 6 high)
