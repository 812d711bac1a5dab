use Rattle.std.proofs.Common.{◌*◌}
use lib.Dec.{lit<}
use native.Mathlib.Nat.{mul-div_cancel}
use Rattle.rules.proofs.Numbers.{huge_of_row}
use Rattle.shape.proofs.row_huge.Goals as goal

pub returns : goal.returns
returns c = rw (huge_of_row (c.args.row * 64) c.args.h.within, mul-div_cancel c.args.row (lit< tt))
