-- The rows of a huge frame are as many as the count asks for.
use Rattle.std.proofs.Common.{◌≡◌, ◌-◌, Ok, ap, arith}
use Rattle.std.specs.Result.{is_ok}
use Rattle.base.specs.Size.{rows_per}
use Rattle.rules.specs.State.{clear_of}
use Rattle.part.proofs.Counts.{counted}
use Rattle.part.proofs.zeros.Goals as goal
use Rattle.part.proofs.zeros.Goals.{After-count_zeros}

counts : (c : After-count_zeros) → c.count_zeros.result ≡ Ok (clear_of c.args.h.order c.args.rows.now c.args.x)
counts c =
    let a = c.args in
    let long : c.rows_at.result.end - c.rows_at.result.start ≡ rows_per a.h.order = omega (arith, c.rows_at.ensures.first, c.rows_at.ensures.past) in
    counted c.args.h.within a.rows.now a.x c.requires _ (rw (long, c.rows_at.ensures.first) at c.count_zeros.ensures)

pub unwrap-requires : goal.unwrap-requires
unwrap-requires c = ap is_ok (counts (goal.at.unwrap-requires c).After-count_zeros)

pub returns : goal.returns
returns c = let e = counts (goal.at.returns c).After-count_zeros in cc
