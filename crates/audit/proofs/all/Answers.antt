-- The first huge frame with a flaw is the answer. Assumes nothing.
use Rattle.std.proofs.Common.{arith, rules}
use Rattle.std.proofs.lemmas.Grind.{common_steps}
use Rattle.rules.specs.State.{mem}
use Rattle.audit.proofs.Cases.{Told, all_told}
use Rattle.audit.proofs.Ranges.{mapped_range}
use Rattle.audit.proofs.all.Goals as goal

pub returns : goal.returns
returns c =
    let m = mem c.args.rows.now c.args.entries.now in
    all_told c.args.h.order c.args.n m c.args.t.huge c.entries_needed.ensures c.find_map.result
    (mapped_range (Told c.args.h.order c.args.n m) (λ x o q k. (search rules, let a : Told c.args.h.order c.args.n m x o = grind (arith, common_steps) in a)) _ c.find_map.result c.find_map.ensures.runs)
