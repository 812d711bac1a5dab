-- Of the places of the rows that are passed none is clear.
use Rattle.std.proofs.Common.{◌-◌, ◌*◌, ◌^◌}
use Rattle.bitfield_rules.proofs.Search.{NoneOf}
use Rattle.search.proofs.find_in_rows.Given as goal

abbrev pub invariant-loop-passed : goal.invariant-loop-passed
invariant-loop-passed l = NoneOf l.fn.h.order l.rows l.start l.order (l.passed * 2 ^ (6 - l.order))
