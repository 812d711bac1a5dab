-- The sum of the rows' clear bits is the count of them.
use Rattle.std.proofs.Common.{ℕ, false, ◌-◌, ◌*◌, ◌^◌, ◌<◌, ◌∙◌, length, rules, tests, arith}
use Rattle.std.specs.List.{sum_by}
use Rattle.std.proofs.lemmas.Iterator.{YieldsList-from_slice, YieldsList-from_map}
use Rattle.std.proofs.lemmas.Iterator.Consumers.{YieldsList-at, sum_by_from_yields_List, fits_by_from_yields_list}
use lib.Count.{ones}
use Rattle.base.specs.Bits.{bit_is}
use Rattle.base.proofs.Walks.{count_le}
use Rattle.bits.proofs.Items.{zeros_items}
use Rattle.bits.proofs.zeros.Goals as goal

abbrev zeros_of : ℕ → ℕ
zeros_of v = ones (2 ^ 64 - 1 - v)

pub sum-requires-clause-fits : goal.sum-requires-clause-fits
sum-requires-clause-fits c =
    let rows = c.args.rows.now in
    let few : sum_by zeros_of rows < 2 ^ 64 =
    omega (arith, zeros_items rows (λ j. (c.type_inv.rows j).fits), count_le (bit_is false rows) (length rows * 64) 0) in
    fits_by_from_yields_list zeros_of rows c.map.result (2 ^ 64)
    (YieldsList-from_map _ zeros_of (YieldsList-at c.map.ensures.source (YieldsList-from_slice rows cc)) c.map.ensures.closure (λ x r q k. search (rules, tests))) few

pub returns : goal.returns
returns c =
    let rows = c.args.rows.now in
    sum_by_from_yields_List zeros_of rows c.map.result _ c.sum.ensures.ran
    (YieldsList-from_map _ zeros_of (YieldsList-at c.map.ensures.source (YieldsList-from_slice rows cc)) c.map.ensures.closure (λ x r q k. search (rules, tests)))
    ∙ zeros_items rows (λ j. (c.type_inv.rows j).fits)
