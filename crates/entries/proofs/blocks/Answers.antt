-- The sum over the part is that over its indices, each of whose terms is at most the mark.
use Rattle.std.proofs.Common.{◌≡◌, ℕ, ◌+◌, ◌-◌, ◌/◌, ◌^◌, ◌≤◌, ◌<◌, ◌∙◌, get_or, take, drop, rules, tests, arith}
use native.Mathlib.Nat.{add-sub_cancel_left, div-le_self}
use Rattle.std.specs.List.{sum_by}
use Rattle.std.proofs.lemmas.Iterator.{YieldsList-from_slice, YieldsList-from_map}
use Rattle.std.proofs.lemmas.Iterator.Consumers.{YieldsList-at, sum_by_from_yields_List, fits_by_from_yields_list}
use Rattle.base.proofs.Sums.{sum_most}
use Rattle.bits.proofs.Items.{sum_part}
use Rattle.rules.specs.Numbers.{mark}
use Rattle.rules.specs.State.{free_of}
use Rattle.rules.proofs.Entries.{free_most}
use Rattle.entries.proofs.blocks.Goals as goal

-- the blocks of order o in an entry
abbrev blocks_of : ℕ → ℕ → ℕ
blocks_of o e = free_of e / 2 ^ o

blocks_most : (o e : ℕ) → e < 65536 → blocks_of o e ≤ mark
blocks_most o e l = omega (arith, free_most e l, div-le_self (free_of e) (2 ^ o))

pub sum-requires-clause-fits : goal.sum-requires-clause-fits
sum-requires-clause-fits c =
    let s = c.args in
    let es = s.entries.now in
    let n : s.at + s.k - s.at ≡ s.k = add-sub_cancel_left s.at s.k in
    let part = take (s.at + s.k - s.at) (drop s.at es) in
    let few : sum_by (blocks_of s.order) part < 2 ^ 32 =
    rw n (omega (arith, sum_part es s.at s.k c.requires.0 (blocks_of s.order), sum_most (λ i. blocks_of s.order (get_or es i 0)) mark (λ j. blocks_most s.order (get_or es j 0) (c.type_inv.entries j).fits) s.k s.at)) in
    fits_by_from_yields_list (blocks_of s.order) part c.map.result (2 ^ 32)
    (YieldsList-from_map _ (blocks_of s.order) (YieldsList-at c.map.ensures.source (YieldsList-from_slice part c.iter.ensures.rest)) c.map.ensures.closure (λ x r q k. search (rules, tests))) few

pub returns : goal.returns
returns c =
    let s = c.args in
    let n : s.at + s.k - s.at ≡ s.k = add-sub_cancel_left s.at s.k in
    let part = take (s.at + s.k - s.at) (drop s.at s.entries.now) in
    sum_by_from_yields_List (blocks_of s.order) part c.map.result _ c.sum.ensures.ran
    (YieldsList-from_map _ (blocks_of s.order) (YieldsList-at c.map.ensures.source (YieldsList-from_slice part c.iter.ensures.rest)) c.map.ensures.closure (λ x r q k. search (rules, tests)))
    ∙ rw n (sum_part s.entries.now s.at s.k c.requires.0 (blocks_of s.order))
