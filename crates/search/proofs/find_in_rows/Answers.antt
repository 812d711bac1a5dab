-- The row that is visited after those passed has its lowest clear place, or is passed too.
use Rattle.std.proofs.Common.{◌≡◌, ℕ, ◌+◌, ◌-◌, ◌*◌, ◌%◌, ◌^◌, get_or, refl, ap, ◌∙◌, subst, arith}
use lib.Bits.{bit_and}
use Rattle.base.specs.Size.{rows_per}
use Rattle.base.specs.Bits.{bits_at}
use Rattle.base.proofs.Sizes.{mask_mod}
use Rattle.row.specs.Row.{lowest}
use Rattle.row.proofs.Laws.{lowest_le, lowest_clear, lowest_least}
use Rattle.bitfield_rules.proofs.Search.{NoneOf, answer_missed, all_places, row_passed, row_found}
use Rattle.search.proofs.find_in_rows.Goals as goal
use Rattle.search.proofs.find_in_rows.Goals.{After-lowest_clear-place}

-- the row that is visited, as the code makes it
visit : After-lowest_clear-place → ℕ
visit c = (c.args.start + c.loop-passed.passed) % rows_per c.args.h.order

masked : (c : After-lowest_clear-place) → bit_and (c.args.start + c.loop-passed.passed) (c.rows-count.result - 1) ≡ visit c
unfolding visit
masked c = mask_mod (c.args.start + c.loop-passed.passed) (c.args.h.order - 6) c.rows-count.ensures

-- what that row has for its lowest place
place_is : (c : After-lowest_clear-place) → c.lowest_clear-place.result ≡ lowest c.args.order (get_or c.args.rows.now (visit c) 0)
place_is c = rw (masked c) at c.lowest_clear-place.ensures

pub returns-then-place-lt64 : goal.returns-then-place-lt64
unfolding visit
returns-then-place-lt64 c =
    let k = (goal.at.returns-then-place-lt64 c).After-lowest_clear-place in
    let a = c.args in
    let p = c.lowest_clear-place.result in
    let v = get_or a.rows.now (visit k) 0 in
    let is : p ≡ lowest a.order v = place_is k in
    let z = lowest_clear a.order v c.requires.2 (omega (arith, c.if-place-lt64.true)) in
    rw (masked k)
    (row_found c.args.h.within a.rows.now a.start a.order c.requires.2 c.loop-passed.passed p c.loop-passed.invariant (omega arith)
    (λ q aligned below. lowest_least a.order v q aligned (omega arith))
    c.requires.0 (omega (arith, c.rows-count.ensures)) c.if-place-lt64.true (ap (λ (x : ℕ). x % 2 ^ a.order) is ∙ z.aligned) (ap (λ (x : ℕ). bits_at v x (2 ^ a.order)) is ∙ z.bits))

pub loop-passed-preserved : goal.loop-passed-preserved
unfolding visit
loop-passed-preserved c =
    let k = (goal.at.loop-passed-preserved c).After-lowest_clear-place in
    let a = c.args in
    let v = get_or a.rows.now (visit k) 0 in
    let full : lowest a.order v ≡ 64 = omega (arith, place_is k, lowest_le a.order v c.requires.2) in
    row_passed c.args.h.within a.rows.now a.start a.order c.requires.2 c.loop-passed.passed 64 c.loop-passed.invariant (omega arith)
    (λ q aligned below. lowest_least a.order v q aligned (omega arith)) refl

pub returns : goal.returns
returns c =
    let a = c.args in
    let n : c.loop-passed.passed ≡ rows_per a.h.order = omega (arith, c.rows-count.ensures) in
    let all : c.loop-passed.passed * 2 ^ (6 - a.order) ≡ 2 ^ (a.h.order - a.order) = ap (λ (x : ℕ). x * 2 ^ (6 - a.order)) n ∙ all_places a.order c.args.h.within c.requires.2 in
    answer_missed a.h.order a.rows.now a.start a.order c.requires.0 (omega (arith, c.args.h.within.low)) (subst (NoneOf a.h.order a.rows.now a.start a.order) all c.loop-passed.invariant)
