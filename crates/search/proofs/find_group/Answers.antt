-- One mask leads to the group that the search visits next.
use Rattle.std.proofs.Common.{◌≡◌, ℕ, ◌+◌, ◌-◌, ◌*◌, ◌^◌, ◌<◌, ◌≤◌, zero-le, List, Bool, false, length, sym, ap, ◌∙◌, mod-eq_of_lt, arith, pow_pos, below_more}
use native.Mathlib.Nat.{lt_of_mul-lt-mul_right, le_of_mul-le-mul_right}
use lib.Bits.{bit_and}
use lib.Pow.{pow_mono}
use Rattle.base.specs.Size.{rows_per}
use Rattle.base.specs.Bits.{block_is}
use Rattle.base.proofs.Sizes.{rows_frames}
use Rattle.bitfield_rules.proofs.Order.{visited_aligned, visited_ends}
use Rattle.bitfield_rules.proofs.Search.{clear_at, NoneOf, answer_found, answer_missed, all_groups, group_at}
use Rattle.bitfield_rules.specs.Calls.{placed, group_rows, visited, first_zeros}
use Rattle.search.proofs.find_group.Goals as goal
use Rattle.search.proofs.find_group.Goals.{In-loop-row}

pub loop-row-init : goal.loop-row-init
loop-row-init c = record { groups = 0; at = omega arith; most = zero-le; none = λ j l. absurd (omega arith) }

-- a group has no more rows than there are
pub overflow_sub-place : goal.overflow_sub-place
overflow_sub-place c =
    let l : c.args.order - 6 ≤ c.args.h.order - 6 = omega arith in
    omega (arith, c.size-group.ensures, c.rows-count.ensures, pow_mono l)

-- the mask leads to the group that the search visits next
place_at : (c : In-loop-row) → let a = c.args in
    visited a.h.order a.start a.order c.loop-row.invariant.groups ≡ bit_and c.loop-row.row (c.rows-count.result - c.size-group.result) * 64
place_at c =
    let a = c.args in
    group_at a.h.order a.order c.requires.2 c.requires.3 a.start c.loop-row.invariant.groups c.loop-row.row c.rows-count.ensures
    c.size-group.ensures (rw (mod-eq_of_lt c.requires.1) c.loop-row.invariant.at)

pub block_is-requires : goal.block_is-requires
block_is-requires c =
    let a = c.args in
    rw (← place_at (goal.at.block_is-requires c).In-loop-row)
    (record {
      order = omega (arith, c.args.h.within.high);
      ends = omega (arith, visited_ends c.args.h.within a.start a.order c.requires.3 c.loop-row.invariant.groups, rows_frames c.args.h.within);
      aligned = visited_aligned c.args.h.within a.start a.order c.requires.3 c.loop-row.invariant.groups;
    })

-- whether it is clear is what was asked
answer : (c : In-loop-row) {yes : Bool} → let a = c.args in
    yes ≡ block_is false a.rows.now (bit_and c.loop-row.row (c.rows-count.result - c.size-group.result) * 64) (2 ^ a.order)
    → clear_at a.h.order a.rows.now a.start a.order c.loop-row.invariant.groups ≡ yes
answer c e = ap (λ (p : ℕ). block_is false c.args.rows.now p (2 ^ c.args.order)) (place_at c) ∙ sym e

-- there is still a group to visit
inside : (c : In-loop-row) → let a = c.args in c.loop-row.invariant.groups < 2 ^ (a.h.order - a.order)
inside c =
    let a = c.args in
    lt_of_mul-lt-mul_right (group_rows a.order)
    (omega (arith, c.loop-row-test.true, c.loop-row.invariant.at, c.rows-count.ensures, all_groups a.h.order a.order c.requires.2 c.requires.3))

pub returns-then-block_is : goal.returns-then-block_is
returns-then-block_is c =
    let a = c.args in
    let k = goal.at.returns-then-block_is c in
    ap (placed 0) (sym (place_at k.In-loop-row))
    ∙ answer_found a.h.order a.rows.now a.start a.order c.requires.0 c.requires.3 c.loop-row.invariant.groups (inside k.In-loop-row) c.loop-row.invariant.none (answer k.In-loop-row c.block_is.ensures ∙ c.if-block_is.true)

pub loop-row-preserved : goal.loop-row-preserved
loop-row-preserved c =
    let k = goal.at.loop-row-preserved c in
    let inv = c.loop-row.invariant in
    record {
      groups = inv.groups + 1;
      at = omega (arith, inv.at, c.size-group.ensures);
      most = omega (arith, inside k.In-loop-row);
      none = below_more _ _ inv.none (answer k.In-loop-row c.block_is.ensures ∙ c.if-block_is.false);
    }

-- where as many groups are passed as there are, none is clear
missed : (h : ℕ) (rows : List ℕ) (start o : ℕ) → length rows ≡ rows_per h → 6 < o → o ≤ h → (k : ℕ) → k ≤ 2 ^ (h - o) → rows_per h ≤ k * group_rows o
    → NoneOf h rows start o k → placed 7 0 ≡ first_zeros h rows start o
missed h rows start o long l6 lh k most end none =
    let all : 2 ^ (h - o) * group_rows o ≤ k * group_rows o = omega (arith, all_groups h o l6 lh) in
    let e : k ≡ 2 ^ (h - o) = omega (arith, le_of_mul-le-mul_right all (pow_pos (o - 6))) in
    answer_missed h rows start o long lh (rw e at none)

pub returns : goal.returns
returns c =
    let a = c.args in
    let inv = c.loop-row.invariant in
    missed a.h.order a.rows.now a.start a.order c.requires.0 c.requires.2 c.requires.3 inv.groups inv.most (omega (arith, c.loop-row-test.false, inv.at, c.rows-count.ensures)) inv.none
