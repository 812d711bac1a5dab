-- Each tree ends within those of the k trees, and one that is free whole is one more. Assumes nothing.
use Rattle.std.proofs.Common.{◌+◌, ◌*◌, ◌≤◌, ◌∙◌, sym, arith}
use Rattle.std.proofs.Math.Nat.{mul-le-mul_right}
use borrow.Author.Tests.{eq-eqb, ne_eqb}
use Rattle.base.proofs.Walks.{count_start, count_hit, count_miss, count_end}
use Rattle.rules.proofs.Entries.{frames_in}
use Rattle.stats.proofs.free_trees.Goals as goal
use Rattle.stats.proofs.free_trees.Goals.{then-blocks-frames, else-blocks-frames}

pub loop-y-init : goal.loop-y-init
loop-y-init c = count_start

pub overflow_mul-y : goal.overflow_mul-y
overflow_mul-y c =
    let ends : (c.loop-y.y + 1) * c.args.t ≤ c.args.k * c.args.t = mul-le-mul_right c.args.t (omega (arith, c.loop-y-test.true)) in
    omega (arith, ends, c.requires.0)

pub blocks-requires : goal.blocks-requires
blocks-requires c =
    let ends : (c.loop-y.y + 1) * c.args.t ≤ c.args.k * c.args.t = mul-le-mul_right c.args.t (omega (arith, c.loop-y-test.true)) in
    (omega (arith, ends, c.requires.0), omega (arith, c.requires.1), omega arith)

pub loop-y-preserved : goal.loop-y-preserved
loop-y-preserved c =
    let s = c.args in
    let e = c.blocks-in-loop-y.ensures ∙ frames_in s.entries.now s.t (c.loop-y.y * s.t) in
    elim c.if-blocks-frames.branch [
      | then-blocks-frames w ↦ rw w.sum-is (count_hit c.loop-y.invariant c.loop-y-test.true (eq-eqb _ _ (sym e ∙ w.if-blocks-frames.true)))
      | else-blocks-frames w ↦ rw w.sum-is (count_miss c.loop-y.invariant c.loop-y-test.true (ne_eqb _ _ (λ z. w.if-blocks-frames.false (e ∙ z))))
    ]

pub returns : goal.returns
returns c = count_end c.loop-y.invariant c.loop-y-test.false
