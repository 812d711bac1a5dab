-- Each group ends among the entries of the c groups, and one that is free whole is one more. Assumes nothing.
use Rattle.std.proofs.Common.{◌+◌, ◌*◌, ◌^◌, ◌≤◌, ◌≡◌, ◌∙◌, sym, arith}
use Rattle.std.proofs.Math.Nat.{mul-le-mul_right}
use Rattle.base.proofs.Walks.{count_start, count_hit, count_miss, count_end}
use Rattle.rules.specs.State.{entries_are}
use Rattle.room.proofs.groups.Goals as goal
use Rattle.room.proofs.groups.Goals.{then-are, else-are}

pub loop-j-init : goal.loop-j-init
loop-j-init c = count_start

pub overflow_mul-j : goal.overflow_mul-j
overflow_mul-j c =
    let ends : (c.loop-j.j + 1) * c.args.g ≤ c.args.c * c.args.g = mul-le-mul_right c.args.g (omega (arith, c.loop-j-test.true)) in
    omega (arith, ends, c.requires)

pub are-requires : goal.are-requires
are-requires c =
    let ends : (c.loop-j.j + 1) * c.args.g ≤ c.args.c * c.args.g = mul-le-mul_right c.args.g (omega (arith, c.loop-j-test.true)) in
    omega (arith, ends, c.requires)

pub loop-j-preserved : goal.loop-j-preserved
loop-j-preserved c =
    let s = c.args in
    let here : c.are.result ≡ entries_are (2 ^ s.h.order) s.entries.now (s.at + c.loop-j.j * s.g) s.g =
    rw c.whole-free.ensures at c.are.ensures in
    elim c.if-are.branch [
      | then-are w ↦ rw w.blocks-is (count_hit c.loop-j.invariant c.loop-j-test.true (sym here ∙ w.if-are.true))
      | else-are w ↦ rw w.blocks-is (count_miss c.loop-j.invariant c.loop-j-test.true (sym here ∙ w.if-are.false))
    ]

pub returns : goal.returns
returns c = count_end c.loop-j.invariant c.loop-j-test.false
