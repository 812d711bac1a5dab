-- An entry is passed where it counts too few, or has no clear block. Assumes nothing.
use Rattle.std.proofs.Common.{◌∙◌, sym, arith}
use Rattle.std.proofs.Math.Pow.{pow_pos}
use Rattle.why.proofs.Searches.{small_start, small_end, small_few, small_found, small_none}
use Rattle.why.proofs.get_small.Goals as goal
use Rattle.why.proofs.get_small.Goals.{then-size-free+else-is_ok, else-size-free}

pub loop-x-init : goal.loop-x-init
loop-x-init c = small_start _ _ _ _ _

pub first_zeros-requires : goal.first_zeros-requires
first_zeros-requires c =
    c.requires.2 c.loop-x.x c.loop-x.invariant.from (omega (arith, c.loop-x-test.true)) (omega (arith, c.if-size-free.true, c.free.ensures, c.size-size.ensures, pow_pos c.args.order))

pub returns-then-is_ok : goal.returns-then-is_ok
returns-then-is_ok c =
    small_found _ _ _ _ _ _ _ c.loop-x.invariant c.loop-x-test.true c.size-size.ensures c.free.ensures c.if-size-free.true c.first_zeros.result
    c.first_zeros.ensures (sym c.is_ok.ensures.value ∙ c.if-is_ok.true)

pub loop-x-preserved : goal.loop-x-preserved
loop-x-preserved c =
    let l = c.loop-x-test.true in
    elim c.if-size-free.branch [
      | then-size-free+else-is_ok w ↦
          rw w.cause-is
          (small_none _ _ _ _ _ _ _ c.loop-x.invariant l c.size-size.ensures c.free.ensures w.if-size-free.true w.first_zeros.result w.first_zeros.ensures
          (sym w.is_ok.ensures.value ∙ w.if-is_ok.false))
      | else-size-free w ↦ rw w.cause-is (small_few _ _ _ _ _ _ _ c.loop-x.invariant l c.size-size.ensures c.free.ensures w.if-size-free.false)
    ]

pub returns : goal.returns
returns c = small_end _ _ _ _ _ _ _ c.loop-x.invariant c.loop-x-test.false
