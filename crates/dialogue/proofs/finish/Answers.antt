-- `dialogue::finish` meets its contract: a last line, or none. Assumes nothing.
use Rattle.std.proofs.Common.{◌∙◌, ap, length-take, arith}
use Rattle.base.specs.Size.{huge_order}
use Rattle.asks.specs.Turn.{answered}
use Rattle.dialogue.proofs.Laws.{finish_none, finish_last}
use Rattle.dialogue.proofs.finish.Goals as goal

pub returns-then-kept-eq0 : goal.returns-then-kept-eq0
returns-then-kept-eq0 c = let a = c.args in finish_none _ _ _ _ (omega (arith, length-take a.state.kept a.line.now, c.if-kept-eq0.true))

pub returns : goal.returns
returns c =
    let a = c.args in
    finish_last _ _ _ _ (λ e. omega (arith, length-take a.state.kept a.line.now, c.requires.kept, c.requires.room, c.if-kept-eq0.false))
    (c.take-turn.ensures ∙ ap (answered huge_order _ _ _) c.read.ensures)
