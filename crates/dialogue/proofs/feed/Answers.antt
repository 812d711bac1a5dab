-- `dialogue::feed` meets its contract: no line ends in the input, or one does. Assumes nothing.
use Rattle.std.proofs.Common.{◌∙◌, ap, length-take, arith}
use Rattle.base.specs.Size.{huge_order}
use Rattle.asks.specs.Turn.{answered}
use Rattle.dialogue.proofs.Cases.{feed_whole, feed_ended}
use Rattle.dialogue.proofs.feed.Goals as goal

pub returns-in_default : goal.returns-in_default
returns-in_default c =
    let a = c.args in
    record {
      kept = c.keep-kept.ensures.0;
      within = omega arith;
      stops = λ e. omega arith;
      says = feed_whole _ _ _ _ _ a.input.now (omega (arith, length-take a.state.kept a.line.now)) c.in_default.ensures c.keep-kept.ensures.1;
    }

pub returns : goal.returns
returns c =
    let a = c.args in
    record {
      kept = omega arith;
      within = omega (arith, c.in-Some.ensures.1);
      stops = λ e. absurd cc;
      says = feed_ended _ _ _ _ _ a.input.now _ (omega (arith, length-take a.state.kept a.line.now)) c.in-Some.ensures.0 c.keep-kept-2.ensures.1 c.in-Some.ensures.1
          (c.take-turn.ensures ∙ ap (answered huge_order _ _ _) c.read.ensures);
    }
