-- Each part that was read is passed on whole, and the answers to it are written behind those before.
use Rattle.std.proofs.Common.{arith}
use Rattle.std.proofs.lemmas.Result.{on_ok_weaker}
use Rattle.dialogue.specs.Feeds.{held}
use Rattle.trace.proofs.Parts.{follows_first, follows_on, follows_kept, follows_end}
use Rattle.trace.proofs.run.Goals as goal

pub loop-init : goal.loop-init
loop-init g c =
    record { kept = omega arith; follows = follows_first (g.R.Read.remaining c.args.input.now) (g.W.Write.contents c.args.output.now) }

pub returns-in_default-clause-unread : goal.returns-in_default-clause-unread
returns-in_default-clause-unread g c = λ _. follows_kept _ _ _ _ _ c.loop.invariant.follows _ c.in_default.ensures.bytes

pub returns-then-count-eq0-clause-whole : goal.returns-then-count-eq0-clause-whole
returns-then-count-eq0-clause-whole g c =
    let none = rw c.if-count-eq0.true at c.in-Ok.ensures.bytes.0 in
    let done = c.in-Ok.ensures.bytes.1 c.if-count-eq0.true (omega arith) in
    on_ok_weaker c.finish.result (λ w. follows_end _ _ _ _ _ c.loop.invariant.follows _ _ none done w) c.finish.ensures.writes

pub loop-preserved : goal.loop-preserved
loop-preserved g c =
    let p = c.in_ok-state in
    let n = c.pass.new in
    record {
      kept = p.ensures.passes.kept;
      follows = follows_on _ _ _ _ _ c.loop.invariant.follows _ _ _ (held p.state n.rows n.entries n.line) c.in-Ok.ensures.bytes.0 p.ensures.passes.leaves
          p.ensures.writes;
    }
