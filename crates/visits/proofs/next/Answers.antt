-- What the test says of each entry is whether it is eligible. Assumes nothing.
use mathlib.Core.Path.{◌≡◌, sym, ◌∙◌, ap₂}
use Prim.Native.Nat.{ℕ}
use native.Mathlib.Omega.{arith}
use lib.Dec.{leb}
use Rattle.base.proofs.Walks.{from_found, from_more, from_none}
use Rattle.rules.specs.State.{entry_of, free_of}
use Rattle.rules.proofs.Numbers.{tree_high}
use Rattle.visits.proofs.next.Goals as goal

pub entry_at-requires : goal.entry_at-requires
entry_at-requires c = (c.requires.0, omega (arith, c.loop-i-test.true, tree_high c.args.t.huge c.args.t.within))

pub returns-then-counts-clause-place : goal.returns-then-counts-clause-place
returns-then-counts-clause-place c =
    let a = c.args in
    let tells = c.counts.ensures ∙ ap₂ (λ (z x : ℕ). leb z (free_of (entry_of a.entries.now x))) c.size-size.ensures c.entry_at.ensures in
    from_found _ _ _ _ c.loop-i.invariant c.loop-i-test.true (sym tells ∙ c.if-counts.true)

pub loop-i-preserved : goal.loop-i-preserved
loop-i-preserved c =
    let a = c.args in
    let tells = c.counts.ensures ∙ ap₂ (λ (z x : ℕ). leb z (free_of (entry_of a.entries.now x))) c.size-size.ensures c.entry_at.ensures in
    from_more _ _ _ _ c.loop-i.invariant c.loop-i-test.true (sym tells ∙ c.if-counts.false)

pub returns-clause-place : goal.returns-clause-place
returns-clause-place c =
    let e : c.args.t.huge ≡ c.loop-i.i = omega (arith, c.loop-i-test.false, c.loop-i.auto.i-end, c.requires) in
    e ∙ from_none _ _ _ _ c.loop-i.invariant c.loop-i-test.false
