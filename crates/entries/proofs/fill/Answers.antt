-- A turn writes one entry more of the run.
use Rattle.std.proofs.Common.{◌≡◌, ◌+◌, ◌-◌, ◌≤◌, List, ℕ, set, ap, ◌∙◌, arith}
use native.Mathlib.Nat.{add-zero}
use Rattle.base.specs.Walk.{written}
use Rattle.base.proofs.Written.{written_more}
use Rattle.entries.proofs.fill.Goals as goal

-- the run is written up to i, and then i itself
one_more : (v : ℕ) (es : List ℕ) (at i : ℕ) → at ≤ i → set (written (λ _. v) es at (i - at)) i v ≡ written (λ _. v) es at (i + 1 - at)
one_more v es at i h =
    let here : at + (i - at) ≡ i = omega arith in
    let next : i - at + 1 ≡ i + 1 - at = omega arith in
    rw (here, next) at (written_more (λ _. v) es at (i - at))

nothing : (v : ℕ) (es : List ℕ) (at : ℕ) → es ≡ written (λ _. v) es at (at - at)
unfolding written
nothing v es at = let z : at - at ≡ 0 = omega arith in rw z

pub returns-then-g-eq1 : goal.returns-then-g-eq1
unfolding written
returns-then-g-eq1 c = rw (c.if-g-eq1.true, add-zero)

pub loop-i-init : goal.loop-i-init
loop-i-init c = nothing c.args.v c.args.entries.now c.args.at

pub loop-i-preserved : goal.loop-i-preserved
loop-i-preserved c =
    let s = c.args in
    ap (λ (l : List ℕ). set l c.loop-i.i s.v) c.loop-i.invariant ∙ one_more s.v s.entries.now s.at c.loop-i.i (omega arith)

pub returns : goal.returns
returns c =
    let s = c.args in
    let all : c.loop-i.i - s.at ≡ s.g = omega arith in
    c.loop-i.invariant ∙ ap (written (λ j. s.v) s.entries.now s.at) all
