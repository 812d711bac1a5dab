-- A get, and a put of what it took: what a get would answer now.
use Rattle.std.specs.Prelude.{◌≡◌, ℕ, eqb}
use Rattle.base.specs.Walk.{pick}
use Rattle.base.specs.Code.{Out, out}
use Rattle.base.specs.Size.{huge_order}
use Rattle.rules.specs.Numbered.{Got}
use Rattle.rules.specs.State.{Mem}
use Rattle.rules.specs.Calls.{get, put}
use Rattle.rules.specs.Consistent.{Consistent}

-- the answer of the get; what a put of its block leaves after it, or a get that is refused
unfoldable pub peek : ℕ → ℕ → ℕ → Mem → ℕ → ℕ → Out Got Mem
peek h n t m row o =
    let g = get h n t m row o in
    out g.answer (pick (eqb g.answer.code 0) (put h n t g.left g.answer.frame o).left m)

-- on any memory it answers and leaves just that; a consistent state it leaves as it was
pub record Peeked (n t : ℕ) (m : Mem) (row o : ℕ) (answer : Got) (left : Mem) : Type 0 where
  pub exact : out answer left ≡ peek huge_order n t m row o
  pub no_trace : Consistent huge_order n t m → left ≡ m
