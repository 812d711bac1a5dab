-- What a start leaves: a law for each way out of the code. Assumes nothing.
use mathlib.Core.Path.{◌≡◌, ap}
use Prim.Native.Nat.{ℕ}
use borrow.Author.Tests.{eq-eqb, ne_eqb}
use Rattle.base.specs.Code.{out}
use Rattle.rules.specs.declared.Init.{Init}
use Rattle.rules.specs.State.{Mem}
use Rattle.lines.specs.declared.Answer.{Answer}
use Rattle.asks.specs.Turn.{of_code, turn, filled, started}

-- the same answer beside the same N and T
pub keeps : (n t : ℕ) {a b : Answer} {left : Mem} → a ≡ b → out (turn n t a) left ≡ out (turn n t b) left
keeps n t {a} {b} {left} e = ap (λ (b : Answer). out (turn n t b) left) e

-- a start that is made, and one that is refused
module _ (h n t : ℕ) (m : Mem) (frames tree : ℕ) (init : Init) {code : ℕ} {left : Mem} {p : Answer} (left_is : out code left ≡ filled h frames tree init m) where
  pub start_made : code ≡ 0 → p ≡ of_code 0 → out (turn frames tree p) left ≡ started h n t m frames tree init
  unfolding started
  start_made q e = rw (← left_is, eq-eqb code 0 q) (keeps frames tree e)

  pub start_refused : (code ≡ 0 → ⊥) → p ≡ of_code code → out (turn n t p) left ≡ started h n t m frames tree init
  unfolding started
  start_refused q e = rw (← left_is, ne_eqb code 0 q) (keeps n t e)
