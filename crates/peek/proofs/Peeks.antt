-- A get, and a put of what it took: what it answers and leaves, whether the get is done or refused. Assumes nothing.
use mathlib.Core.Path.{◌≡◌, sym, ap, ◌∙◌}
use Prim.Native.Nat.{ℕ}
use native.Mathlib.Omega.{arith}
use borrow.Author.Tests.{eq-eqb, ne_eqb}
use Rattle.base.specs.Code.{Out, out}
use Rattle.base.specs.Size.{Huge, huge_order}
use Rattle.rules.specs.Numbered.{Got}
use Rattle.rules.specs.State.{Mem}
use Rattle.rules.specs.Calls.{get, put}
use Rattle.rules.specs.Call.{RowCall, Call, called}
use Rattle.rules.proofs.Returns.{put_back}
use Rattle.rules.proofs.Theorems.{calls_keep}
use Rattle.peek.specs.Peek.{peek, Peeked}

nine : Huge huge_order
nine = record { low = omega arith; high = omega arith }

module _ (n t : ℕ) (m : Mem) (row o : ℕ) (r : Got) (between : Mem) (gets : out r between ≡ get huge_order n t m row o) where
  -- the get is done, and so is the put: no trace is left, by the theorem of what was borrowed and returned
  pub peek_done : r.code ≡ 0 → (k : ℕ) (left : Mem) → out k left ≡ put huge_order n t between r.frame o → Peeked n t m row o r left
  unfolding peek
  peek_done z k left puts = record {
    exact = rw (← gets, eq-eqb r.code 0 z) (ap (λ (x : Out ℕ Mem). out r x.left) puts);
    no_trace = λ c.
        ap (λ (x : Out ℕ Mem). x.left) puts ∙ ap (λ (x : Out Got Mem). (put huge_order n t x.left x.answer.frame o).left) gets
        ∙ put_back nine c row o (ap (λ (x : Out Got Mem). x.answer.code) (sym gets) ∙ z);
  }

  -- it is refused, and has written nothing
  pub peek_refused : (r.code ≡ 0 → ⊥) → Peeked n t m row o r between
  unfolding peek called
  peek_refused z =
      let kept : between ≡ m =
      ap (λ (x : Out Got Mem). x.left) gets ∙ ((calls_keep huge_order n t m nine).0 (Call.OnRow RowCall.Get row o)).0.refused (λ q. z (ap (λ (x : Out Got Mem). x.answer.code) gets ∙ q)) in
      record { exact = rw (← gets, ne_eqb r.code 0 z, kept); no_trace = λ _. kept }
