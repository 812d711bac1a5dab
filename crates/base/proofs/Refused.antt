-- Refusals by their numbers: what a check that fails, handed on by a `?`, is the answer of. Assumes nothing.
use mathlib.Core.Path.{◌≡◌, sym, ap, ◌∙◌}
use Prim.Native.Nat.{ℕ}
use native.Mathlib.Omega.{arith}
use lib.Dec.{eqb}
use Rattle.std.specs.Prelude.{Result, Ok, Err, IsErrAnd}
use Rattle.base.specs.declared.Refusal.{Refusal}
use Rattle.base.specs.declared.Refusal.TheVariants.{Frames, Tree, Lent, Order, Range, Alignment, Memory, Damage}
use Rattle.base.specs.Walk.{pick}
use Rattle.base.specs.Code.{or_else, Out, out, unrefused}
use Rattle.base.specs.Refused.{number_of, code_of}
use Rattle.base.proofs.Codes.{stops, refuses, refused}

-- no refusal has the number 0
pub numbered : (e : Refusal) → number_of e ≡ 0 → ⊥
numbered Frames z = omega arith
numbered Tree z = omega arith
numbered Lent z = omega arith
numbered Order z = omega arith
numbered Range z = omega arith
numbered Alignment z = omega arith
numbered Memory z = omega arith
numbered Damage z = omega arith

-- what is handed on is the same error, whatever f makes of an answer
pub handed_on : {A E B : Type 0} (f : Result A E → B) (r : Result A E) (e : E) → IsErrAnd r (λ x. x ≡ e) → f r ≡ f (Err e)
handed_on f (Ok a) e is = absurd is
handed_on f (Err x) e is = ap (λ y. f (Err y)) is

-- a check that fails is the answer, whatever is checked after it
pub stops_here : {A : Type 0} (r : Result A Refusal) (e : Refusal) {a : ℕ} (b : ℕ) → IsErrAnd r (λ x. x ≡ e) → number_of e ≡ a → code_of r ≡ or_else a b
stops_here r e b is n = stops b (handed_on code_of r e is ∙ n) (λ z. numbered e (sym (handed_on code_of r e is) ∙ z))

-- and a call that writes is refused with the memory as it was
pub refuses_here : {A S : Type 0} (m : S) (does : Out A S) (word : ℕ → A) (e : Refusal) {c : ℕ} → number_of e ≡ c → out (word (number_of e)) m ≡ unrefused c (word c) m does
refuses_here m does word e n = refuses m does word n (numbered e)

-- one that only reads answers the refusal
pub refused_here : {A : Type 0} (does : A) (word : ℕ → A) (e : Refusal) {c : ℕ} → number_of e ≡ c → word (number_of e) ≡ pick (eqb c 0) does (word c)
refused_here does word e n = refused does word n (numbered e)
