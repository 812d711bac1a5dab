-- A call refused by its checks, or done by the order it is of. Assumes nothing.
use mathlib.Core.Path.{◌≡◌, ap, ◌∙◌}
use Prim.Native.Nat.{ℕ, ◌≤◌, ◌<◌}
use lib.Dec.{ltb}
use borrow.Author.Tests.{lt-ltb, le-ltb}
use Rattle.std.specs.Prelude.{Result, Ok, Err, IsErrAnd}
use Rattle.base.specs.declared.Refusal.{Refusal}
use Rattle.base.specs.Walk.{pick}
use Rattle.base.specs.Code.{Out, out, unrefused}
use Rattle.base.specs.Refused.{number_of, code_of}
use Rattle.base.proofs.Refused.{handed_on, refuses_here}
use Rattle.answers.specs.declared.Taken.{Taken}
use Rattle.answers.specs.declared.Denied.{Denied}
use Rattle.answers.specs.Numbers.{Refuses}
use Rattle.rules.specs.Numbered.{Got}
use Rattle.rules.specs.Get.{got}
use Rattle.rules.specs.Answers.{got_of}

-- a call that writes, refused with the memory as it was
pub put_refused : {A S : Type 0} (m : S) (does : Out ℕ S) (r : Result A Refusal) (e : Refusal) {c : ℕ} → IsErrAnd r (λ x. x ≡ e) → number_of e ≡ c
    → out (code_of r) m ≡ unrefused c c m does
put_refused m does r e is n = ap (λ (x : ℕ). out x m) (handed_on code_of r e is) ∙ refuses_here m does (λ x. x) e n

-- a get, which has visited nothing
denied : (r : Result Taken Denied) (e : Refusal) → IsErrAnd r (Refuses e) → got_of r ≡ got (number_of e) 0 0
denied (Ok a) e is = absurd is
denied (Err d) e is = ap (λ (x : Denied). got_of (Err x)) is

pub get_refused : {S : Type 0} (m : S) (does : Out Got S) (r : Result Taken Denied) (e : Refusal) {c : ℕ} → IsErrAnd r (Refuses e) → number_of e ≡ c
    → out (got_of r) m ≡ unrefused c (got c 0 0) m does
get_refused m does r e is n = ap (λ (x : Got). out x m) (denied r e is) ∙ refuses_here m does (λ x. got x 0 0) e n

-- below the huge order, and from it on
module _ {A : Type 0} {h o : ℕ} (small huge : A) {x : A} where
  pub by_small : o < h → x ≡ small → x ≡ pick (ltb o h) small huge
  by_small l e = rw (lt-ltb o h l) e

  pub by_huge : h ≤ o → x ≡ huge → x ≡ pick (ltb o h) small huge
  by_huge l e = rw (le-ltb o h l) e
