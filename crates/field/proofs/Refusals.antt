-- A call that stores, refused by a check's refusal with the rows as they were. Assumes nothing.
use mathlib.Core.Path.{◌≡◌, sym, ◌∙◌}
use Prim.Native.Nat.{ℕ}
use Rattle.std.specs.Prelude.{Result, IsErrAnd}
use Rattle.base.specs.declared.Refusal.{Refusal}
use Rattle.base.specs.Code.{out, stored}
use Rattle.base.specs.Refused.{code_of}
use Rattle.base.proofs.Refused.{numbered, handed_on}
use Rattle.base.proofs.Stored.{refused}

pub stored_here : {A S : Type 0} (s after : S) (r : Result A Refusal) (e : Refusal) {c : ℕ} → IsErrAnd r (λ x. x ≡ e) → code_of r ≡ c
    → out (code_of r) s ≡ stored c s after
stored_here s after r e is n = refused s after n (λ z. numbered e (sym (handed_on code_of r e is) ∙ z))
