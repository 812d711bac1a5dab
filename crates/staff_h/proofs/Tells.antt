-- One law for each answer of a tool that tells a reason: refused, a tree that is not consistent, or the reason. Assumes nothing.
use mathlib.Core.Path.{◌≡◌, sym, ◌∙◌}
use mathlib.Core.Bool.{Bool, true, false}
use Prim.Native.Nat.{ℕ}
use native.Mathlib.Omega.{arith}
use Rattle.base.specs.Size.{Huge}
use Rattle.base.proofs.Codes.{stops, passes, no_code, its_code, refused, answered}
use Rattle.rules.specs.Numbered.{Why}
use Rattle.rules.specs.Numbers.{tree_of}
use Rattle.rules.specs.State.{Mem, lengths_of}
use Rattle.rules.specs.Refusals.{Framed}
use Rattle.rules.specs.Consistent.{Fits, ConsistentIn}
use Rattle.rules.specs.Why.{why, sound, told}
use Rattle.rules.proofs.Numbers.{tree_pos}
use Rattle.rules.proofs.Needed.{tree_covers}
use Rattle.rules.proofs.Audits.{tree_is_sound}

module _ (w : Why) {refusal code : ℕ} (code_is : code ≡ refusal) where
  pub tells_refusal : (consistent : Bool) → (code ≡ 0 → ⊥) → why code 0 0 ≡ told refusal consistent w
  tells_refusal consistent n = refused w (λ r. why r 0 0) (stops _ code_is n) n

  module _ (z : code ≡ 0) {consistent r : Bool} (r_is : r ≡ consistent) where
    pub tells_damage : r ≡ false → why 8 0 0 ≡ told refusal consistent w
    tells_damage q = refused w (λ r. why r 0 0) (passes code_is z (its_code 8 r_is q)) (λ e. omega arith)

    pub tells_reason : r ≡ true → {x : Why} → x ≡ w → x ≡ told refusal consistent w
    tells_reason q e = answered w _ (sym (passes code_is z (no_code 8 r_is q))) e

-- the tree of a frame below N is consistent if it is found sound
pub sound_consistent : {h n t : ℕ} (m : Mem) {f : ℕ} → Huge h → Fits m → Framed h n t (lengths_of m) f → {r : Bool} → r ≡ sound h n t m (tree_of h t f) → r ≡ true
    → ConsistentIn h n t m (tree_of h t f)
sound_consistent {h} {n} {t} m {f} H fits b {r} r_is q =
    (tree_is_sound h n t m (tree_of h t f) H fits b.sized (tree_covers h n t f (tree_pos t b.sized.tree) b.below)).0 (sym r_is ∙ q)
