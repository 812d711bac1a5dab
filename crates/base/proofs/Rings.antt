-- Places on a ring of k by how far they come behind one of them: no two come equally far. Assumes nothing.
use mathlib.Core.Path.{◌≡◌, sym, ap, ◌∙◌}
use Prim.Native.Nat.{ℕ, ◌+◌, ◌-◌, ◌*◌, ◌/◌, ◌%◌, ◌<◌}
use native.Mathlib.Nat.{add-zero, add_comm, zero-mod, div-add-mod', mod-lt, mul-add-mod_self_right}
use native.Mathlib.Omega.{arith}
use Rattle.base.specs.Ring.{steps_to}
use Rattle.base.proofs.Rests.{mod_sum}

module _ (k s : ℕ) where
  -- how far p comes behind is a matter of its place in the ring alone
  pub steps_rest : (p q : ℕ) → p % k ≡ q % k → steps_to k s p ≡ steps_to k s q
  steps_rest p q e = sym (mod_sum p (k - s % k) k) ∙ rw e (mod_sum q (k - s % k) k)

  module _ (pos : 0 < k) where
    pub steps_low : (p : ℕ) → steps_to k s p < k
    steps_low p = mod-lt (p + (k - s % k)) pos

    -- what lies d ahead of s comes d behind it, around the ring
    pub steps_ahead : (d : ℕ) → steps_to k s (s + d) ≡ d % k
    steps_ahead d =
        let e : s + d + (k - s % k) ≡ (s / k + 1) * k + d = omega (arith, div-add-mod' s k, mod-lt s pos) in
        ap (λ (x : ℕ). x % k) e ∙ mul-add-mod_self_right (s / k + 1) k d

    -- s itself comes first
    pub steps_own : steps_to k s s ≡ 0
    steps_own = rw (add-zero s) at (steps_ahead 0) ∙ zero-mod k

    -- what comes so far behind it lies as far ahead
    pub ahead_steps : (p : ℕ) → (s + steps_to k s p) % k ≡ p % k
    ahead_steps p =
        let e : p + (k - s % k) + s ≡ (s / k + 1) * k + p = omega (arith, div-add-mod' s k, mod-lt s pos) in
        ap (λ (x : ℕ). x % k) (add_comm s (steps_to k s p)) ∙ mod_sum (p + (k - s % k)) s k ∙ ap (λ (x : ℕ). x % k) e ∙ mul-add-mod_self_right (s / k + 1) k p

    -- no two places of one ring come equally far behind
    pub steps_same : (p q : ℕ) → p / k ≡ q / k → steps_to k s p ≡ steps_to k s q → p ≡ q
    steps_same p q ring far =
        let rest : p % k ≡ q % k = sym (ahead_steps p) ∙ ap (λ (d : ℕ). (s + d) % k) far ∙ ahead_steps q in
        sym (div-add-mod' p k) ∙ rw (ring, rest) (div-add-mod' q k)
