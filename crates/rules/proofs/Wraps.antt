-- A walk around t places by steps of g: where it stands after a step, and that it stays on the steps. Assumes nothing.
use mathlib.Core.Path.{◌≡◌, sym, ap, ◌∙◌}
use Prim.Native.Nat.{ℕ, ◌+◌, ◌*◌, ◌/◌, ◌%◌, ◌≤◌, ◌<◌}
use native.Mathlib.Nat.{div-add-mod', mod-lt, mod-eq_of_lt, mul-add-mod_self_right, mul-mod_left, mul-le-mul_right}
use native.Mathlib.Omega.{arith}
use lib.Arith.{mod-mul}

-- a step that stays before the end
pub step_next : (s g t i : ℕ) → i ≡ s % t → i + g < t → i + g ≡ (s + g) % t
step_next s g t i e l =
    let d : s / t * t + s % t ≡ s = div-add-mod' s t in
    let q : s + g ≡ s / t * t + (i + g) = omega arith in
    rw q (sym (mul-add-mod_self_right (s / t) t (i + g) ∙ mod-eq_of_lt l))

-- a step to the end goes on from 0
pub step_first : (s g t i : ℕ) → i ≡ s % t → i + g ≡ t → 0 ≡ (s + g) % t
step_first s g t i e l =
    let d : s / t * t + s % t ≡ s = div-add-mod' s t in
    let q : s + g ≡ (s / t + 1) * t = omega arith in
    rw q (sym (mul-mod_left (s / t + 1) t))

module _ (c g : ℕ) (p : 0 < c) (q : 0 < g) where
  -- around c steps of g, a number of steps is a number of steps before the end
  pub step_ends : (n : ℕ) → n * g % (c * g) + g ≤ c * g
  step_ends n =
      let e : n * g % (c * g) ≡ n * g / g % c * g + n * g % g = mod-mul (n * g) p q in
      let z : n * g % g ≡ 0 = mul-mod_left n g in
      let l : (n * g / g % c + 1) * g ≤ c * g = mul-le-mul_right g (omega (arith, mod-lt (n * g / g) p)) in
      omega arith

  -- a number keeps its rest by g around the end
  pub step_rest : (x : ℕ) → x % (c * g) % g ≡ x % g
  step_rest x = ap (λ (r : ℕ). r % g) (mod-mul x p q) ∙ mul-add-mod_self_right (x / g % c) g (x % g) ∙ mod-eq_of_lt (mod-lt x q)
