-- A walk around the ring of s, a tree's entries say, from s on: it meets each place of the ring, in the order of how far they come behind s. Assumes nothing.
use mathlib.Core.Path.{◌≡◌, ◌∙◌}
use Prim.Native.Nat.{ℕ, ◌+◌, ◌/◌, ◌%◌, ◌<◌}
use native.Mathlib.Nat.{div-add-mod', mod-lt, mod-eq_of_lt}
use lib.Arith.{digits_div, digits_mod}
use Rattle.base.specs.Ring.{steps_to}
use Rattle.base.proofs.Rests.{mod_sum}
pub use Rattle.base.proofs.Rings.{steps_rest, steps_low, steps_ahead, steps_own, ahead_steps, steps_same}
use Rattle.rules.specs.Get.{entry_at}

module _ (k s : ℕ) (pos : 0 < k) where
  -- each place that it comes to lies in the ring
  pub visited_ring : (d : ℕ) → entry_at k s d / k ≡ s / k
  visited_ring d = digits_div (s / k) (mod-lt (s % k + d) pos)

  -- and comes as far behind s as was walked
  pub visited_steps : (d : ℕ) → d < k → steps_to k s (entry_at k s d) ≡ d
  visited_steps d l =
      steps_rest k s (entry_at k s d) (s + d) (digits_mod (s / k) (mod-lt (s % k + d) pos) ∙ mod_sum s d k) ∙ steps_ahead k s pos d ∙ mod-eq_of_lt l

  -- it comes to each place of the ring
  pub steps_visited : (p : ℕ) → p / k ≡ s / k → entry_at k s (steps_to k s p) ≡ p
  steps_visited p ring = rw (mod_sum s (steps_to k s p) k, ahead_steps k s pos p, ← ring) (div-add-mod' p k)
