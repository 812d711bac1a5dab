-- A block below the huge order whose frames turn, while all frames beside it are as they were: so it was taken, or given back. Assumes nothing.
use mathlib.Core.Path.{◌≡◌, sym, ◌∙◌}
use mathlib.Core.Bool.{true, false, and-true, and-false, or-true, or-false}
use Prim.Native.Nat.{ℕ, ◌+◌, ◌%◌, ◌^◌, ◌≤◌, ◌<◌}
use native.Mathlib.Decide.{dec_lt, ℕ_discrete}
use native.Mathlib.Omega.{arith}
use Rattle.base.specs.Walk.{all}
use Rattle.base.specs.Bits.{bit_is}
use Rattle.rules.specs.Numbers.{huge_of}
use Rattle.rules.specs.State.{Mem}
use Rattle.rules.proofs.Present.{block_huge}
use Rattle.rules.specs.Consistent.{free, held}
use Rattle.rules.proofs.Effects.{Took, Gave, Beside, by_place, in_block_lem, out_of_block}
use Rattle.rules.proofs.Frees.{held_past}
use Rattle.rules.proofs.Rewrites.{Renewed}

-- its huge frame is written anew, and the frames beside the block are as they were
module _ {h n t : ℕ} {m left : Mem} (f o : ℕ) (low : o < h) (even : f % 2 ^ o ≡ 0) (ends : f + 2 ^ o ≤ n) (r : Renewed h n t m left (huge_of h f))
    (beside : (g : ℕ) → huge_of h g ≡ huge_of h f → g < n → Beside f o g → bit_is false left.rows g ≡ free h n m g) where
  left_in : (g : ℕ) → f ≤ g → g < f + 2 ^ o → free h n left g ≡ bit_is false left.rows g
  left_in g l u = r.own g (block_huge f o low even g l u) (omega arith)

  left_beside : (g : ℕ) → Beside f o g → free h n left g ≡ free h n m g
  left_beside g s = elim (ℕ_discrete (huge_of h g) (huge_of h f)) [
    | yes k ↦ elim (dec_lt g n) [
      | yes l ↦ r.own g k l ∙ beside g k l s
      | no l ↦ held_past h n left g (omega arith) ∙ sym (held_past h n m g (omega arith))
    ]
    | no k ↦ r.other g k
  ]

  pub took : all (free h n m) (2 ^ o) f ≡ true
      → ((g : ℕ) → f ≤ g → g < f + 2 ^ o → bit_is false left.rows g ≡ false) → Took h n t m left f o
  took was set = record {
    keeps = r.keeps;
    taken = record {
      was = was;
      is = λ g. by_place f o g (λ l u. rw (in_block_lem f o g l u) (left_in g l u ∙ set g l u ∙ sym (and-false (free h n m g)))) (λ s. rw (out_of_block f o g s) (left_beside g s ∙ sym (and-true (free h n m g))));
    };
  }

  pub gave : all (held h n m) (2 ^ o) f ≡ true → ((g : ℕ) → f ≤ g → g < f + 2 ^ o → bit_is false left.rows g ≡ true) → Gave h n t m left f o
  gave was clear = record {
    keeps = r.keeps;
    given = record {
      was = was;
      is = λ g. by_place f o g (λ l u. rw (in_block_lem f o g l u) (left_in g l u ∙ clear g l u ∙ sym (or-true (free h n m g)))) (λ s. rw (out_of_block f o g s) (left_beside g s ∙ sym (or-false (free h n m g))));
    };
  }
