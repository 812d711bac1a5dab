-- The block that holds the start row has the first turn of a get's search, so that a get takes it where it is free. Assumes nothing.
use mathlib.Core.Path.{◌≡◌, refl, sym, ap, ◌∙◌}
use mathlib.Core.Bool.{true, true≢false}
use mathlib.Core.Logic.{⊎_elim}
use Prim.Native.Nat.{ℕ, ◌-◌, ◌*◌, ◌/◌, ◌^◌, ◌≤◌}
use native.Mathlib.Decide.{dec_lt}
use native.Mathlib.Nat.{add-zero, zero-mul, zero-div, mul-one, mul_comm, mul_assoc, mul-mod_left, div-one, mul-div_cancel, div-div-eq-div-mul, mul-div-mul_right}
use native.Mathlib.Omega.{arith}
use lib.Pow.{pow_pos}
use Rattle.base.specs.Walk.{all}
use Rattle.base.specs.Size.{Huge, rows_per}
use Rattle.base.proofs.Sizes.{pow_divides}
use Rattle.rules.specs.Numbers.{huge_of, tree_of, top_order, block_at, group_of}
use Rattle.rules.specs.State.{Mem, lengths_of}
use Rattle.rules.specs.Refusals.{Started, start_refusal}
use Rattle.rules.specs.Get.{got, get}
use Rattle.rules.specs.Consistent.{ConsistentIn, free}
use Rattle.rules.specs.Exact.{round, rank, Candidate, Missed, First}
use Rattle.rules.proofs.Numbers.{tree_pos, huge_by_rows}
use Rattle.rules.proofs.Trees.{tree_frames}
use Rattle.rules.proofs.Lent.{started}
use Rattle.rules.proofs.Rings.{steps_own}
use Rattle.rules.proofs.WhyBlocks.{free_ends}
use Rattle.rules.proofs.Exacts.{calls_are_exact}

-- rounded down to a whole block, a frame is in the same run of 2 ^ k
run_same : (f o k : ℕ) → o ≤ k → block_at o f / 2 ^ k ≡ f / 2 ^ k
run_same f o k l =
    rw (← pow_divides o k l)
    (mul-div-mul_right (f / 2 ^ o) (2 ^ (k - o)) (pow_pos o) ∙ div-div-eq-div-mul f (2 ^ o) (2 ^ (k - o)) ∙ ap (λ (s : ℕ). f / s) (mul_comm (2 ^ o) (2 ^ (k - o))))

module _ {h n t : ℕ} {m : Mem} (H : Huge h) (row o : ℕ) (c : ConsistentIn h n t m (tree_of h t (row * 64))) (begins : start_refusal h n t m row o ≡ 0)
    (clear : all (free h n m) (2 ^ o) (block_at o (row * 64)) ≡ true) where
  abbrev own : ℕ
  own = block_at o (row * 64)

  abbrev g : ℕ
  g = group_of h o

  -- it is a block of the start row's tree, below N
  abbrev passed : Started h n t (lengths_of m) row o
  passed = started h n t (lengths_of m) row o begins

  own_tree : tree_of h t own ≡ tree_of h t (row * 64)
  own_tree = rw (← tree_frames t passed.sized.tree refl h) (run_same (row * 64) o (top_order h t) passed.top)

  candidate : Candidate h n t row o own
  candidate = record { aligned = mul-mod_left (row * 64 / 2 ^ o) (2 ^ o); tree = own_tree; ends = free_ends h n m (2 ^ o) own (pow_pos o) clear }

  -- its huge frame is the first that is visited, or of the first group
  own_huge : huge_of h own ≡ row / rows_per h / g * g
  own_huge = elim (dec_lt o h) [
    | yes low ↦
        let one : o - h ≡ 0 = omega arith in
        rw (one, div-one, mul-one) (run_same (row * 64) o h (omega arith) ∙ huge_by_rows row H)
    | no high ↦
        let size = pow_divides h o (omega arith) in
        let whole : row * 64 / 2 ^ o ≡ row / rows_per h / g =
        ap (λ (s : ℕ). row * 64 / s) (sym size ∙ mul_comm g (2 ^ h)) ∙ sym (div-div-eq-div-mul (row * 64) (2 ^ h) g) ∙ ap (λ (x : ℕ). x / g) (huge_by_rows row H) in
        ap (λ (s : ℕ). row * 64 / 2 ^ o * s / 2 ^ h) (sym size) ∙ ap (λ (x : ℕ). x / 2 ^ h) (sym (mul_assoc (row * 64 / 2 ^ o) g (2 ^ h)))
        ∙ mul-div_cancel (row * 64 / 2 ^ o * g) (pow_pos h) ∙ ap (λ (x : ℕ). x * g) whole
  ]

  -- so it has the first turn
  own_round : round h t row o own ≡ 0
  own_round = rw own_huge (steps_own t (row / rows_per h / g * g) (tree_pos t passed.sized.tree))

  own_rank : rank h t row o own ≡ 0
  own_rank = rw (own_round, steps_own (2 ^ h) own (pow_pos h)) (add-zero (0 * 2 ^ h) ∙ zero-mul (2 ^ h))

  -- and no other block has
  pub own_block_taken : (get h n t m row o).answer ≡ got 0 own 1
  own_block_taken =
      let exact = calls_are_exact h n t m (tree_of h t (row * 64)) H c in
      ⊎_elim
      (λ (s : Missed h n t m row o). absurd (true≢false (sym clear ∙ s.none own candidate)))
      (λ (s : First h n t m row o (get h n t m row o).answer.frame).
      let a = (get h n t m row o).answer.frame in
      let none : rank h t row o a ≡ 0 = elim (dec_lt 0 (rank h t row o a)) [
        | yes later ↦ absurd (true≢false (sym clear ∙ s.first own candidate (rw own_rank later)))
        | no first ↦ omega arith
      ] in
      let same : a ≡ own = exact.ranks row o a own s.block candidate (none ∙ sym own_rank) in
      s.answer ∙ rw (same, own_round, zero-div g) refl)
      (exact.gets row o refl begins)
