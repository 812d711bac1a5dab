-- Where the loop ends all rows are as expected, and only then is a row stored.
use Rattle.std.proofs.Common.{◌≡◌, ℕ, ◌-◌, ◌≤◌, ◌<◌, Bool, true, false, not, List, [], ◌∷◌, length, get_or, set, replicate, refl, sym, ap, ◌∙◌, arith, eq-eqb, ne_eqb}
use Rattle.base.specs.Code.{unless, out}
use Rattle.base.specs.Bits.{solid}
use Rattle.base.proofs.Stored.{refused, done}
use Rattle.base.proofs.Walks.{all_of, all_not}
use Rattle.bitfield_rules.specs.Calls as spec
use Rattle.field.proofs.toggle_rows.Goals as goal
use Rattle.field.proofs.toggle_rows.Goals.{then-rows-i-via-then-rows-i, then-rows-i-via-else-rows-i+then-rows-e}

module _ (rows : List ℕ) (expected : Bool) {want : ℕ} (is : want ≡ solid expected 64) where
  -- a row differs, and nothing is stored
  leaves : (j : ℕ) → j < length rows → (get_or rows j 0 ≡ want → ⊥) → out 7 rows ≡ spec.turn_rows rows expected
  unfolding spec.turn_rows
  leaves j l n =
      refused rows _
      (ap (λ (t : Bool). unless t 7) (sym (all_not _ _ 0 j (omega arith) (omega arith) (ne_eqb _ _ (λ e. n (e ∙ sym is)))))) (λ e. omega arith)

  -- all rows are as expected, and their inverses are stored
  turned : ((j : ℕ) → j < length rows → get_or rows j 0 ≡ want) → {left : List ℕ} → left ≡ replicate (length rows) (18446744073709551615 - want) → out 0 left ≡ spec.turn_rows rows expected
  unfolding spec.turn_rows
  turned seen {left} e =
      ap (out 0) (e ∙ ap (λ (v : ℕ). replicate (length rows) (18446744073709551615 - v)) is ∙ ap (replicate (length rows)) (inverse expected))
      ∙ done rows _ (ap (λ (t : Bool). unless t 7) (sym (all_of _ _ 0 (λ j _ l. eq-eqb _ _ (seen j (omega arith) ∙ is)))))
    where
      inverse : (b : Bool) → 18446744073709551615 - solid b 64 ≡ solid (not b) 64
      inverse true = refl
      inverse false = refl

-- two rows at most, stored one by one
few : (l : List ℕ) (x : ℕ) → length l ≤ 2 → set (set l 0 x) (length l - 1) x ≡ replicate (length l) x
few [] x h = refl
few (a ∷ []) x h = refl
few (a ∷ b ∷ []) x h = refl
few (a ∷ b ∷ c ∷ l) x h = absurd (omega arith)

none : (l : List ℕ) (x : ℕ) → length l ≤ 0 → l ≡ replicate (length l) x
none [] x h = refl
none (a ∷ l) x h = absurd (omega arith)

pub returns-then-rows-i : goal.returns-then-rows-i
returns-then-rows-i c =
    let rows = c.args.rows.now in
    let l = c.loop-i in
    elim c.then-rows-i.branch [
      | then-rows-i-via-then-rows-i w ↦ leaves rows c.args.expected c.solid_row-want.ensures l.i (omega arith) w.if-rows-i.true
      | then-rows-i-via-else-rows-i+then-rows-e w ↦ leaves rows c.args.expected c.solid_row-want.ensures (l.e - 1) (omega arith) w.if-rows-e.true
    ]

pub returns-then-len-gt2 : goal.returns-then-len-gt2
returns-then-len-gt2 c =
    turned c.args.rows.now c.args.expected c.solid_row-want.ensures (λ j l. c.loop-i.invariant.seen j l (λ p q. omega arith)) c.fill_rows.ensures

pub returns-then-len-gt0 : goal.returns-then-len-gt0
returns-then-len-gt0 c =
    turned c.args.rows.now c.args.expected c.solid_row-want.ensures (λ j l. c.loop-i.invariant.seen j l (λ p q. omega arith)) (few c.args.rows.now _ c.if-len-gt2.false)

pub returns-else-len-gt0 : goal.returns-else-len-gt0
returns-else-len-gt0 c =
    turned c.args.rows.now c.args.expected c.solid_row-want.ensures (λ j l. c.loop-i.invariant.seen j l (λ p q. omega arith)) (none _ _ c.if-len-gt0.false)
