-- The lowest place, and that the contract leaves one answer. Assumes nothing.
use Rattle.std.proofs.Common.{◌≡◌, ℕ, ◌+◌, ◌-◌, ◌*◌, ◌/◌, ◌%◌, ◌^◌, ◌<◌, ◌≤◌, Bool, eqb, sym, refl, ap, ◌∙◌, mul-le-mul_right, lt_of_mul-lt-mul_right, div-add-mod', arith, eqb-true}
use native.Mathlib.Nat.{mul-mod_left}
use borrow.Author.Tests.{eqb-false}
use Rattle.base.specs.Walk.{pick, first}
use Rattle.base.specs.Bits.{bits_at}
use Rattle.base.proofs.Walks.{first_hit, first_le, first_before}
use Rattle.base.proofs.Sizes.{pow_divides}
use Rattle.std.specs.Prelude.{Result, Ok, Err}
use Rattle.base.specs.declared.Refusal.{Refusal}
use Rattle.base.specs.declared.Refusal.TheVariants.{Frames, Tree, Lent, Order, Range, Alignment, Memory, Damage}
use Rattle.row.specs.declared.Found.{Found}
use Rattle.row.specs.Row.{Numbers, numbers_of, lowest}
use Rattle.row.specs.Ensured.{FindsInRow}

-- ---- the lowest place

-- row v's block of order o at place p is within the row, aligned, and 0 as a number
pub record Zero (v o p : ℕ) : Type 0 where
  pub bits : bits_at v p (2 ^ o) ≡ 0
  pub within : p + 2 ^ o ≤ 64
  pub aligned : p % 2 ^ o ≡ 0

module _ (o v : ℕ) where
  -- the test that the lowest place is the first to pass: lane j of 2 ^ o bits is clear
  abbrev clear : ℕ → Bool
  clear j = eqb (bits_at v (j * 2 ^ o) (2 ^ o)) 0

  -- the first lane that passes it
  abbrev lane : ℕ
  lane = first clear (2 ^ (6 - o)) 0

  -- the lowest place is one of the row, or 64
  pub lowest_le : o ≤ 6 → lowest o v ≤ 64
  unfolding lowest
  lowest_le h = omega (arith, pow_divides o 6 h, mul-le-mul_right (2 ^ o) (first_le clear (2 ^ (6 - o)) 0))

  -- where it is one of the row, the block there is clear
  pub lowest_clear : o ≤ 6 → lowest o v < 64 → Zero v o (lowest o v)
  unfolding lowest
  lowest_clear h l =
      let n = pow_divides o 6 h in
      let low : lane < 2 ^ (6 - o) = lt_of_mul-lt-mul_right (2 ^ o) (omega arith) in
      record {
        bits = eqb-true _ _ (first_hit clear (2 ^ (6 - o)) 0 (omega arith));
        within = omega (arith, mul-le-mul_right (2 ^ o) low);
        aligned = mul-mod_left lane (2 ^ o);
      }

  -- and no aligned block below it is: where it is 64, none at all
  pub lowest_least : (q : ℕ) → q % 2 ^ o ≡ 0 → q < lowest o v → bits_at v q (2 ^ o) ≡ 0 → ⊥
  unfolding lowest
  lowest_least q a l e =
      let s : q / 2 ^ o * 2 ^ o ≡ q = omega (arith, div-add-mod' q (2 ^ o)) in
      let low : q / 2 ^ o < lane = lt_of_mul-lt-mul_right (2 ^ o) (omega arith) in
      eqb-false (bits_at v (q / 2 ^ o * 2 ^ o) (2 ^ o)) 0 (first_before clear (2 ^ (6 - o)) 0 (q / 2 ^ o) (omega arith) low) (rw s e)

-- ---- the answer

-- the refusal that has this number
refusal_of : ℕ → Refusal
refusal_of c =
    pick (eqb c 1) Frames
    (pick (eqb c 2) Tree
    (pick (eqb c 3) Lent
    (pick (eqb c 4) Order (pick (eqb c 5) Range (pick (eqb c 6) Alignment (pick (eqb c 7) Memory Damage))))))

-- the answer that has these numbers
answer_of : Numbers → Result Found Refusal
answer_of x = pick (eqb x.code 0) (Ok (record { place = x.place; row = x.row })) (Err (refusal_of x.code))

-- an answer's numbers give it back
answer_of_lem : (r : Result Found Refusal) → answer_of (numbers_of r) ≡ r
unfolding answer_of refusal_of
answer_of_lem (Ok f) = refl
answer_of_lem (Err Frames) = refl
answer_of_lem (Err Tree) = refl
answer_of_lem (Err Lent) = refl
answer_of_lem (Err Order) = refl
answer_of_lem (Err Range) = refl
answer_of_lem (Err Alignment) = refl
answer_of_lem (Err Memory) = refl
answer_of_lem (Err Damage) = refl

-- the contract leaves one answer
pub one_answer : (f g : Result Found Refusal) (v o : ℕ) → FindsInRow v o f → FindsInRow v o g → f ≡ g
one_answer f g v o e h = sym (answer_of_lem f) ∙ ap answer_of (e ∙ sym h) ∙ answer_of_lem g
