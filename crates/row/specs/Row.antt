-- Document 01, "Get": "in a row the lowest free aligned place", with the refusals of "Refusal numbers" for the one-row search.
use Rattle.std.specs.Prelude.{Result, Ok, Err, ℕ, zero, suc, ◌+◌, ◌-◌, ◌*◌, ◌^◌, true, nat_eq, nat_le, nat_lt}
use Rattle.base.specs.Walk.{pick, first}
use Rattle.base.specs.Bits.{bits_at, overlay}
use Rattle.base.specs.declared.Refusal.{Refusal}
use Rattle.base.specs.Refused.{number_of}
use Rattle.row.specs.declared.Found.{Found}

-- the lowest place aligned at order o whose 2 ^ o bits are all clear; 64 where there is none
unfoldable pub lowest : ℕ → ℕ → ℕ
unfolding first
lowest o v = first (λ j. nat_eq (bits_at v (j * 2 ^ o) (2 ^ o)) 0) (2 ^ (6 - o)) 0 * 2 ^ o

-- the numbers of an answer: code, place, and the row with the block's bits set
pub record Numbers : Type 0 where
  pub code : ℕ
  pub place : ℕ
  pub row : ℕ

abbrev pub numbers : ℕ → ℕ → ℕ → Numbers
numbers c p r = record { code = c; place = p; row = r }

-- the search of row v at order o: 4 above order 6, 7 where no block is clear
unfoldable pub first_zeros : ℕ → ℕ → Numbers
unfolding lowest
first_zeros v o =
    pick (nat_le o 6)
    (pick (nat_lt (lowest o v) 64) (numbers 0 (lowest o v) (overlay true v (lowest o v) (lowest o v + 2 ^ o))) (numbers 7 0 0))
    (numbers 4 0 0)

-- the number and the values of an answer
abbrev pub numbers_of : Result Found Refusal → Numbers
numbers_of (Ok f) = numbers 0 f.place f.row
numbers_of (Err e) = numbers (number_of e) 0 0

-- the lowest bit of each of n lanes of w bits: what the wrapping subtraction takes off
unfoldable pub units : ℕ → ℕ → ℕ
units w zero = 0
units w (suc n) = units w n * 2 ^ w + 1
