-- The contract of the one-row search. Document 01: "Where an answer is an enum, a definition states this paper's number and values".
use Rattle.std.specs.Prelude.{◌≡◌, ℕ, Result}
use Rattle.base.specs.declared.Refusal.{Refusal}
use Rattle.row.specs.declared.Found.{Found}
use Rattle.row.specs.Row.{first_zeros, numbers_of}

-- first_zeros_aligned: r is the answer for row v at an order
abbrev pub FindsInRow : ℕ → ℕ → Result Found Refusal → Type 0
FindsInRow v order r = numbers_of r ≡ first_zeros v order
