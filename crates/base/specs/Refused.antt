-- Document 01, "Refusal numbers": what a call that is refused answers, in numbers.
use Rattle.std.specs.Prelude.{ℕ, Result, Ok, Err}
use Rattle.base.specs.declared.Refusal.{Refusal}
use Rattle.base.specs.declared.Refusal.TheVariants.{Frames, Tree, Lent, Order, Range, Alignment, Memory, Damage}

-- the number of each refusal
abbrev pub number_of : Refusal → ℕ
number_of Frames = 1
number_of Tree = 2
number_of Lent = 3
number_of Order = 4
number_of Range = 5
number_of Alignment = 6
number_of Memory = 7
number_of Damage = 8

-- the number of an answer: "0 is done"
abbrev pub code_of : {A : Type 0} → Result A Refusal → ℕ
code_of (Ok a) = 0
code_of (Err e) = number_of e
