-- Document 01, "Refusal numbers": codes in their order, and what a call leaves.
use Rattle.std.specs.Prelude.{Bool, ℕ, eqb}
use Rattle.base.specs.Walk.{pick}

-- code c, unless the test holds
abbrev pub unless : Bool → ℕ → ℕ
unless test c = pick test 0 c

-- the first of two codes that is not 0: checks "in this order"
unfoldable pub or_else : ℕ → ℕ → ℕ
or_else a b = pick (eqb a 0) b a

-- what a call leaves: its answer, and the lent memory at its end
pub record Out (A S : Type 0) : Type 0 where
  pub answer : A
  pub left : S

abbrev pub out : {A S : Type 0} → A → S → Out A S
out a s = record { answer = a; left = s }

-- "a refusal writes nothing": refused with code c and the memory as it was, or what is done
abbrev pub unrefused : {A S : Type 0} → ℕ → A → S → Out A S → Out A S
unrefused c refusal s done = pick (eqb c 0) done (out refusal s)

-- the same of a call that answers its code alone
abbrev pub stored : {S : Type 0} → ℕ → S → S → Out ℕ S
stored c s after = unrefused c c s (out 0 after)
