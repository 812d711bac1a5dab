-- Truth as a number, for callers in other languages: 0 is no, and any other number yes.
use Rattle.std.specs.Prelude.{Bool, not, ℕ, eqb}
use Rattle.base.specs.Walk.{pick}
use Rattle.base.specs.Code.{Out, out}
use Rattle.bitfield_rules.specs.Calls.{Answered}

-- whether a number that is lent as a flag means yes
abbrev pub is_yes : ℕ → Bool
is_yes n = not (eqb n 0)

-- an answer and its flag, 1 for yes
abbrev pub flagged : Answered → Out ℕ ℕ
flagged a = out a.code (pick a.yes 1 0)
