-- The texts of numbers: how long they are, and what as many numbers as there are fields are. Assumes nothing.
use mathlib.Core.List.{◌++◌}
use Prim.Native.Nat.{ℕ, ◌≤◌}
use native.Mathlib.Omega.{arith}
use lib.ListN.{length, length-append}
use Rattle.decimal.specs.Decimal.{decimal}
use Rattle.decimal.proofs.Laws.{places_high, length_decimal}
use Rattle.lines.specs.declared.Fields.{Fields}
use Rattle.lines.specs.declared.Fields.TheVariants.{Nothing, One, Two, Three}
use Rattle.lines.specs.Read.{field, fields_text}

pub decimal_short : (n : ℕ) → length (decimal n) ≤ 20
decimal_short n = rw (length_decimal n) (places_high n)

pub field_short : (n : ℕ) → length (field n) ≤ 21
field_short n = omega (arith, decimal_short n)

pub fields_short : (f : Fields) → length (fields_text f) ≤ 63
fields_short Nothing = omega arith
fields_short (One a) = omega (arith, field_short a)
fields_short (Two a b) = omega (arith, field_short a, field_short b, length-append (field a) (field b))
fields_short (Three a b c) =
    omega (arith, field_short a, field_short b, field_short c, length-append (field a) (field b), length-append (field a ++ field b) (field c))

pub numbers_short : (n : ℕ) (f : Fields) → length (decimal n ++ fields_text f) ≤ 83
numbers_short n f = omega (arith, decimal_short n, fields_short f, length-append (decimal n) (fields_text f))
