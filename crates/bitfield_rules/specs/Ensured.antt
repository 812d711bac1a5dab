-- The contract of each call on the rows of one huge frame, of huge order h: its result r and the rows left are those of its definition.
use Rattle.std.specs.Prelude.{◌≡◌, Bool, List, ℕ}
use Rattle.base.specs.Code.{out}
use Rattle.bitfield_rules.specs.Calls.{Placed}
use Rattle.bitfield_rules.specs.Calls.{ZeroCount}
use Rattle.bitfield_rules.specs.Calls.{Answered}
use Rattle.bitfield_rules.specs.Calls.{set, fill, toggle, is_zero, count_zeros, first_zeros, set_first_zeros}

-- set
abbrev pub Sets : ℕ → List ℕ → ℕ → ℕ → Bool → ℕ → List ℕ → Type 0
Sets h rows start end value r left = out r left ≡ set h rows start end value

-- fill
abbrev pub Fills : ℕ → List ℕ → Bool → ℕ → List ℕ → Type 0
Fills h rows value r left = out r left ≡ fill h rows value

-- toggle
abbrev pub Toggles : ℕ → List ℕ → ℕ → ℕ → Bool → ℕ → List ℕ → Type 0
Toggles h rows place order expected r left = out r left ≡ toggle h rows place order expected

-- is_zero
abbrev pub TellsZero : ℕ → List ℕ → ℕ → ℕ → Answered → Type 0
TellsZero h rows place order r = r ≡ is_zero h rows place order

-- count_zeros
abbrev pub CountsZeros : ℕ → List ℕ → ZeroCount → Type 0
CountsZeros h rows r = r ≡ count_zeros h rows

-- first_zeros
abbrev pub FindsZeros : ℕ → List ℕ → ℕ → ℕ → Placed → Type 0
FindsZeros h rows start order r = r ≡ first_zeros h rows start order

-- set_first_zeros
abbrev pub SetsFirstZeros : ℕ → List ℕ → ℕ → ℕ → Placed → List ℕ → Type 0
SetsFirstZeros h rows start order r left = out r left ≡ set_first_zeros h rows start order
