-- The contracts of the calls whose numbers for other languages are not those of the call itself, under the names that they and `EqualNumbers` share.
use Rattle.std.specs.Prelude.{◌≡◌, List, ℕ}
use Rattle.base.specs.Code.{out}
use Rattle.row.specs.Row.{numbers, first_zeros}
use Rattle.bitfield_rules.specs.Calls.{is_zero}
use Rattle.rules.specs.State.{Mem}
use Rattle.rules.specs.Queries.{is_free}
use Rattle.ravelbeam.specs.Flag.{flagged}
use Rattle.ravelbeam.specs.Run.{run, tree_run}

-- code, place and row
abbrev pub FindsNumbers : ℕ → ℕ → ℕ → ℕ → ℕ → Type 0
FindsNumbers v o r place row = numbers r place row ≡ first_zeros v o

-- code and flag
abbrev pub FlagsZero : ℕ → List ℕ → ℕ → ℕ → ℕ → ℕ → Type 0
FlagsZero h rows p o r flag = out r flag ≡ flagged (is_zero h rows p o)

abbrev pub FlagsFree : ℕ → ℕ → ℕ → Mem → ℕ → ℕ → ℕ → ℕ → Type 0
FlagsFree h n t m f o r flag = out r flag ≡ flagged (is_free h n t m f o)

-- code, offset and length
abbrev pub PlacesRun : ℕ → ℕ → ℕ → Mem → ℕ → ℕ → ℕ → ℕ → Type 0
PlacesRun h n t m f r offset length = run r offset length ≡ tree_run h n t m f

-- "two results satisfying one contract are equal"
pub record NumbersAreEqual (h n t : ℕ) (m : Mem) (rows : List ℕ) (v f o : ℕ) : Type 0 where
  pub finds : (r s p q x y : ℕ) → FindsNumbers v o r p x → FindsNumbers v o s q y → (r ≡ s) × ((p ≡ q) × (x ≡ y))
  pub zeros : (r s p q : ℕ) → FlagsZero h rows f o r p → FlagsZero h rows f o s q → (r ≡ s) × (p ≡ q)
  pub frees : (r s p q : ℕ) → FlagsFree h n t m f o r p → FlagsFree h n t m f o s q → (r ≡ s) × (p ≡ q)
  pub runs : (r s p q x y : ℕ) → PlacesRun h n t m f r p x → PlacesRun h n t m f s q y → (r ≡ s) × ((p ≡ q) × (x ≡ y))

abbrev pub EqualNumbers : Type 0
EqualNumbers = (h n t : ℕ) (m : Mem) (rows : List ℕ) (v f o : ℕ) → NumbersAreEqual h n t m rows v f o
