-- Document 01, "Numbers and memory": frame f is bit f mod 64 of row f div 64; a set bit is a held frame.
use Rattle.std.specs.Prelude.{Bool, List, [], ◌∷◌, ℕ, ◌+◌, ◌-◌, ◌*◌, ◌/◌, ◌%◌, ◌^◌, min, eqb, get_or}
use Rattle.base.specs.Walk.{pick, all}

-- the s bits of a row from place p on, as a number
abbrev pub bits_at : ℕ → ℕ → ℕ → ℕ
bits_at v p s = v / 2 ^ p % 2 ^ s

-- s bits that are all set (b true), or all clear
abbrev pub solid : Bool → ℕ → ℕ
solid b s = pick b (2 ^ s - 1) 0

-- whether frame f's bit is set (b true), or clear
unfoldable pub bit_is : Bool → List ℕ → ℕ → Bool
bit_is b rows f = eqb (bits_at (get_or rows (f / 64) 0) (f % 64) 1) (pick b 1 0)

-- whether the bits of the s frames from p on are all b
unfoldable pub block_is : Bool → List ℕ → ℕ → ℕ → Bool
unfolding all bit_is
block_is b rows p s = all (λ j. bit_is b rows (p + j)) s 0

-- a row with its bits from lo up to hi all b, and the others as they were
abbrev pub overlay : Bool → ℕ → ℕ → ℕ → ℕ
overlay b v lo hi = v / 2 ^ hi * 2 ^ hi + solid b (hi - lo) * 2 ^ lo + v % 2 ^ lo

-- rows with the bits of the frames from a up to e all b; a and e count from the first row on
unfoldable pub with_bits : Bool → List ℕ → ℕ → ℕ → List ℕ
with_bits b [] a e = []
with_bits b (v ∷ vs) a e = overlay b v (min a 64) (min e 64) ∷ with_bits b vs (a - 64) (e - 64)
