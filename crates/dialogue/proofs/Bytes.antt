-- Lists of bytes: cut to a length, and up to the first LF. Assumes nothing.
use mathlib.Core.Path.{◌≡◌, refl, sym, ap, ◌∙◌}
use mathlib.Core.Bool.{Bool, true, false}
use mathlib.Core.List.{List, [], ◌∷◌, ◌++◌}
use Prim.Native.Nat.{ℕ, ◌+◌, ◌<◌}
use native.Mathlib.Decide.{dec_le}
use native.Mathlib.Omega.{arith}
use native.Mathlib.Numerals.{add-one}
use lib.Dec.{eqb}
use lib.ListN.{length, take}
use lib.Seq.{take_all, take-append-le, length-take-le}
use borrow.Author.Tests.{eqb-true, eqb-false}
use Rattle.dialogue.specs.Bytes.{index_of, index_after}
use Rattle.lines.specs.Bytes.{LF}
use Rattle.dialogue.specs.Whole.{Unended}

-- what is cut, and cut again with more behind it
pub take_cut : (k : ℕ) (x y : List ℕ) → take k (take k x ++ y) ≡ take k (x ++ y)
take_cut k x y = elim (dec_le (length x) k) [
  | yes h ↦ ap (λ (z : List ℕ). take k (z ++ y)) (take_all k x h)
  | no h ↦
      let full : length (take k x) ≡ k = length-take-le k x (omega arith) in
      take-append-le k (take k x) y (omega arith) ∙ take_all k (take k x) (omega arith) ∙ sym (take-append-le k x y (omega arith))
]

-- up to the first LF no line ends
pub find_unended : (l : List ℕ) → Unended (take (index_of LF l) l)
unfolding index_of index_after
find_unended [] = tt
find_unended (b ∷ l) = go (eqb b LF) refl (find_unended l)
  where
    go : (q : Bool) → eqb b LF ≡ q → Unended (take (index_of LF l) l) → Unended (take (index_after q (index_of LF l)) (b ∷ l))
    go true e u = tt
    go false e u = (eqb-false b LF e, u)

-- and LF stands there, if it is not the end
pub find_ends : (l : List ℕ) → index_of LF l < length l → take (index_of LF l + 1) l ≡ take (index_of LF l) l ++ (LF ∷ [])
unfolding index_of index_after
find_ends [] h = absurd (omega arith)
find_ends (b ∷ l) h = go (eqb b LF) refl h (find_ends l)
  where
    go : (q : Bool) → eqb b LF ≡ q → index_after q (index_of LF l) < length (b ∷ l)
        → (index_of LF l < length l → take (index_of LF l + 1) l ≡ take (index_of LF l) l ++ (LF ∷ []))
        → take (index_after q (index_of LF l) + 1) (b ∷ l) ≡ take (index_after q (index_of LF l)) (b ∷ l) ++ (LF ∷ [])
    go true e h f = ap (λ (x : ℕ). x ∷ []) (eqb-true b LF e)
    go false e h f = rw add-one (ap (λ (x : List ℕ). b ∷ x) (rw add-one at (f (omega arith))))
