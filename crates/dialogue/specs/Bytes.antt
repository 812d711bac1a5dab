-- Where a byte stands in a list.
use Rattle.std.specs.Prelude.{Bool, true, false, List, [], ◌∷◌, ℕ, suc, eqb}

-- 0 at a byte that is looked for, and else one more than behind it
unfoldable pub index_after : Bool → ℕ → ℕ
index_after true n = 0
index_after false n = suc n

-- the index of the first byte b of a list, or its length where it has none
unfoldable pub index_of : ℕ → List ℕ → ℕ
unfolding index_after
index_of b [] = 0
index_of b (x ∷ xs) = index_after (eqb x b) (index_of b xs)
