-- `dialogue::find` meets its contract: LF stands at the first index at which the test passes, or nowhere. Assumes nothing.
use Rattle.std.proofs.Common.{◌≡◌, ℕ, ◌+◌, ◌≤◌, ◌<◌, Bool, true, false, not, cond, eqb, ltb, List, [], ◌∷◌, length, refl, arith, rules, tests}
use Rattle.std.specs.List.{position_or_len}
use Rattle.std.specs.Prelude.{Option, Some, None, MatchOption}
use borrow.Author.Tests.{ltb-true, ltb-false}
use Rattle.std.proofs.lemmas.Iterator.{YieldsList-from_slice}
use Rattle.std.proofs.lemmas.Iterator.Search.{position_from_yields_List}
use Rattle.lines.specs.Bytes.{LF}
use Rattle.dialogue.specs.Bytes.{index_of, index_after}
use Rattle.dialogue.proofs.find.Goals as goal

-- the library's index is ours
same_index : (xs : List ℕ) → position_or_len (λ b. eqb b LF) xs ≡ index_of LF xs
unfolding index_of index_after
same_index [] = refl
same_index (x ∷ xs) = go (eqb x LF) (same_index xs)
  where
    go : (q : Bool) {i j : ℕ} → i ≡ j → cond (not q) (1 + i) 0 ≡ index_after q j
    go true e = refl
    go false e = omega (arith, e)

-- and is within the list
index_within : (xs : List ℕ) → index_of LF xs ≤ length xs
unfolding index_of index_after
index_within [] = omega arith
index_within (x ∷ xs) = go (eqb x LF) (index_within xs)
  where
    go : (q : Bool) {i : ℕ} → i ≤ length xs → index_after q i ≤ length (x ∷ xs)
    go true l = omega arith
    go false l = omega arith

-- it is there, or nowhere
there : (r : Option ℕ) (n len : ℕ) → n ≤ len → r ≡ cond (ltb n len) (Some n) None → MatchOption r (n ≡ len) (λ end. (end ≡ n) × (end < len))
there r n len l e = go (ltb n len) refl e
  where
    go : (b : Bool) → ltb n len ≡ b → r ≡ cond b (Some n) None → MatchOption r (n ≡ len) (λ end. (end ≡ n) × (end < len))
    go true t q = rw q (refl, ltb-true n len t)
    go false t q = rw q (let h = ltb-false n len t in omega arith)

pub returns : goal.returns
returns c =
    let xs = c.args.input.now in
    let searched = position_from_yields_List (λ b. eqb b LF) _ _ c.position.result c.position.ensures.ran (YieldsList-from_slice xs cc) (λ x b q k. search (rules, tests)) in
    there c.position.result (index_of LF xs) (length xs) (index_within xs) (rw same_index at searched)
