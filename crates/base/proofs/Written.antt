-- Laws of a run that is written: what a loop's turn does, and what each element is at the end. Assumes nothing.
use mathlib.Core.Path.{◌≡◌, refl, sym, ap, ◌∙◌}
use mathlib.Core.List.{List, [], ◌∷◌, ◌++◌}
use native.Mathlib.Decide.{dec_lt, ℕ_discrete}
use Prim.Native.Nat.{ℕ, zero, suc, ◌+◌, ◌≤◌, ◌<◌}
use native.Mathlib.Nat.{add-zero, zero-add, add-suc, suc-add}
use native.Mathlib.Omega.{arith}
use native.Mathlib.Numerals.{add-one}
use lib.ListN.{length, get_or, set, take, drop, replicate, length-set, take-append-drop, length-drop}
use lib.Seq.{get_or-set_same, get_or-set_other, set-get_or, length-take-le}
use borrow.Author.Fill.{fill_more}
use Rattle.base.specs.Walk.{written}

-- one more of a run that is written
pub written_more : (f : ℕ → ℕ) (l : List ℕ) (at n : ℕ) → set (written f l at n) (at + n) (f (at + n)) ≡ written f l at (n + 1)
unfolding written
written_more f l at n = rw add-one

pub length_written : (f : ℕ → ℕ) (l : List ℕ) (at n : ℕ) → length (written f l at n) ≡ length l
unfolding written
length_written f l at zero = refl
length_written f l at (suc n) = length-set (written f l at n) (at + n) (f (at + n)) ∙ length_written f l at n

-- an element behind a run that is written stays
pub written_beyond : (f : ℕ → ℕ) (l : List ℕ) (at n i : ℕ) → at + n ≤ i → get_or (written f l at n) i 0 ≡ get_or l i 0
unfolding written
written_beyond f l at zero i h = refl
written_beyond f l at (suc n) i h =
    get_or-set_other (written f l at n) (at + n) i (f (at + n)) 0 (λ e. omega arith) ∙ written_beyond f l at n i (omega arith)

-- an element before it stays too
pub written_before : (f : ℕ → ℕ) (l : List ℕ) (at n i : ℕ) → i < at → get_or (written f l at n) i 0 ≡ get_or l i 0
unfolding written
written_before f l at zero i h = refl
written_before f l at (suc n) i h =
    get_or-set_other (written f l at n) (at + n) i (f (at + n)) 0 (λ e. omega arith) ∙ written_before f l at n i h

-- an element of the run is what was written there
pub written_in : (f : ℕ → ℕ) (l : List ℕ) (at n i : ℕ) → at ≤ i → i < at + n → i < length l → get_or (written f l at n) i 0 ≡ f i
unfolding written
written_in f l at zero i a b c = absurd (omega arith)
written_in f l at (suc n) i a b c = elim (dec_lt i (at + n)) [
  | yes q ↦ get_or-set_other (written f l at n) (at + n) i (f (at + n)) 0 (λ e. omega arith) ∙ written_in f l at n i a q c
  | no q ↦
      let here : i ≡ at + n = omega arith in
      rw here (get_or-set_same (written f l at n) (at + n) (f (at + n)) 0 (omega (arith, length_written f l at n)))
]

-- what is written is seen at the run's indices alone
pub written_same : (f g : ℕ → ℕ) (l : List ℕ) (at n : ℕ) → ((i : ℕ) → at ≤ i → i < at + n → f i ≡ g i) → written f l at n ≡ written g l at n
unfolding written
written_same f g l at zero e = refl
written_same f g l at (suc n) e =
    rw (written, e (at + n) (omega arith) (omega arith), written_same f g l at n (λ i a b. e i a (omega arith)))

-- a run that goes on where another ended is one run
pub written_parts : (f : ℕ → ℕ) (l : List ℕ) (at a b : ℕ) → written f (written f l at a) (at + a) b ≡ written f l at (a + b)
unfolding written
written_parts f l at a zero = rw add-zero
written_parts f l at a (suc b) =
    let same : at + a + b ≡ at + (a + b) = omega arith in
    rw (add-suc, same, written_parts f l at a b)

-- a run of what stands there already changes nothing
pub written_stays : (f : ℕ → ℕ) (l : List ℕ) (at n : ℕ) → ((i : ℕ) → at ≤ i → i < at + n → f i ≡ get_or l i 0) → written f l at n ≡ l
unfolding written
written_stays f l at zero e = refl
written_stays f l at (suc n) e =
    rw (written, written_stays f l at n (λ i a b. e i a (omega arith)), e (at + n) (omega arith) (omega arith)) (set-get_or l (at + n) 0)

-- one write to two lists: where they were alike they still are
pub set_alike : (l r : List ℕ) (i j v : ℕ) → i < length l → i < length r → get_or l j 0 ≡ get_or r j 0 → get_or (set l i v) j 0 ≡ get_or (set r i v) j 0
set_alike l r i j v p q e = elim (ℕ_discrete j i) [
  | yes k ↦ rw k (get_or-set_same l i v 0 p ∙ sym (get_or-set_same r i v 0 q))
  | no k ↦ get_or-set_other l i j v 0 k ∙ e ∙ sym (get_or-set_other r i j v 0 k)
]

pub written_alike : (f : ℕ → ℕ) (l r : List ℕ) (at n j : ℕ) → at + n ≤ length l → at + n ≤ length r → get_or l j 0 ≡ get_or r j 0
    → get_or (written f l at n) j 0 ≡ get_or (written f r at n) j 0
unfolding written
written_alike f l r at zero j p q e = e
written_alike f l r at (suc n) j p q e =
    set_alike (written f l at n) (written f r at n) (at + n) j (f (at + n)) (omega (arith, length_written f l at n)) (omega (arith, length_written f r at n))
    (written_alike f l r at n j (omega arith) (omega arith) e)

-- an element behind a front
set_behind : (xs ys : List ℕ) (n v : ℕ) → set (xs ++ ys) (length xs + n) v ≡ xs ++ set ys n v
set_behind [] ys n v = rw zero-add
set_behind (x ∷ xs) ys n v = rw suc-add (ap (λ (l : List ℕ). x ∷ l) (set_behind xs ys n v))

-- k elements from a on, all of them v, put back in their place
pub solid_part : (l : List ℕ) (v a k : ℕ) → a + k ≤ length l → take a l ++ (replicate k v ++ drop k (drop a l)) ≡ written (λ _. v) l a k
unfolding written
solid_part l v a zero h = take-append-drop a l
solid_part l v a (suc k) h =
    let front : length (take a l) ≡ a = length-take-le a l (omega arith) in
    let more = fill_more k v (drop a l) (omega (arith, length-drop a l)) in
    ap (λ (t : List ℕ). take a l ++ t) (sym (rw add-one at more))
    ∙ sym (set_behind (take a l) (replicate k v ++ drop k (drop a l)) k v) ∙ rw (front, solid_part l v a k (omega arith))
