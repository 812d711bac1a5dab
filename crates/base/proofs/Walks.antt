-- Laws of the walks: what a loop's turn does, and what the answer says of each index. Assumes nothing.
use mathlib.Core.Path.{◌≡◌, refl, sym, ap, ◌∙◌}
use mathlib.Core.Bool.{Bool, true, false, true≢false}
use mathlib.Core.Logic.{◌⊎◌, inl, inr, ⊎_elim}
use native.Mathlib.Decide.{dec_le, dec_lt}
use Prim.Native.Nat.{ℕ, zero, suc, ◌+◌, ◌-◌, ◌≤◌, ◌<◌, min, zero-le}
use native.Mathlib.Omega.{arith}
use native.Mathlib.Numerals.{add-one}
use native.Mathlib.Nat.{add-zero, zero-add, suc-add, add-suc}
use lib.Dec.{ltb}
use borrow.Author.Tests.{lt-ltb, le-ltb}
use Rattle.base.specs.Walk.{pick, first, all, count}

eq_or_lt : (i j : ℕ) → i ≤ j → (j ≡ i) ⊎ (suc i ≤ j)
eq_or_lt i j l = elim (dec_le (suc i) j) [ yes q ↦ inr q | no q ↦ inl (omega arith) ]

-- n - i is one more than n - (i + 1)
sub_step : (n i : ℕ) → i < n → n - i ≡ suc (n - (i + 1))
sub_step n i h = omega arith

sub_end : (n i : ℕ) → n ≤ i → n - i ≡ 0
sub_end n i h = omega arith

module _ (p : ℕ → Bool) (n : ℕ) where
  -- what a loop knows at index i: the walk from i on has the whole walk's answer
  abbrev pub FirstAt : ℕ → Type 0
  FirstAt i = (i ≤ n) × (first p (n - i) i ≡ first p n 0)

  pub first_start : FirstAt 0
  first_start = (omega arith, rw sub_zero)
    where
      sub_zero : n - 0 ≡ n
      sub_zero = omega arith

  pub first_found : (i : ℕ) → FirstAt i → i < n → p i ≡ true → i ≡ first p n 0
  unfolding first
  first_found i a h e = rw (sub_step n i h, first, e) at a.1

  pub first_more : (i : ℕ) → FirstAt i → i < n → p i ≡ false → FirstAt (i + 1)
  unfolding first
  first_more i a h e = (omega arith, (ap (first p (n - (i + 1))) (add-one i)) ∙ rw (sub_step n i h, first, e) at a.1)

  pub first_skip : (i d : ℕ) → FirstAt i → i + d ≤ n → ((k : ℕ) → i ≤ k → k < i + d → p k ≡ false) → FirstAt (i + d)
  first_skip i zero a l none = rw (add-zero i) a
  first_skip i (suc d) a l none =
      let e : i + suc d ≡ i + d + 1 = omega arith in
      rw e (first_more (i + d) (first_skip i d a (omega arith) (λ k u v. none k u (omega arith))) (omega arith) (none (i + d) (omega arith) (omega arith)))

  pub first_none : (i : ℕ) → FirstAt i → n ≤ i → i ≡ first p n 0
  unfolding first
  first_none i a h = rw (sub_end n i h, first) at a.1

  abbrev pub AllAt : ℕ → Type 0
  AllAt i = (i ≤ n) × (all p (n - i) i ≡ all p n 0)

  pub all_start : AllAt 0
  all_start = (omega arith, rw sub_zero)
    where
      sub_zero : n - 0 ≡ n
      sub_zero = omega arith

  pub all_broken : (i : ℕ) → AllAt i → i < n → p i ≡ false → false ≡ all p n 0
  unfolding all
  all_broken i a h e = rw (sub_step n i h, all, e) at a.1

  pub all_more : (i : ℕ) → AllAt i → i < n → p i ≡ true → AllAt (i + 1)
  unfolding all
  all_more i a h e = (omega arith, (ap (all p (n - (i + 1))) (add-one i)) ∙ rw (sub_step n i h, all, e) at a.1)

  pub all_end : (i : ℕ) → AllAt i → n ≤ i → true ≡ all p n 0
  unfolding all
  all_end i a h = rw (sub_end n i h, all) at a.1

-- the same of a walk that begins anywhere, also past its end
module _ (p : ℕ → Bool) (n at : ℕ) where
  abbrev pub FirstFrom : ℕ → Type 0
  FirstFrom i = first p (n - i) i ≡ first p (n - at) at

  pub from_found : (i : ℕ) → FirstFrom i → i < n → p i ≡ true → i ≡ first p (n - at) at
  unfolding first
  from_found i a h e = rw (sub_step n i h, first, e) at a

  pub from_more : (i : ℕ) → FirstFrom i → i < n → p i ≡ false → FirstFrom (i + 1)
  unfolding first
  from_more i a h e = ap (first p (n - (i + 1))) (add-one i) ∙ rw (sub_step n i h, first, e) at a

  pub from_none : (i : ℕ) → FirstFrom i → n ≤ i → i ≡ first p (n - at) at
  unfolding first
  from_none i a h = rw (sub_end n i h, first) at a

-- what an answer says of each index
module _ (p : ℕ → Bool) where
  pub first_hit : (n i : ℕ) → first p n i < i + n → p (first p n i) ≡ true
  unfolding first
  first_hit zero i h = absurd (omega arith)
  first_hit (suc n) i h = go (p i) refl h (first_hit n (suc i))
    where
      go : (b : Bool) → p i ≡ b → pick b i (first p n (suc i)) < i + suc n → (first p n (suc i) < suc i + n → p (first p n (suc i)) ≡ true) → p (pick b i (first p n (suc i))) ≡ true
      go true e h f = e
      go false e h f = f (omega arith)

  pub first_le : (n i : ℕ) → first p n i ≤ i + n
  unfolding first
  first_le zero i = omega arith
  first_le (suc n) i = go (p i) (first_le n (suc i))
    where
      go : (b : Bool) → first p n (suc i) ≤ suc i + n → pick b i (first p n (suc i)) ≤ i + suc n
      go true f = omega arith
      go false f = omega arith

  pub first_from : (n i : ℕ) → i ≤ first p n i
  unfolding first
  first_from zero i = omega arith
  first_from (suc n) i = go (p i) (first_from n (suc i))
    where
      go : (b : Bool) → suc i ≤ first p n (suc i) → i ≤ pick b i (first p n (suc i))
      go true l = omega arith
      go false l = omega arith

  pub all_each : (n i : ℕ) → all p n i ≡ true → (j : ℕ) → i ≤ j → j < i + n → p j ≡ true
  unfolding all
  all_each zero i a j l h = absurd (omega arith)
  all_each (suc n) i a j l h = go (p i) refl a (all_each n (suc i))
    where
      go : (b : Bool) → p i ≡ b → pick b (all p n (suc i)) false ≡ true → (all p n (suc i) ≡ true → (k : ℕ) → suc i ≤ k → k < suc i + n → p k ≡ true) → p j ≡ true
      go true e a f = ⊎_elim (λ q. ap p q ∙ e) (λ q. f a j q (omega arith)) (eq_or_lt i j l)
      go false e a f = cc

  pub all_of : (n i : ℕ) → ((j : ℕ) → i ≤ j → j < i + n → p j ≡ true) → all p n i ≡ true
  unfolding all
  all_of zero i f = refl
  all_of (suc n) i f = rw (all, f i (omega arith) (omega arith)) (all_of n (suc i) (λ j l h. f j (omega arith) (omega arith)))

-- an index that fails is enough for a walk over all to fail
pub all_not : (p : ℕ → Bool) (n i j : ℕ) → i ≤ j → j < i + n → p j ≡ false → all p n i ≡ false
all_not p n i j l h e = go (all p n i) refl
  where
    go : (b : Bool) → all p n i ≡ b → b ≡ false
    go true q = sym (all_each p n i q j l h) ∙ e
    go false q = refl

-- and where it fails, there is one
pub all_fails : (p : ℕ → Bool) (n i : ℕ) → all p n i ≡ false → (j : ℕ) × (i ≤ j) × (j < i + n) × (p j ≡ false)
unfolding all
all_fails p zero i e = absurd (true≢false e)
all_fails p (suc n) i e = go (p i) refl e (all_fails p n (suc i))
  where
    go : (b : Bool) → p i ≡ b → pick b (all p n (suc i)) false ≡ false
        → (all p n (suc i) ≡ false → (j : ℕ) × (suc i ≤ j) × (j < suc i + n) × (p j ≡ false)) → (j : ℕ) × (i ≤ j) × (j < i + suc n) × (p j ≡ false)
    go true q e f = let (j, a, l, r) = f e in (j, omega arith, omega arith, r)
    go false q e f = (i, omega arith, omega arith, q)

module _ (p : ℕ → Bool) where
  pub count_le : (n i : ℕ) → count p n i ≤ n
  unfolding count
  count_le zero i = omega arith
  count_le (suc n) i = go (p i) (count_le n (suc i))
    where
      go : (b : Bool) → count p n (suc i) ≤ n → pick b (suc (count p n (suc i))) (count p n (suc i)) ≤ suc n
      go true f = omega arith
      go false f = omega arith

  pub count_full : (n i : ℕ) → count p n i ≡ n → (j : ℕ) → i ≤ j → j < i + n → p j ≡ true
  unfolding count
  count_full zero i e j a b = absurd (omega arith)
  count_full (suc n) i e j a b = go (p i) refl e (count_le n (suc i)) (count_full n (suc i))
    where
      go : (b : Bool) → p i ≡ b → pick b (suc (count p n (suc i))) (count p n (suc i)) ≡ suc n → count p n (suc i) ≤ n
          → (count p n (suc i) ≡ n → (k : ℕ) → suc i ≤ k → k < suc i + n → p k ≡ true) → p j ≡ true
      go true e q l f = ⊎_elim (λ r. ap p r ∙ e) (λ r. f (omega arith) j r (omega arith)) (eq_or_lt i j a)
      go false e q l f = absurd (omega arith)

  pub count_of : (n i : ℕ) → ((j : ℕ) → i ≤ j → j < i + n → p j ≡ true) → count p n i ≡ n
  unfolding count
  count_of zero i f = refl
  count_of (suc n) i f = rw (count, f i (omega arith) (omega arith)) (ap suc (count_of n (suc i) (λ j l h. f j (omega arith) (omega arith))))

-- to show something of a choice, show it of each side
pub pick_case {ℓ} : {A : Type ℓ} (P : A → Type 0) (b : Bool) {x y : A} → (b ≡ true → P x) → (b ≡ false → P y) → P (pick b x y)
pick_case P true f g = f refl
pick_case P false f g = g refl

-- what is made of a choice is the choice of what is made
pub pick_of : {A B : Type 0} (g : A → B) (d : Bool) (x y : A) → g (pick d x y) ≡ pick d (g x) (g y)
pick_of g true x y = refl
pick_of g false x y = refl

-- to relate two choices by one test, relate their sides
pub pick_both : {A : Type 0} (R : A → A → Type 0) (b : Bool) {x y x' y' : A} → (b ≡ true → R x y) → (b ≡ false → R x' y') → R (pick b x x') (pick b y y')
pick_both R true f g = f refl
pick_both R false f g = g refl

-- a choice between one and the same
pub either : {A : Type 0} (b : Bool) (x : A) → pick b x x ≡ x
either true x = refl
either false x = refl

-- a count in two parts
pub count_parts : (p : ℕ → Bool) (a b i : ℕ) → count p (a + b) i ≡ count p a i + count p b (i + a)
unfolding count
count_parts p zero b i = rw (zero-add b, zero-add (count p b (i + 0)), add-zero i)
count_parts p (suc a) b i = rw suc-add (go (p i) (count_parts p a b (suc i)))
  where
    shift : count p b (suc i + a) ≡ count p b (i + suc a)
    shift = ap (count p b) (move i a)
      where
        move : (i a : ℕ) → suc i + a ≡ i + suc a
        move i a = omega arith

    go : (c : Bool) → count p (a + b) (suc i) ≡ count p a (suc i) + count p b (suc i + a)
        → pick c (suc (count p (a + b) (suc i))) (count p (a + b) (suc i)) ≡ pick c (suc (count p a (suc i))) (count p a (suc i)) + count p b (i + suc a)
    go true e = omega (arith, shift)
    go false e = omega (arith, shift)

pub count_same : (p q : ℕ → Bool) (n i : ℕ) → ((j : ℕ) → i ≤ j → j < i + n → p j ≡ q j) → count p n i ≡ count q n i
unfolding count
count_same p q zero i f = refl
count_same p q (suc n) i f = rw (count, f i (omega arith) (omega arith), count_same p q n (suc i) (λ j a b. f j (omega arith) (omega arith)))

pub count_none : (p : ℕ → Bool) (n i : ℕ) → ((j : ℕ) → i ≤ j → j < i + n → p j ≡ false) → count p n i ≡ 0
unfolding count
count_none p zero i f = refl
count_none p (suc n) i f = rw (count, f i (omega arith) (omega arith)) (count_none p n (suc i) (λ j a b. f j (omega arith) (omega arith)))

-- a count in three parts: before a run of s indices, in it, and behind it
pub count_three : (p : ℕ → Bool) (n at s : ℕ) → at + s ≤ n → count p n 0 ≡ count p at 0 + count p s at + count p (n - (at + s)) (at + s)
count_three p n at s l =
    ap (λ (k : ℕ). count p k 0) (whole n at s l) ∙ count_parts p (at + s) (n - (at + s)) 0 ∙ rw (zero-add (at + s), count_parts p at s 0, zero-add at)
  where
    whole : (n at s : ℕ) → at + s ≤ n → n ≡ at + s + (n - (at + s))
    whole n at s l = omega arith

-- a walk sees its test at the walked indices alone
pub first_same : (p q : ℕ → Bool) (n i : ℕ) → ((j : ℕ) → i ≤ j → j < i + n → p j ≡ q j) → first p n i ≡ first q n i
unfolding first
first_same p q zero i f = refl
first_same p q (suc n) i f = rw (first, f i (omega arith) (omega arith), first_same p q n (suc i) (λ j a b. f j (omega arith) (omega arith)))

pub all_same : (p q : ℕ → Bool) (n i : ℕ) → ((j : ℕ) → i ≤ j → j < i + n → p j ≡ q j) → all p n i ≡ all q n i
unfolding all
all_same p q zero i f = refl
all_same p q (suc n) i f = rw (all, f i (omega arith) (omega arith), all_same p q n (suc i) (λ j a b. f j (omega arith) (omega arith)))

-- a walk over a range in two parts
pub all_parts : (p : ℕ → Bool) (a b i : ℕ) → all p (a + b) i ≡ pick (all p a i) (all p b (i + a)) false
unfolding all
all_parts p zero b i = rw (zero-add b, add-zero i)
all_parts p (suc a) b i = rw (suc-add, all_parts p a b (suc i), move i a) (go (p i) (all p a (suc i)) (all p b (i + suc a)))
  where
    move : (i a : ℕ) → suc i + a ≡ i + suc a
    move i a = omega arith

    go : (x y z : Bool) → pick x (pick y z false) false ≡ pick (pick x y false) z false
    go true y z = refl
    go false y z = refl

-- a walk of the indices moved by a
pub all_shift : (p : ℕ → Bool) (a n i : ℕ) → all (λ j. p (a + j)) n i ≡ all p n (a + i)
unfolding all
all_shift p a zero i = refl
all_shift p a (suc n) i = rw (all_shift p a n (suc i), add-suc)

pub count_shift : (p : ℕ → Bool) (a n i : ℕ) → count (λ j. p (a + j)) n i ≡ count p n (a + i)
unfolding count
count_shift p a zero i = refl
count_shift p a (suc n) i = rw (count_shift p a n (suc i), add-suc)

-- no index before the first passes
pub first_before : (p : ℕ → Bool) (n i j : ℕ) → i ≤ j → j < first p n i → p j ≡ false
unfolding first
first_before p zero i j a l = absurd (omega arith)
first_before p (suc n) i j a l = go (p i) refl l (first_before p n (suc i) j)
  where
    go : (b : Bool) → p i ≡ b → j < pick b i (first p n (suc i)) → (suc i ≤ j → j < first p n (suc i) → p j ≡ false) → p j ≡ false
    go true e l f = absurd (omega arith)
    go false e l f = ⊎_elim (λ q. ap p q ∙ e) (λ q. f q l) (eq_or_lt i j a)

-- an index that passes, with none before it, is the first
pub first_is : (p : ℕ → Bool) (n i j : ℕ) → i ≤ j → j < i + n → p j ≡ true → ((k : ℕ) → i ≤ k → k < j → p k ≡ false) → first p n i ≡ j
unfolding first
first_is p zero i j a l e f = absurd (omega arith)
first_is p (suc n) i j a l e f = ⊎_elim
    (λ (q : j ≡ i). let here : p i ≡ true = sym (ap p q) ∙ e in rw (first, here) (sym q))
    (λ q. rw (first, f i (omega arith) q) (first_is p n (suc i) j q (omega arith) e (λ k b c. f k (omega arith) c)))
    (eq_or_lt i j a)

-- where none passes, the walk goes to its end
pub first_never : (p : ℕ → Bool) (n i : ℕ) → ((k : ℕ) → i ≤ k → k < i + n → p k ≡ false) → first p n i ≡ i + n
unfolding first
first_never p zero i f = omega arith
first_never p (suc n) i f = rw (first, f i (omega arith) (omega arith)) (first_never p n (suc i) (λ k b c. f k (omega arith) (omega arith)) ∙ omega arith)

-- a search in two parts: the second where the first finds none
pub first_parts : (p : ℕ → Bool) (a b i : ℕ) → first p (a + b) i ≡ pick (ltb (first p a i) (i + a)) (first p a i) (first p b (i + a))
unfolding first
first_parts p zero b i = rw (zero-add b, add-zero i, le-ltb i i (omega arith))
first_parts p (suc a) b i = rw (suc-add, first_parts p a b (suc i), move i a) (go (p i))
  where
    move : (i a : ℕ) → suc i + a ≡ i + suc a
    move i a = omega arith

    go : (t : Bool) → pick t i (pick (ltb (first p a (suc i)) (i + suc a)) (first p a (suc i)) (first p b (i + suc a)))
        ≡ pick (ltb (pick t i (first p a (suc i))) (i + suc a)) (pick t i (first p a (suc i))) (first p b (i + suc a))
    go true = rw (lt-ltb i (i + suc a) (omega arith))
    go false = refl

-- so a search of fewer indices is one of more, cut off at its end
pub first_cut : (p : ℕ → Bool) (a b i : ℕ) → first p a i ≡ min (first p (a + b) i) (i + a)
first_cut p a b i = rw (first_parts p a b i) (elim (dec_lt (first p a i) (i + a)) [
  | yes l ↦ rw (lt-ltb _ _ l) (omega arith)
  | no l ↦ rw (le-ltb (first p a i) (i + a) (omega arith)) (omega (arith, first_le p a i, first_from p b (i + a)))
])

-- a search that finds nothing among the first d indices goes on behind them
module _ (p : ℕ → Bool) (n at i d : ℕ) (from : FirstFrom p n at i) (l : i + d ≤ n) {f : ℕ} (f_is : f ≡ first p d i) where
  part_first : first p (n - i) i ≡ pick (ltb f (i + d)) f (first p (n - (i + d)) (i + d))
  part_first =
      let e : n - i ≡ d + (n - (i + d)) = omega arith in
      rw (e, f_is) (first_parts p d (n - (i + d)) i)

  pub part_found : f < i + d → f ≡ first p (n - at) at
  part_found h = sym (rw (lt-ltb f (i + d) h) at part_first) ∙ from

  pub part_passed : i + d ≤ f → FirstFrom p n at (i + d)
  part_passed h = sym (rw (le-ltb f (i + d) h) at part_first) ∙ from

-- a search of the indices moved by a
pub first_shift : (p : ℕ → Bool) (a n i : ℕ) → a + first (λ j. p (a + j)) n i ≡ first p n (a + i)
unfolding first
first_shift p a zero i = refl
first_shift p a (suc n) i = go (p (a + i)) (first_shift p a n (suc i) ∙ ap (first p n) (add-suc a i))
  where
    go : (t : Bool) → a + first (λ j. p (a + j)) n (suc i) ≡ first p n (suc (a + i)) → a + pick t i (first (λ j. p (a + j)) n (suc i)) ≡ pick t (a + i) (first p n (suc (a + i)))
    go true e = refl
    go false e = e

-- one index more
pub count_more : (p : ℕ → Bool) (n i : ℕ) → count p (n + 1) i ≡ count p n i + pick (p (i + n)) 1 0
unfolding count
count_more p n i = count_parts p n 1 i ∙ ap (λ (k : ℕ). count p n i + k) (one (p (i + n)))
  where
    one : (b : Bool) → pick b (suc (count p zero (suc (i + n)))) (count p zero (suc (i + n))) ≡ pick b 1 0
    one true = refl
    one false = refl

-- what a loop knows at index x of k: how many of the indices below it pass
pub record CountAt (p : ℕ → Bool) (k x s : ℕ) : Type 0 where
  pub inside : x ≤ k
  pub low : s ≤ x
  pub count_is : s ≡ count p x 0

module _ {p : ℕ → Bool} {k : ℕ} where
  pub count_start : CountAt p k 0 0
  unfolding count
  count_start = record { inside = zero-le; low = zero-le; count_is = refl }

  pub count_hit : {x s : ℕ} → CountAt p k x s → x < k → p x ≡ true → CountAt p k (x + 1) (s + 1)
  count_hit {x} a l q = record { inside = omega arith; low = omega (arith, a.low); count_is = rw (count_more p x 0, zero-add x, q, ← a.count_is) }

  pub count_miss : {x s : ℕ} → CountAt p k x s → x < k → p x ≡ false → CountAt p k (x + 1) s
  count_miss {x} a l q = record { inside = omega arith; low = omega (arith, a.low); count_is = rw (count_more p x 0, zero-add x, q) (omega (arith, a.count_is)) }

  pub count_end : {x s : ℕ} → CountAt p k x s → k ≤ x → s ≡ count p k 0
  count_end {x} a l = let last : x ≡ k = omega (arith, a.inside) in rw last at a.count_is

-- of s indices from i on, those below c
pub count_below : (p : ℕ → Bool) (c s i : ℕ) → ((f : ℕ) → i ≤ f → f < i + s → f < c → p f ≡ true)
    → ((f : ℕ) → i ≤ f → f < i + s → c ≤ f → p f ≡ false) → count p s i ≡ min (c - i) s
count_below p c s i below past =
    let k = min (c - i) s in
    let whole : s ≡ k + (s - k) = omega arith in
    ap (λ (j : ℕ). count p j i) whole ∙ count_parts p k (s - k) i
    ∙ omega (
      arith,
      count_of p k i (λ f a b. below f a (omega arith) (omega arith)),
      count_none p (s - k) (i + k) (λ f a b. past f (omega arith) (omega arith) (omega arith)),
    )
