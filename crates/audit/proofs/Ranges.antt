-- What `find_map` answers over a range, said of the numbers in it. Assumes nothing.
use mathlib.Core.Path.{◌≡◌, ap, ◌∙◌}
use Prim.Native.Nat.{ℕ, ◌+◌, ◌-◌, ◌≤◌, ◌<◌}
use native.Mathlib.Omega.{arith}
use denote.Param.Members.{Mut, Called}
use Rattle.std.specs.Prelude.{Option, Some, None, MatchOption, IfSome, IsSomeAnd, IsTrue}
use Rattle.std.specs.Option.{option_map}
use Rattle.std.specs.declared.ops.Range.{Range}
use Rattle.std.specs.Iterator.Runs.{Run, SomeRun, AllItemsGive, IsFirstToGive, CallKeepsClosure}
use Rattle.std.proofs.iter.Yields.{nat_range_steps}
use Rattle.std.proofs.iter.runs.Sources.{range_runs}

-- the item at a place of a run is the number there
item : (p : Run nat_range_steps) (s : Range ℕ) (k : ℕ) → p.from ≡ s → k < p.len → p.at k ≡ Some (s.start + k)
item p s k is l = go (p.at k) ((range_runs p p.seen).3 k l ∙ ap (λ (q : Range ℕ). Some (q.start + k)) is)
  where
    go : (o : Option ℕ) {x : ℕ} → option_map (λ y. y) o ≡ Some x → o ≡ Some x
    go (Some y) e = e
    go None e = cc

module _ {F B : Type 0} {g : Mut F (ℕ × Unit {0}) (Option B)} {f : F} (Gives : ℕ → Option B → Type 0)
    (gives : (x : ℕ) (o : Option B) (q : F) → Called g f (x, tt) o q → (q ≡ f) × Gives x o) where
  kept : CallKeepsClosure g f
  kept a o q c = (gives a.0 o q c).0

  pub mapped_range : (s : Range ℕ) (r : Option B)
      → SomeRun nat_range_steps s (λ p. MatchOption r (IsTrue p.whole × AllItemsGive p g f None) (λ y. (i : ℕ) × (i < p.len) × (p.len ≡ i + 1) × IsFirstToGive p g f (Some y) None i))
      → MatchOption r ((k : ℕ) → s.start ≤ k → k < s.end → Gives k None)
      (λ y. (i : ℕ) × (s.start ≤ i) × (i < s.end) × Gives i (Some y) × ((k : ℕ) → s.start ≤ k → k < i → Gives k None))
  mapped_range s None (p, is, (whole, each)) = λ k a b.
      let all : p.len ≡ s.end - s.start = (range_runs p p.seen).1 whole ∙ ap (λ (q : Range ℕ). q.end - q.start) is in
      let here = item p s (k - s.start) is (omega arith) in
      let its : s.start + (k - s.start) ≡ k = omega arith in
      let c : IfSome (p.at (k - s.start)) (λ x. Called g f (x, tt) None f) = each kept (k - s.start) in
      (gives k None f (rw (here, its) at c)).1
  mapped_range s (Some y) (p, is, (i, l, last, found)) =
      let most : p.len ≤ s.end - s.start = rw is at (range_runs p p.seen).0 in
      let here = item p s i is l in
      let hit : IsSomeAnd (p.at i) (λ x. Called g f (x, tt) (Some y) f) = (found kept).0 in (
        s.start + i,
        omega arith,
        omega arith,
        (gives (s.start + i) (Some y) f (rw here at hit)).1,
        λ k a b.
            let its : s.start + (k - s.start) ≡ k = omega arith in
            let miss : IsSomeAnd (p.at (k - s.start)) (λ x. Called g f (x, tt) None f) = (found kept).1 (k - s.start) (omega arith) in
            (gives k None f (rw (item p s (k - s.start) is (omega arith), its) at miss)).1,
      )
