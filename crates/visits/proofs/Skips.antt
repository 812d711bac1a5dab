-- The visits that a get skips, and the one that ends it with a block: what the code does answers as the rules say. Assumes nothing.
use Rattle.std.proofs.Common.{◌≡◌, ℕ, ◌+◌, ◌-◌, ◌/◌, ◌^◌, ◌<◌, ◌≤◌, Bool, false, List, set, refl, subst, arith}
use Rattle.base.specs.Walk.{first}
use Rattle.base.specs.Code.{out}
use Rattle.base.specs.Size.{rows_per}
use Rattle.base.proofs.Walks.{FirstAt, first_skip, first_before, first_from, first_le}
use Rattle.rules.specs.State.{mem, entry_of, toggled}
use Rattle.rules.specs.Numbered.{Place}
use Rattle.rules.specs.Get.{got, eligible, visit, entry_at, get_small}
use Rattle.rules.proofs.BlockTurns.{turn_done}
use Rattle.rules.proofs.VisitSteps.{Free}
use Rattle.rules.proofs.GetSteps.{stops_at, get_taken}

-- ---- from one visit to the next that may have a block

-- whether the entry that is visited after i others is eligible
abbrev pub eligible_at : ℕ → List ℕ → ℕ → ℕ → ℕ → Bool
eligible_at t es x o i = eligible es o (entry_at t x i)

module _ (h n t : ℕ) (rs es : List ℕ) (row o : ℕ) where
  -- one that is not is passed
  skips : (i : ℕ) → eligible_at t es (row / rows_per h) o i ≡ false → stops_at h n t (mem rs es) row o i ≡ false
  unfolding visit
  skips i e = rw e

  -- so a get goes on at the next that is
  pub skipped : (j r : ℕ) → FirstAt (stops_at h n t (mem rs es) row o) t j → r ≡ first (eligible_at t es (row / rows_per h) o) (t - j) j
      → FirstAt (stops_at h n t (mem rs es) row o) t r
  skipped j r at r_is =
      let p = eligible_at t es (row / rows_per h) o in
      let low : j ≤ r = rw r_is (first_from p (t - j) j) in
      let high : r ≤ j + (t - j) = rw r_is (first_le p (t - j) j) in
      let e : j + (r - j) ≡ r = omega arith in
      subst (FirstAt (stops_at h n t (mem rs es) row o) t) e
      (first_skip (stops_at h n t (mem rs es) row o) t j (r - j) at (omega (arith, at.0)) (λ k a b. skips k (first_before p (t - j) j k a (rw (← r_is) (omega arith)))))

-- ---- the visit that ends a get with a block

-- block f is turned, and its entry lowered, in a memory that is as lent
pub get_turned : (h n t : ℕ) (rs es : List ℕ) (row o j : ℕ) → FirstAt (stops_at h n t (mem rs es) row o) t j → j < t
    → {x : ℕ} (f : ℕ) → x ≡ entry_at t (row / rows_per h) j → Place f ≡ visit h n (mem rs es) row o x → Free h n rs es o x f
    → {rs' es' : List ℕ} → rs' ≡ rs → es' ≡ es → {r : ℕ} {left last : List ℕ} → out r left ≡ toggled rs' f o false → last ≡ set es' x (entry_of es' x - 2 ^ o)
    → out (got 0 f (j + 1)) (mem left last) ≡ get_small h n t (mem rs es) row o
get_turned h n t rs es row o j at l f x_is e free rows_are entries_are_lem turn lowered =
    rw (lowered, entries_are_lem) (get_taken h n t rs es row o j at l f x_is e free (turn_done rs f o false (rw rows_are at turn) free.clear).1 refl)
