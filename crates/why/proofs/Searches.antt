-- The entries of a tree, one by one: none so far counts enough free frames, or none that does has a clear block. Assumes nothing.
use mathlib.Core.Path.{◌≡◌, refl, ◌∙◌}
use mathlib.Core.Bool.{Bool, true, false}
use Prim.Native.Nat.{ℕ, ◌+◌, ◌-◌, ◌^◌, ◌≤◌, ◌<◌}
use native.Mathlib.Omega.{arith}
use borrow.Author.Tests.{eq-eqb, ne_eqb, lt-ltb, le-ltb}
use Rattle.std.specs.Prelude.{Result, Ok, Err, Some}
use Rattle.std.specs.Result.{is_ok}
use Rattle.answers.specs.declared.Cause.{Cause}
use Rattle.answers.specs.declared.Cause.TheVariants.{Spread, NoBlock}
use Rattle.base.specs.declared.Refusal.{Refusal}
use Rattle.base.specs.Walk.{pick, all}
use Rattle.base.proofs.Refused.{numbered}
use Rattle.base.proofs.Walks.{all_not, all_parts}
use Rattle.bitfield_rules.specs.Calls.{placed_of, first_zeros}
use Rattle.rules.specs.State.{Mem, entry_of, free_of, rows_of}
use Rattle.rules.specs.Answers.{why_of}
use Rattle.rules.specs.Why.{why}
use Rattle.why.specs.Told.{few, blockless, small_reason}

-- one index more that passes
all_kept : (p : ℕ → Bool) (n i : ℕ) → p (i + n) ≡ true → all p (n + 1) i ≡ all p n i
unfolding all
all_kept p n i e = all_parts p n 1 i ∙ rw e (one (all p n i))
  where
    one : (b : Bool) → pick b true false ≡ b
    one true = refl
    one false = refl

-- a place that is found has the number 0, and a refusal another
ok_code : (r : Result ℕ Refusal) → is_ok r ≡ true → (placed_of r).code ≡ 0
ok_code (Ok p) z = refl
ok_code (Err e) z = cc

err_code : (r : Result ℕ Refusal) → is_ok r ≡ false → (placed_of r).code ≡ 0 → ⊥
err_code (Ok p) z = cc
err_code (Err e) z = numbered e

-- what a loop knows at entry x
pub record SmallAt (h t : ℕ) (m : Mem) (first o : ℕ) (cause : Cause) (x : ℕ) : Type 0 where
  pub from : first ≤ x
  pub inside : x ≤ first + t
  pub told : cause ≡ pick (all (few m.entries o) (x - first) first) Spread NoBlock
  pub none : all (blockless h m o) (x - first) first ≡ true

module _ (h t : ℕ) (m : Mem) (first o : ℕ) where
  pub small_start : SmallAt h t m first o Spread first
  unfolding all
  small_start = let zero : first - first ≡ 0 = omega arith in record { from = omega arith; inside = omega arith; told = rw zero; none = rw zero }

  pub small_end : (cause : Cause) (x : ℕ) → SmallAt h t m first o cause x → first + t ≤ x → why_of (Ok (Some cause)) ≡ why 0 (small_reason h t m first o) 0
  small_end cause x a l =
      let last : x - first ≡ t = omega (arith, a.from, a.inside) in
      rw (a.told, rw last at a.none, last) (go (all (few m.entries o) t first))
    where
      go : (b : Bool) → why_of (Ok (Some (pick b Spread NoBlock))) ≡ why 0 (pick b 2 3) 0
      go true = refl
      go false = refl

  module _ (cause : Cause) (x : ℕ) (a : SmallAt h t m first o cause x) (l : x < first + t) {size count : ℕ} (size_is : size ≡ 2 ^ o) (count_is : count ≡ free_of (entry_of m.entries x)) where
    -- one entry more
    more : x + 1 - first ≡ x - first + 1
    more = omega (arith, a.from)

    here : first + (x - first) ≡ x
    here = omega (arith, a.from)

    -- an entry that does not count enough
    pub small_few : count < size → SmallAt h t m first o cause (x + 1)
    small_few c =
        let e : few m.entries o x ≡ true = rw (← count_is, ← size_is) (lt-ltb count size c) in
        record {
          from = omega (arith, a.from);
          inside = omega arith;
          told = rw (more, all_kept (few m.entries o) (x - first) first (rw here e)) a.told;
          none = rw (more, all_kept (blockless h m o) (x - first) first (rw (here, e))) a.none;
        }

    module _ (c : size ≤ count) (r : Result ℕ Refusal) (r_is : placed_of r ≡ first_zeros h (rows_of h m.rows x) 0 o) where
      enough : few m.entries o x ≡ false
      enough = rw (← count_is, ← size_is) (le-ltb count size c)

      -- one that does, with a clear block ..
      pub small_found : is_ok r ≡ true → why 0 0 0 ≡ why 0 (small_reason h t m first o) 0
      small_found z =
          let b : blockless h m o x ≡ false = rw (enough, ← r_is, eq-eqb (placed_of r).code 0 (ok_code r z)) in
          rw (all_not (few m.entries o) t first x a.from (omega arith) enough, all_not (blockless h m o) t first x a.from (omega arith) b)

      -- .. or without
      pub small_none : is_ok r ≡ false → SmallAt h t m first o NoBlock (x + 1)
      small_none z =
          record {
            from = omega (arith, a.from);
            inside = omega arith;
            told = rw (all_not (few m.entries o) (x + 1 - first) first x a.from (omega (arith, more, here)) enough);
            none = rw (more, all_kept (blockless h m o) (x - first) first (rw (here, enough, ← r_is, ne_eqb (placed_of r).code 0 (err_code r z)))) a.none;
          }
