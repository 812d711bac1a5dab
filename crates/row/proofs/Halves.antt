-- The lowest clear half of a row: the walk over its two lanes, step by step. Assumes nothing.
use Rattle.std.proofs.Common.{◌≡◌, ℕ, ◌/◌, ◌%◌, ◌^◌, ◌<◌, div-one, arith, eq-eqb, ne_eqb}
use Rattle.base.specs.Walk.{first}
use Rattle.row.specs.Row.{lowest}

module _ (v : ℕ) where
  pub low_half : v % 2 ^ 32 ≡ 0 → 0 ≡ lowest 5 v
  unfolding lowest first
  low_half z = rw (div-one, eq-eqb (v % 2 ^ 32) 0 z)

  module _ (held : v % 2 ^ 32 ≡ 0 → ⊥) where
    pub high_half : v / 2 ^ 32 ≡ 0 → 32 ≡ lowest 5 v
    unfolding lowest first
    high_half z =
        let e : v / 2 ^ 32 % 2 ^ 32 ≡ 0 = omega arith in
        rw (div-one, ne_eqb (v % 2 ^ 32) 0 held, eq-eqb (v / 2 ^ 32 % 2 ^ 32) 0 e)

    pub no_half : v < 2 ^ 64 → (v / 2 ^ 32 ≡ 0 → ⊥) → 64 ≡ lowest 5 v
    unfolding lowest first
    no_half l n =
        let e : v / 2 ^ 32 % 2 ^ 32 ≡ v / 2 ^ 32 = omega arith in
        rw (div-one, ne_eqb (v % 2 ^ 32) 0 held, e, ne_eqb (v / 2 ^ 32) 0 n)
