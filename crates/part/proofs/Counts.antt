-- The clear bits of a huge frame, as the bitfield counts them in its rows. Assumes nothing.
use mathlib.Core.Path.{◌≡◌, refl, ap, ◌∙◌}
use mathlib.Core.List.{List}
use Prim.Native.Nat.{ℕ, ◌+◌, ◌*◌, ◌≤◌}
use native.Mathlib.Nat.{mul_assoc}
use native.Mathlib.Omega.{arith}
use lib.ListN.{length}
use borrow.Author.Tests.{eq-eqb}
use Rattle.std.specs.Prelude.{Result, Ok, Err}
use Rattle.base.specs.declared.Refusal.{Refusal}
use Rattle.base.specs.Size.{Huge, rows_per}
use Rattle.base.proofs.Refused.{numbered}
use Rattle.base.proofs.Sizes.{rows_frames}
use Rattle.base.proofs.Parts.{part_long, zeros_part}
use Rattle.bitfield_rules.specs.Calls.{ZeroCount}
use Rattle.bitfield_rules.specs.Calls.{zero_count, count_of, count_zeros}
use Rattle.rules.specs.State.{rows_of, clear_of}

module _ {h : ℕ} (H : Huge h) (rs : List ℕ) (x : ℕ) (lent : (x + 1) * rows_per h ≤ length rs) where
  -- the rows are as many as it asks for, and their clear bits are the huge frame's
  pub zeros_counted : count_zeros h (rows_of h rs x) ≡ zero_count 0 (clear_of h rs x)
  unfolding count_zeros
  zeros_counted =
      rw (part_long rs (x * rows_per h) (rows_per h) (omega arith), eq-eqb (rows_per h) (rows_per h) refl, rows_frames H, ← mul_assoc)
      (ap (zero_count 0) (zeros_part rs (x * rows_per h) (rows_per h)))

  -- so the count is not refused
  pub counted : (r : Result ℕ Refusal) → count_of r ≡ count_zeros h (rows_of h rs x) → r ≡ Ok (clear_of h rs x)
  counted (Ok z) e = ap (λ (a : ZeroCount). Ok a.zeros) (e ∙ zeros_counted)
  counted (Err f) e = absurd (numbered f (ap (λ (a : ZeroCount). a.code) (e ∙ zeros_counted)))
