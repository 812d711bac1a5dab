-- A toggle that passed its checks: turned, left, or turned by its rows. Assumes nothing.
use mathlib.Core.Path.{◌≡◌, refl, sym, ap, ◌∙◌}
use mathlib.Core.Bool.{Bool, true, false, not}
use mathlib.Core.List.{List, ◌++◌}
use Prim.Native.Nat.{ℕ, ◌+◌, ◌-◌, ◌/◌, ◌^◌, ◌<◌}
use native.Mathlib.Omega.{arith}
use lib.Dec.{eqb}
use lib.ListN.{length, get_or, take, drop, replicate, take-append-drop}
use Rattle.base.specs.Walk.{all}
use Rattle.base.specs.Code.{Out, out, unless, stored}
use Rattle.base.specs.Size.{Huge}
use Rattle.base.specs.Bits.{solid, block_is, with_bits}
use Rattle.base.proofs.Codes.{passes}
use Rattle.bits.proofs.Blocks.{rows_at, block_by_rows, with_by_rows}
use Rattle.bitfield_rules.specs.Calls.{block_code, toggle, turn_rows}
use Rattle.base.proofs.Stored.{refused, done}
use Rattle.bitfield_rules.proofs.Laws.{within, in_rows}

module _ (h : ℕ) (rows : List ℕ) (p o : ℕ) (b : Bool) (unrefused : block_code h (length rows) p o ≡ 0) where
  -- a block that is as expected is turned
  pub toggle_turned : block_is b rows p (2 ^ o) ≡ true → out 0 (with_bits (not b) rows p (p + 2 ^ o)) ≡ toggle h rows p o b
  unfolding toggle
  toggle_turned e = done rows (with_bits (not b) rows p (p + 2 ^ o)) (passes {x = 0} (sym unrefused) refl (rw e))

  -- any other is left
  pub toggle_left : block_is b rows p (2 ^ o) ≡ false → out 7 rows ≡ toggle h rows p o b
  unfolding toggle
  toggle_left e = refused rows (with_bits (not b) rows p (p + 2 ^ o)) (passes {x = 0} (sym unrefused) refl (rw e)) (λ z. omega arith)

  -- above order 6: n rows from the block's first on are lent and come back as ys
  pub toggle_by_rows : Huge h → 6 < o → ((j : ℕ) → get_or rows j 0 < 2 ^ 64) → (r n : ℕ) (ys : List ℕ) → n ≡ 2 ^ (o - 6)
      → out r ys ≡ turn_rows (take n (drop (p / 64) rows)) b → out r (take (p / 64) rows ++ (ys ++ drop n (drop (p / 64) rows))) ≡ toggle h rows p o b
  unfolding turn_rows
  toggle_by_rows H l fits r n ys en e = rw en (go (all (λ j. eqb (get_or part j 0) (solid b 64)) (length part) 0) refl (rw en at e))
    where
      part : List ℕ
      part = rows_at rows p o

      -- the rows with ys in the block's place
      with : List ℕ → List ℕ
      with zs = take (p / 64) rows ++ (zs ++ drop (2 ^ (o - 6)) (drop (p / 64) rows))

      back : with part ≡ rows
      back = ap (λ (t : List ℕ). take (p / 64) rows ++ t) (take-append-drop (2 ^ (o - 6)) (drop (p / 64) rows)) ∙ take-append-drop (p / 64) rows

      go : (t : Bool) → all (λ j. eqb (get_or part j 0) (solid b 64)) (length part) 0 ≡ t
          → out r ys ≡ stored (unless t 7) part (replicate (length part) (solid (not b) 64)) → out r (with ys) ≡ toggle h rows p o b
      go true q f =
          let k = in_rows H (within h (length rows) p o unrefused) in
          ap (λ (x : Out ℕ (List ℕ)). out x.answer (with x.left)) f ∙ ap (out 0) (with_by_rows k (not b) l fits) ∙ toggle_turned (sym (block_by_rows k b l fits) ∙ q)
      go false q f =
          ap (λ (x : Out ℕ (List ℕ)). out x.answer (with x.left)) f ∙ ap (out 7) back
          ∙ toggle_left (sym (block_by_rows (in_rows H (within h (length rows) p o unrefused)) b l fits) ∙ q)
