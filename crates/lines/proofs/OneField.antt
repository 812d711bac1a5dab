-- One field of a line, both ways: what was read stands there, and what stands there is read. Assumes nothing.
use Rattle.std.specs.Prelude.{Some}
use mathlib.Core.Path.{◌≡◌, refl, sym, ap, ap₂, ◌∙◌}
use mathlib.Core.Bool.{Bool, true, false}
use mathlib.Core.List.{List, [], ◌∷◌, ◌++◌}
use Prim.Native.Nat.{ℕ, ◌+◌, ◌-◌, ◌^◌, ◌≤◌, ◌<◌}
use native.Mathlib.Numerals.{add-one}
use native.Mathlib.Omega.{arith}
use lib.Dec.{eqb}
use lib.ListN.{length, get_or, drop, length-append, take-append-drop}
use lib.Seq.{drop-cons, drop-drop, append_snoc, get_or-append_seam}
use borrow.Author.Tests.{eqb-true}
use Rattle.base.specs.Walk.{pick}
use Rattle.decimal.specs.declared.Number.{Number}
use Rattle.decimal.specs.Decimal.{places, decimal, is_digit, number, number_at}
use Rattle.decimal.proofs.Laws.{Read, read_written, written_read}
use Rattle.lines.specs.Bytes.{space}
use Rattle.lines.specs.Read.{field, field_at}
use Rattle.lines.proofs.Cases.{field_there}

-- what a field that was read says of the line: n's text stands at a place, and the line goes on at e
pub record Field (l : List ℕ) (at n e : ℕ) : Type 0 where
  pub begins : at < e
  pub within : e ≤ length l
  pub fits : n < 2 ^ 64
  pub text : drop at l ≡ field n ++ drop e l

stands : (l : List ℕ) (at n e : ℕ) → get_or l at 0 ≡ space → Read l (at + 1) n e → Field l at n e
stands l at n e s r = record {
  begins = omega (arith, r.begins);
  within = r.within;
  fits = r.fits;
  text = drop-cons l at 0 (omega (arith, r.begins, r.within)) ∙ ap₂ (λ (x : ℕ) (m : List ℕ). x ∷ m) s (ap (λ (k : ℕ). drop k l) (sym (add-one at)) ∙ digits);
}
  where
    there : at + 1 + (e - (at + 1)) ≡ e
    there = omega (arith, r.begins)

    digits : drop (at + 1) l ≡ decimal n ++ drop e l
    digits =
        sym (take-append-drop (e - (at + 1)) (drop (at + 1) l))
        ∙ ap₂ (λ (x y : List ℕ). x ++ y) r.text (drop-drop (e - (at + 1)) (at + 1) l ∙ ap (λ (k : ℕ). drop k l) there)

-- what was read stands there
pub field_stands : (l : List ℕ) (at : ℕ) (x : Number) → field_at l at ≡ Some x → Field l at x.value x.next
field_stands l at x e = go (eqb (get_or l at 0) space) refl e
  where
    go : (b : Bool) → eqb (get_or l at 0) space ≡ b → pick b (number_at l (at + 1)) (number false 0 0) ≡ Some x → Field l at x.value x.next
    go true q e = stands l at x.value x.next (eqb-true (get_or l at 0) space q) (written_read l (at + 1) x.value x.next e)
    go false q e = cc

-- what stands there is read
pub field_read : (l pre : List ℕ) (at n : ℕ) (rest : List ℕ) → l ≡ pre ++ (field n ++ rest) → at ≡ length pre → n < 2 ^ 64 → is_digit (get_or rest 0 0) ≡ false
    → field_at l at ≡ number true n (at + 1 + places n)
field_read l pre at n rest e f h s =
    rw (e, f) (sym (field_there (pre ++ (field n ++ rest)) (length pre) (get_or-append_seam pre space (decimal n ++ rest) 0)
    (sym (rw (append_snoc pre space (decimal n ++ rest), length-append pre (space ∷ [])) at (read_written (pre ++ (space ∷ [])) n rest h s)))))
