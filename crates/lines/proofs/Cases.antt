-- What a line is read as: a law for each way out of the code. Assumes nothing.
use Rattle.std.proofs.Common.{◌≡◌, refl, Option, Some, None, List, ℕ, ◌+◌, ◌≤◌, ◌<◌, eqb, length, get_or}
use borrow.Author.Tests.{eq-eqb, ne_eqb, le-leb, lt-leb}
use Rattle.decimal.specs.declared.Number.{Number}
use Rattle.decimal.specs.Decimal.{number_at}
use Rattle.lines.specs.declared.Line.{Line}
use Rattle.base.proofs.Walks.{pick_case}
use Rattle.lines.specs.Bytes.{space, letter_i}
use Rattle.lines.specs.Read.{line_alone, line_two, line_three, field_at, three_of, two_of, read_line}

pub field_there : (l : List ℕ) (at : ℕ) {r : Option Number} → get_or l at 0 ≡ space → r ≡ number_at l (at + 1) → r ≡ field_at l at
field_there l at h e = rw (eq-eqb (get_or l at 0) space h) e

pub read_long : (l : List ℕ) → 64 < length l → None ≡ read_line l
unfolding read_line
read_long l h = rw (lt-leb (length l) 64 h)

module _ (l : List ℕ) (short : length l ≤ 64) where
  pub read_alone : {r : Option Line} → length l ≡ 1 → r ≡ line_alone (get_or l 0 0) → r ≡ read_line l
  unfolding read_line
  read_alone q e = rw (le-leb (length l) 64 short, eq-eqb (length l) 1 q) e

  module _ (more : length l ≡ 1 → ⊥) where
    -- no number, where there is to be one
    pub first_bad : field_at l 1 ≡ None → None ≡ read_line l
    unfolding read_line
    first_bad f = rw (le-leb (length l) 64 short, ne_eqb (length l) 1 more, f)

    module _ (x : Number) (x_is : field_at l 1 ≡ Some x) where
      pub second_bad : field_at l x.next ≡ None → None ≡ read_line l
      unfolding read_line two_of
      second_bad f = rw (le-leb (length l) 64 short, ne_eqb (length l) 1 more, x_is, f)

      module _ (y : Number) (y_is : field_at l x.next ≡ Some y) {r : Option Line} where
        -- two numbers, and the line ends
        pub two_fields : y.next ≡ length l → r ≡ line_two (get_or l 0 0) x.value y.value → r ≡ read_line l
        unfolding read_line two_of
        two_fields q e = rw (le-leb (length l) 64 short, ne_eqb (length l) 1 more, x_is, y_is, eq-eqb y.next (length l) q) e

        -- or it goes on
        pub third : (y.next ≡ length l → ⊥) → r ≡ three_of l x y (field_at l y.next) → r ≡ read_line l
        unfolding read_line two_of
        third q e = rw (le-leb (length l) 64 short, ne_eqb (length l) 1 more, x_is, y_is, ne_eqb y.next (length l) q) e

module _ (l : List ℕ) (x y : Number) where
  pub third_bad : field_at l y.next ≡ None → None ≡ three_of l x y (field_at l y.next)
  unfolding three_of
  third_bad f = rw f

  module _ (z : Number) (z_is : field_at l y.next ≡ Some z) where
    pub third_ends : {r : Option Line} → z.next ≡ length l → r ≡ line_three (get_or l 0 0) x.value y.value z.value → r ≡ three_of l x y (field_at l y.next)
    unfolding three_of
    third_ends q e = rw (z_is, eq-eqb z.next (length l) q) e

    pub third_more : (z.next ≡ length l → ⊥) → None ≡ three_of l x y (field_at l y.next)
    unfolding three_of
    third_more q = rw (z_is, ne_eqb z.next (length l) q)

    -- only a start has three numbers
    pub third_other : (get_or l 0 0 ≡ letter_i → ⊥) → None ≡ three_of l x y (field_at l y.next)
    unfolding three_of
    third_other q = rw (z_is, ne_eqb (get_or l 0 0) letter_i q) (pick_case (λ (o : Option Line). None ≡ o) (eqb z.next (length l)) (λ _. refl) (λ _. refl))
