-- Two results of one call in numbers are equal. Assumes nothing.
use mathlib.Core.Path.{sym, ◌∙◌}
use Rattle.ravelbeam.specs.Ensured.{EqualNumbers}

pub numbers_equal : EqualNumbers
numbers_equal h n t m rows v f o = record {
  finds = λ r s p q x y a b. let e = a ∙ sym b in (λ i. (e i).code, (λ i. (e i).place, λ i. (e i).row));
  zeros = λ r s p q a b. let e = a ∙ sym b in (λ i. (e i).answer, λ i. (e i).left);
  frees = λ r s p q a b. let e = a ∙ sym b in (λ i. (e i).answer, λ i. (e i).left);
  runs = λ r s p q x y a b. let e = a ∙ sym b in (λ i. (e i).code, (λ i. (e i).offset, λ i. (e i).length));
}
