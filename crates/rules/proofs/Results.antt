-- Two results that satisfy one contract are equal; and the lines P1 to P12, computed. Assumes nothing.
use mathlib.Core.Path.{◌≡◌, refl, sym, ◌∙◌}
use Rattle.base.specs.Code.{Out, out, or_else}
use Rattle.base.specs.Walk.{first, all, written}
use Rattle.base.specs.Bits.{bit_is, block_is, with_bits}
use Rattle.row.specs.Row.{lowest, first_zeros}
use Rattle.row.proofs.Laws.{one_answer}
use Rattle.rules.specs.Numbers.{tree_log}
use Rattle.rules.specs.Put.{put_huge, put_marked, put_counted, put_small, put}
use Rattle.rules.specs.Results.{One, OneLeft, EqualResults, table, all_hold, TableHolds}

one : {A : Type 0} (what : A) → One (λ r. r ≡ what)
one what a b p q = p ∙ sym q

one_left : {A B : Type 0} (what : Out A B) → OneLeft (λ r left. out r left ≡ what)
one_left what a b l k p q = let e = p ∙ sym q in (λ i. (e i).answer, λ i. (e i).left)

pub results_equal : EqualResults
results_equal h n t m rows v f o b = record {
  starts = (one_left _, one_left _);
  gets = (one_left _, one_left _);
  puts = one_left _;
  asks = (one _, (one _, one _));
  audits = (one _, one_left _);
  whys = (one _, (one _, one _));
  rooms = one_left _;
  tree_runs = (one _, one _);
  row_searches = λ a b. one_answer a b v o;
  searches = (one _, one_left _);
  stores = (one_left _, (one_left _, one_left _));
  reads = (one _, one _);
}

pub table_right : TableHolds
unfolding all_hold table first_zeros lowest first or_else tree_log put put_small put_marked put_counted put_huge all bit_is block_is with_bits written
table_right = refl
