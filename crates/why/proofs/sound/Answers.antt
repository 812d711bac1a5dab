-- No huge frame of the tree has a reason. Assumes nothing.
use Rattle.std.proofs.Common.{◌≡◌, ℕ, ◌+◌, ◌<◌, ◌∙◌, eqb, ap, refl, arith, rules}
use Rattle.std.proofs.lemmas.Iterator.{YieldsList-from_range, serves_from_Range}
use Rattle.std.proofs.lemmas.Iterator.Search.{all_from_yields_List}
use Rattle.std.proofs.lemmas.Grind.{common_steps}
use Rattle.std.proofs.Math.Nat.{add-sub_cancel_left}
use Rattle.base.specs.Walk.{all}
use Rattle.rules.specs.Numbers.{entries_needed}
use Rattle.rules.specs.State.{mem}
use Rattle.rules.specs.Audit.{reason}
use Rattle.rules.specs.Why as spec
use Rattle.rules.proofs.Numbers.{tree_pos}
use Rattle.rules.proofs.Needed.{tree_covers, tree_needed}
use Rattle.audit.proofs.Cases.{clean_is}
use Rattle.why.proofs.Founds.{all_range}
use Rattle.why.proofs.sound.Goals as goal

pub all-requires-clause-callable : goal.all-requires-clause-callable
all-requires-clause-callable c =
    let a = c.args in
    let s = c.requires in
    let last = tree_needed a.h.order a.n a.t.huge _ (tree_covers a.h.order a.n a.t.huge a.frame (tree_pos a.t.huge s.sized.tree) s.below) in
    serves_from_Range (λ x q k. search rules) (λ x lo hi.
    let needed : x < entries_needed a.h.order a.n a.t.huge = omega (arith, hi, c.tree_first-first.ensures, last) in
    search rules)

pub returns : goal.returns
unfolding spec.sound
returns c =
    let a = c.args in
    let clean = λ (x : ℕ). eqb (reason a.h.order a.n (mem a.rows.now a.entries.now) x) 0 in
    let first = c.tree_first-first.result in
    all_from_yields_List clean _ _ c.all.result c.all.ensures.ran (YieldsList-from_range first (first + a.t.huge) a.t.huge refl (add-sub_cancel_left first a.t.huge))
    (λ x b q k. (search rules, let its : b ≡ clean x = grind (arith, common_steps, clean_is) in its))
    ∙ all_range clean a.t.huge first ∙ ap (λ (i : ℕ). all clean a.t.huge i) c.tree_first-first.ensures
