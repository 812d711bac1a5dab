-- By the entries, and below the huge order by the rows. Assumes nothing.
use Rattle.std.proofs.Common.{List, ◌+◌, ◌<◌, ◌≤◌, ◌∙◌, ℕ, ap, refl, length, arith}
use Rattle.rules.specs.Numbers.{tree_of, trees_needed}
use Rattle.rules.specs.State.{mem}
use Rattle.rules.specs.Consistent.{ConsistentIn}
use Rattle.rules.specs.Why.{why}
use Rattle.rules.proofs.Numbers.{tree_pos, tree_high}
use Rattle.rules.proofs.Lent.{frame_tree}
use Rattle.rules.proofs.Needed.{tree_covers}
use Rattle.rules.proofs.GroupSteps.{order_low}
use Rattle.why.proofs.Trees.{free_rows, get_few, get_small_lem, get_none, get_some}
use Rattle.why.proofs.get.Goals as goal

-- the tree is one of those that n frames need
covered : (h n t : ℕ) (rows entries : List ℕ) (frame : ℕ) → ConsistentIn h n t (mem rows entries) (tree_of h t frame) → frame < n → tree_of h t frame < trees_needed h n t
covered h n t rows entries frame c l = tree_covers h n t frame (tree_pos t c.sized.tree) l

pub blocks-requires : goal.blocks-requires
blocks-requires c =
    (omega (arith, c.tree_first-first.ensures, frame_tree c.args.h.within c.requires.1.1), omega (arith, tree_high c.args.t.huge c.requires.1.1.sized.tree), omega arith)

pub size-requires : goal.size-requires
size-requires c = omega (arith, order_low c.args.order c.requires.1.1.sized c.requires.0, c.args.h.within.high)

pub get_small-requires : goal.get_small-requires
get_small-requires c =
    let a = c.args in
    let lent : c.tree_first-first.result + a.t.huge ≤ length a.entries.now = omega (arith, c.tree_first-first.ensures, frame_tree c.args.h.within c.requires.1.1) in
    (c.if-order-h.true, lent, free_rows c.args.h.within c.requires.1.2 (covered a.h.order c.requires.1.0 a.t.huge a.rows.now a.entries.now a.frame c.requires.1.2 c.requires.1.1.below) c.tree_first-first.ensures)

pub at_order-requires : goal.at_order-requires
at_order-requires c =
    (c.top_order.ensures, omega (arith, c.tree_first-first.ensures, frame_tree c.args.h.within c.requires.1.1))

pub returns-then-blocks-size : goal.returns-then-blocks-size
returns-then-blocks-size c n k l =
    let a = c.args in
    ap (λ (r : ℕ). why 0 r 0)
    (get_few c.args.h.within k (covered a.h.order n a.t.huge a.rows.now a.entries.now a.frame k l) c.tree_first-first.ensures _ c.blocks-2.ensures c.size.ensures c.if-blocks-size.true)

pub returns-then-order-h : goal.returns-then-order-h
returns-then-order-h c n k l =
    let a = c.args in
    c.get_small.ensures
    ∙ ap (λ (r : ℕ). why 0 r 0)
    (get_small_lem c.args.h.within k (covered a.h.order n a.t.huge a.rows.now a.entries.now a.frame k l) c.tree_first-first.ensures _ c.blocks-2.ensures c.size.ensures c.if-blocks-size.false c.if-order-h.true refl)

pub returns-then-at_order-eq0 : goal.returns-then-at_order-eq0
returns-then-at_order-eq0 c n k l =
    let a = c.args in
    ap (λ (r : ℕ). why 0 r 0)
    (get_none c.args.h.within k (covered a.h.order n a.t.huge a.rows.now a.entries.now a.frame k l) c.tree_first-first.ensures _ c.blocks-2.ensures c.size.ensures c.if-blocks-size.false c.if-order-h.false c.requires.0 c.at_order.ensures c.if-at_order-eq0.true)

pub returns-else-at_order-eq0 : goal.returns-else-at_order-eq0
returns-else-at_order-eq0 c n k l =
    let a = c.args in
    ap (λ (r : ℕ). why 0 r 0)
    (get_some c.args.h.within k (covered a.h.order n a.t.huge a.rows.now a.entries.now a.frame k l) c.tree_first-first.ensures _ c.blocks-2.ensures c.size.ensures c.if-blocks-size.false c.if-order-h.false c.requires.0 c.at_order.ensures c.if-at_order-eq0.false)
