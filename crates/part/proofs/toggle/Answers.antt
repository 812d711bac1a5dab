-- The rows that are lent on are the huge frame's.
use Rattle.std.proofs.Common.{◌≡◌, ◌-◌, ◌*◌, ◌/◌, ◌^◌, ap, arith, ℕ, ◌∙◌}
use Rattle.base.specs.Size.{rows_per}
use Rattle.rules.proofs.BlockTurns.{toggled_part}
use Rattle.part.proofs.toggle.Goals as goal

pub returns : goal.returns
returns c =
    let a = c.args in
    let first : c.rows_at.result.start ≡ a.frame / 2 ^ a.h.order * rows_per a.h.order = c.rows_at.ensures.first ∙ ap (λ (x : ℕ). x * rows_per a.h.order) c.frame_huge.ensures in
    let long : c.rows_at.result.end - c.rows_at.result.start ≡ rows_per a.h.order = omega (arith, c.rows_at.ensures.first, c.rows_at.ensures.past) in
    toggled_part c.args.h.within a.rows.now a.frame a.order a.expected c.requires.0 c.requires.2 c.requires.3 _ _ _ first long c.frame_place.ensures _ _ c.toggle.ensures
