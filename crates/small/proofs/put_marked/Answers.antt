-- The whole huge frame is set, and then the block, which is set with it, is cleared. Assumes nothing.
use mathlib.Core.Path.{◌≡◌, refl, ap, ◌∙◌}
use Prim.Native.Nat.{ℕ, ◌*◌, ◌^◌}
use native.Mathlib.Omega.{arith}
use Rattle.std.proofs.lemmas.Grind.{common_steps}
use mathlib.Core.Bool.{true, false}
use Rattle.base.specs.Refused.{code_of}
use Rattle.rules.specs.Put.{put_marked}
use Rattle.rules.proofs.BlockTurns.{turn_done, if_turned}
use Rattle.rules.proofs.Below.{entry_lent, turn_asked, whole_asked, whole_set}
use Rattle.small.proofs.put_marked.Goals as goal

pub toggle-requires : goal.toggle-requires
toggle-requires c =
    whole_asked c.args.h.within c.requires.0 c.requires.1.2 (c.huge_frame-first.ensures ∙ ap (λ (y : ℕ). y * 2 ^ c.args.h.order) c.frame_huge-x.ensures)

pub toggle-requires-2 : goal.toggle-requires-2
toggle-requires-2 c = rw c.toggle.auto.rows (turn_asked c.args.h.within c.requires.0 c.requires.1.2)

pub bounds-entries-x : goal.bounds-entries-x
bounds-entries-x c = entry_lent c.args.h.within c.requires.0 c.requires.1.2 c.frame_huge-x.ensures

pub returns : goal.returns
unfolding put_marked
returns c =
    let a = c.args in
    let first = c.huge_frame-first.ensures ∙ ap (λ (y : ℕ). y * 2 ^ c.args.h.order) c.frame_huge-x.ensures in
    let done : code_of c.toggle.result ≡ 0 = grind (arith, common_steps) in
    let whole = if_turned a.rows.now c.huge_frame-first.result a.h.order false c.toggle.ensures done in
    let set = whole_set c.args.h.within c.requires.0 c.requires.1.2 first a.rows.now refl in
    let block = turn_done c.toggle.new.rows a.frame a.order true c.toggle-2.ensures (rw whole.1 set) in
    rw (block.1, whole.1, ← first, whole.0, ← c.frame_huge-x.ensures, c.size.ensures)
