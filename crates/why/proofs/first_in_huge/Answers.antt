-- By the mark, or by the bits. Assumes nothing.
use Rattle.std.proofs.Common.{◌∙◌, sym, ap}
use Rattle.rules.specs.State.{mem, entry_of}
use Rattle.why.proofs.Blocks.{marked_found, unmarked_found}
use Rattle.why.proofs.first_in_huge.Goals as goal

pub returns-then-entries-frame_huge : goal.returns-then-entries-frame_huge
returns-then-entries-frame_huge c =
    let s = c.args in
    c.then_some.ensures
    ∙ marked_found _ (mem s.rows.now s.entries.now) _ _ c.requires.0 c.requires.1.aligned
    (sym (ap (entry_of s.entries.now) c.frame_huge.ensures) ∙ c.if-entries-frame_huge.true) s.held

pub returns : goal.returns
returns c =
    let s = c.args in
    c.then_some-2.ensures
    ∙ unmarked_found _ (mem s.rows.now s.entries.now) _ _ c.requires.0 c.requires.1.aligned
    (λ e. c.if-entries-frame_huge.false (ap (entry_of s.entries.now) c.frame_huge.ensures ∙ e)) s.held c.block_first-first.ensures c.size.ensures
