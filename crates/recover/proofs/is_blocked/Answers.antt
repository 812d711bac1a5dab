-- The last present huge frame is asked for its reason, and the absent entries whether they are 0. Assumes nothing.
use Rattle.std.proofs.Common.{◌≡◌, ◌∙◌, ◌||◌, eqb, arith}
use Rattle.std.proofs.lemmas.Grind.{common_steps}
use Rattle.rules.specs.Answers.{reason_in}
use Rattle.rules.proofs.Present.{last_low, last_needed}
use Rattle.recover.proofs.Hinders.{blocked_last, blocked_absent}
use Rattle.recover.proofs.is_blocked.Goals as goal

pub reason-requires : goal.reason-requires
reason-requires c = (_, (c.requires, last_needed c.requires c.frame_huge-last.ensures))

pub overflow_add-absent : goal.overflow_add-absent
overflow_add-absent c = omega (arith, last_low c.requires c.frame_huge-last.ensures)

pub overflow_sub-entries_needed : goal.overflow_sub-entries_needed
overflow_sub-entries_needed c = omega (arith, c.entries_needed.ensures, last_needed c.requires c.frame_huge-last.ensures)

pub are-requires : goal.are-requires
are-requires c =
    omega (arith, c.entries_needed.ensures, c.requires.entries, last_needed c.requires c.frame_huge-last.ensures)

pub returns-then-matches : goal.returns-then-matches
returns-then-matches c =
    let asked : (eqb (reason_in c.reason.result) 1 || eqb (reason_in c.reason.result) 3) ≡ c.match-matches.matches = grind (arith, common_steps) in
    c.if-matches.true ∙ blocked_last _ _ c.requires c.frame_huge-last.ensures c.reason.ensures (asked ∙ c.if-matches.true)

pub returns-else-matches : goal.returns-else-matches
returns-else-matches c =
    let asked : (eqb (reason_in c.reason.result) 1 || eqb (reason_in c.reason.result) 3) ≡ c.match-matches.matches = grind (arith, common_steps) in
    blocked_absent _ _ c.requires c.frame_huge-last.ensures c.reason.ensures (asked ∙ c.if-matches.false) c.entries_needed.ensures c.are.ensures
