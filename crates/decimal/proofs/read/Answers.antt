-- `decimal::read` meets its contract: a law for each way out. Assumes nothing.
use Rattle.std.proofs.Common.{◌≡◌, ◌∙◌, ◌<◌, inl, inr, refl, sym, arith, rules, tests, length, get_or}
use mathlib.Core.Logic.{⊎_elim}
use borrow.Author.Tests.{eqb-true, eqb-false, ltb-true}
use Rattle.std.specs.Char.{is_ascii_digit}
use Rattle.std.specs.List.{prefix_len, take_while}
use Rattle.std.proofs.lemmas.List.{length_push}
use Rattle.std.proofs.lemmas.Iterator.{YieldsList-from_slice}
use Rattle.std.proofs.lemmas.Iterator.Consumers.{YieldsList-turn, YieldsList-end}
use Rattle.std.proofs.lemmas.Iterator.Search.{YieldsList-from_take_while}
use Rattle.decimal.specs.Decimal.{value_at}
use Rattle.decimal.proofs.Cases.{Run, none_past, none_read, none_fits, one_more, all_read, next_digit, no_more}
use Rattle.decimal.proofs.read.Goals as goal
use Rattle.decimal.proofs.read.Goals.{In-Some, In-None, then-len-eq0-via-then-len-eq0, then-len-eq0-via-else-len-eq0+then-rest-eq48, then-len-gt1, else-len-gt1}

-- the digits that the rest of the line begins with
run : (c : In-Some) → Run c.args.line.now c.in_ok-rest.rest.now c.args.at (prefix_len is_ascii_digit c.in_ok-rest.rest.now)
run c =
    let rest = c.in_ok-rest.ensures.lookup.0 in
    record { from = rest.0; is = rest.2; many = refl }

-- the byte of a turn is the next of them
turn : (c : In-Some) → (c.loop-c.len < prefix_len is_ascii_digit c.in_ok-rest.rest.now) × (c.in-Some.c.now ≡ get_or (take_while is_ascii_digit c.in_ok-rest.rest.now) c.loop-c.len 0)
turn c =
    let rest = c.in_ok-rest.rest.now in
    let road = YieldsList-from_take_while _ is_ascii_digit (YieldsList-from_slice rest (search rules)) (search rules) (search rules) (λ x b q k. search (rules, tests)) in
    next_digit rest c.loop-c.len (length c.loop-c.yielded) c.loop-c.invariant.0 (YieldsList-turn road c.loop-c.yielded _ c.loop-c.yielded_by _ _ c.in-Some.c c.in-Some.is c.next.ensures.steps)

-- after the last turn so many were read
ended : (c : In-None) → Run c.args.line.now c.in_ok-rest.rest.now c.args.at c.loop-c.len
ended c =
    let rest = c.in_ok-rest.rest.now in
    let road = YieldsList-from_take_while _ is_ascii_digit (YieldsList-from_slice rest (search rules)) (search rules) (search rules) (λ x b q k. search (rules, tests)) in
    let t = YieldsList-end road c.loop-c.yielded _ c.loop-c.yielded_by _ _ c.in-None.is c.next.ensures.steps in
    let found = c.in_ok-rest.ensures.lookup.0 in
    record { from = found.0; is = found.2; many = no_more rest c.loop-c.len (length c.loop-c.yielded) c.loop-c.invariant.0 t.1 }

pub returns-in_err-rest : goal.returns-in_err-rest
returns-in_err-rest c =
    c.from_residual.ensures ∙ none_past c.args.line.now c.args.at (⊎_elim (λ h. h) (λ h. absurd (omega arith)) c.in_err-rest.ensures.lookup.0)

pub loop-c-init : goal.loop-c-init
unfolding value_at
loop-c-init c = (refl, refl, omega arith)

pub returns-in_err-tens : goal.returns-in_err-tens
returns-in_err-tens c =
    let here = goal.at.returns-in_err-tens c in
    let t = turn here.In-Some in
    let r = run here.In-Some in
    c.from_residual-in_err-tens.ensures ∙ none_fits r c.loop-c.len t.0 (omega arith)

pub returns-in_err-value : goal.returns-in_err-value
returns-in_err-value c =
    let here = goal.at.returns-in_err-value c in
    let t = turn here.In-Some in
    let r = run here.In-Some in
    c.from_residual-in_err-value.ensures ∙ none_fits r c.loop-c.len t.0 (omega arith)

pub loop-c-preserved : goal.loop-c-preserved
loop-c-preserved c =
    let here = goal.at.loop-c-preserved c in
    let t = turn here.In-Some in
    let r = run here.In-Some in
    let more = one_more r c.loop-c.len t.0 in
    (omega (arith, c.loop-c.invariant.0, length_push c.loop-c.yielded c.in-Some.c), grind arith, grind arith)

pub returns-then-len-eq0 : goal.returns-then-len-eq0
returns-then-len-eq0 c =
    none_read (ended (goal.at.returns-then-len-eq0 c).In-None)
    (elim c.then-len-eq0.branch [
      | then-len-eq0-via-then-len-eq0 w ↦ inl w.if-len-eq0.true
      | then-len-eq0-via-else-len-eq0+then-rest-eq48 w ↦ inr (elim w.if-len-gt1.branch [
        | then-len-gt1 v ↦ (v.if-len-gt1.true, eqb-true _ _ (sym v.value-is ∙ w.if-rest-eq48.true))
        | else-len-gt1 v ↦ absurd (omega (arith, ltb-true _ _ (sym v.value-is ∙ w.if-rest-eq48.true), v.if-len-gt1.false))
      ])
    ])

pub returns : goal.returns
returns c =
    all_read (ended (goal.at.returns c).In-None) (omega arith)
    (elim c.if-len-gt1.branch [
      | then-len-gt1 w ↦ inr (eqb-false _ _ (sym w.value-is ∙ c.if-rest-eq48.false))
      | else-len-gt1 w ↦ inl w.if-len-gt1.false
    ])
    c.loop-c.value c.loop-c.invariant.1 c.loop-c.invariant.2
