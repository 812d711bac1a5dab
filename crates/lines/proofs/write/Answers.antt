-- `lines::write` meets its contract: the code, the fields behind it, and LF behind them. Assumes nothing.
use Rattle.std.proofs.Common.{[], ◌∷◌, ◌++◌, ◌∙◌, arith}
use Rattle.decimal.specs.Decimal.{decimal}
use Rattle.lines.specs.Bytes.{LF}
use Rattle.lines.specs.Read.{fields_text}
use Rattle.lines.specs.Answer.{answer_text, answer_to}
use Rattle.lines.proofs.Pastes.{text_behind, text_byte, text_number}
use Rattle.lines.proofs.Texts.{numbers_short, decimal_short}
use Rattle.lines.proofs.write.Goals as goal

pub returns-clause-writes : goal.returns-clause-writes
unfolding answer_to answer_text
returns-clause-writes c =
    let a = c.args in
    let digits = decimal a.answer.code in
    let numbers = fields_text a.answer.fields in
    let end = c.write_fields-end in
    let code = c.write-code.ensures.writes ∙ text_number a.text.now a.at a.answer.code in
    let both = text_behind a.text.now digits numbers a.at (omega (arith, decimal_short a.answer.code)) code end.ensures.writes in
    text_behind a.text.now (digits ++ numbers) (LF ∷ []) a.at (omega (arith, numbers_short a.answer.code a.answer.fields)) both
    (text_byte end.new.text end.result LF (omega arith))
