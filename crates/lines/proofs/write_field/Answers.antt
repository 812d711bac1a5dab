-- `lines::write_field` meets its contract: a space, and a number behind it. Assumes nothing.
use Rattle.std.proofs.Common.{◌+◌, ◌<◌, ◌∙◌, [], ◌∷◌, length, set, arith}
use Rattle.decimal.specs.Decimal.{decimal}
use Rattle.lines.specs.Bytes.{space}
use Rattle.lines.proofs.Pastes.{text_behind, text_byte, text_number}
use Rattle.lines.proofs.write_field.Goals as goal

pub returns-clause-writes : goal.returns-clause-writes
returns-clause-writes c =
    let a = c.args in
    let room : a.at < length a.text.now = omega arith in
    text_behind a.text.now (space ∷ []) (decimal a.n) a.at (omega arith) (text_byte a.text.now a.at space room)
    (c.write.ensures.writes ∙ text_number (set a.text.now a.at space) (a.at + 1) a.n)
