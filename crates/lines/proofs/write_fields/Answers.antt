-- `lines::write_fields` meets its contract: a field, and another behind it. Assumes nothing.
use Rattle.std.proofs.Common.{◌++◌, length-append, arith}
use Rattle.lines.specs.Read.{field}
use Rattle.lines.proofs.Pastes.{text_behind}
use Rattle.lines.proofs.Texts.{field_short}
use Rattle.lines.proofs.write_fields.Goals as goal

pub returns-in-Two-clause-writes : goal.returns-in-Two-clause-writes
returns-in-Two-clause-writes c =
    let a = c.args in
    rw c.in-Two.is
    (text_behind a.text.now (field c.in-Two.a) (field c.in-Two.b) a.at (omega (arith, field_short c.in-Two.a)) c.write_field-one.ensures.writes
    c.write_field-in-Two.ensures.writes)

pub returns-in-Three-clause-writes : goal.returns-in-Three-clause-writes
returns-in-Three-clause-writes c =
    let a = c.args in
    let x = field c.in-Three.a in
    let y = field c.in-Three.b in
    let first = c.write_field-one-in-Three in
    let two = text_behind a.text.now x y a.at (omega (arith, field_short c.in-Three.a)) first.ensures.writes c.write_field-two.ensures.writes in
    rw c.in-Three.is
    (text_behind a.text.now (x ++ y) (field c.in-Three.c) a.at (omega (arith, field_short c.in-Three.a, field_short c.in-Three.b, length-append x y)) two
    c.write_field-in-Three.ensures.writes)
