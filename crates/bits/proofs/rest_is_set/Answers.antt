-- The bits of the place's own row are tested by a shift, and then the rows behind it.
use Rattle.bits.proofs.Tails.{rest_broken, rest_behind}
use Rattle.bits.proofs.rest_is_set.Goals as goal

pub returns-then-rows-i : goal.returns-then-rows-i
returns-then-rows-i c = rest_broken c.args.rows.now c.args.place c.requires.0 (λ j. (c.type_inv.rows j).fits) c.if-rows-i.true

pub returns : goal.returns
returns c = rest_behind c.args.rows.now c.args.place c.requires.0 (λ j. (c.type_inv.rows j).fits) c.if-rows-i.false c.rows_are.ensures
