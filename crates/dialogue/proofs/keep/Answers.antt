-- `dialogue::keep` meets its contract: a copy behind what is kept. Assumes nothing.
use Rattle.std.proofs.Common.{arith}
use Rattle.dialogue.proofs.Cases.{kept_text}
use Rattle.dialogue.proofs.keep.Goals as goal

pub returns : goal.returns
returns c = (
  omega (arith, c.min-n.ensures),
  kept_text c.args.line.now c.args.part.now c.args.kept c.min-n.result c.requires.0 c.requires.1 c.min-n.ensures _ _ c.copy_from_slice.ensures.after,
)
