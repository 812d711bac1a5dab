-- A row is four half words.
use Rattle.std.proofs.Common.{refl, arith}
use Rattle.row.specs.Row.{units}
use Rattle.row.proofs.clear_half_word.Goals as goal

pub clear_lane-requires : goal.clear_lane-requires
unfolding units
clear_lane-requires c = (omega arith, (4, refl, refl))
