-- A row is sixteen nibbles.
use Rattle.std.proofs.Common.{refl, arith}
use Rattle.row.specs.Row.{units}
use Rattle.row.proofs.clear_nibble.Goals as goal

pub clear_lane-requires : goal.clear_lane-requires
unfolding units
clear_lane-requires c = (omega arith, (16, refl, refl))
