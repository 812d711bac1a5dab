-- One law for every width; the caller says how many lanes there are.
use Rattle.std.proofs.Common.{◌≡◌, ◌+◌, ◌-◌, ◌%◌, ◌^◌, add-one, arith}
use Rattle.row.proofs.Lanes.{lane_law}
use Rattle.row.proofs.clear_lane.Goals as goal

pub returns : goal.returns
returns c o l width =
    let lanes = rw add-one at c.requires.1 in
    let v = c.args.v in
    let mask = c.args.mask in
    let back : ((v + (2 ^ 64 - mask)) % 2 ^ 64 + mask) % 2 ^ 64 ≡ v = omega arith in
    lane_law o c.args.top lanes.0 _ v mask l (rw add-one at width) lanes.1 lanes.2 c.ranges.v.fits back
