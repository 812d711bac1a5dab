-- Some frame of the block is held, or none. Assumes nothing.
use Rattle.std.proofs.Common.{◌≡◌, arith}
use Rattle.std.proofs.lemmas.Grind.{common_steps}
use Rattle.std.specs.Option.{option_map}
use Rattle.answers.specs.declared.Cause.TheVariants.{Held}
use Rattle.why.proofs.Cases.{get_at_told}
use Rattle.why.proofs.get_at.Goals as goal

pub returns : goal.returns
returns c n l =
    let told : c.map.result ≡ option_map Held c.first_frame.result = grind (arith, common_steps) in
    get_at_told _ n _ _ _ l (rw c.first_frame.ensures at told)
