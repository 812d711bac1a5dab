-- The first that is not the mark is the first unmarked one. Assumes nothing.
use Rattle.std.proofs.Common.{◌≡◌, true, false, rules}
use Rattle.std.proofs.lemmas.Iterator.{first_from_Range}
use Rattle.rules.specs.Why.{unmarked}
use Rattle.why.proofs.Founds.{found_is}
use Rattle.why.proofs.first_unmarked.Goals as goal

pub returns : goal.returns
returns c =
    let p = unmarked c.args.entries.now in
    found_is p c.args.g c.args.at c.find.result
    (first_from_Range _ _ _ _ (λ x. p x ≡ true) (λ x. p x ≡ false) c.find.ensures.ran (λ x q k. search rules) (λ x q k. search rules))
