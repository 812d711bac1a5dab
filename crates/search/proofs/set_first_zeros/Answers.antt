-- The search, and then the store.
use Rattle.std.proofs.Common.{refl, sym}
use Rattle.base.proofs.Refused.{numbered, handed_on}
use Rattle.bitfield_rules.specs.Calls.{placed_of}
use Rattle.bitfield_rules.proofs.Laws.{search_found, in_rows}
use Rattle.bitfield_rules.proofs.Search.{search_stores, search_stores_nothing}
use Rattle.search.proofs.set_first_zeros.Goals as goal

pub returns-in_err-place : goal.returns-in_err-place
returns-in_err-place c =
    let e = c.in_err-place.field-0.0 in
    rw (handed_on placed_of c.from_residual.result e c.from_residual.ensures.1)
    (search_stores_nothing _ _ _ _ c.in_err-place.ensures (numbered e))

pub write_block-requires : goal.write_block-requires
write_block-requires c = in_rows c.args.h.within (search_found c.args.h.within _ _ _ 0 c.in_ok-place.place (sym c.in_ok-place.ensures) refl).block

pub returns : goal.returns
returns c = search_stores _ _ _ _ c.in_ok-place.ensures refl c.write_block.ensures
