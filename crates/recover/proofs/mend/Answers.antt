-- Whether the clear bits agree with the entry decides what becomes of it and of the rows. Assumes nothing.
use Rattle.std.proofs.Common.{arith}
use Rattle.recover.proofs.Mends.{zeros_fit, agrees, clears, replaces}
use Rattle.recover.proofs.mend.Goals as goal

pub overflow_cast-entries : goal.overflow_cast-entries
overflow_cast-entries c = omega (arith, zeros_fit c.args.h.within _ _ c.zeros-zeros.ensures)

pub returns-then-zeros-expected_zeros : goal.returns-then-zeros-expected_zeros
returns-then-zeros-expected_zeros c =
    agrees c.args.h.within _ _ _ (λ j. (c.slice_known-1.given j).fits) c.zeros-zeros.ensures c.expected_zeros.ensures c.if-zeros-expected_zeros.true

pub returns-then-entry : goal.returns-then-entry
returns-then-entry c =
    clears c.args.h.within _ _ _ (λ j. (c.slice_known-1.given j).fits) c.zeros-zeros.ensures c.expected_zeros.ensures c.if-zeros-expected_zeros.false c.if-entry.true
    c.requires.1 c.huge_row.ensures (omega (arith, c.huge_row.ensures, c.huge_row-then-entry.ensures)) c.fill_rows.ensures

pub returns-else-entry : goal.returns-else-entry
returns-else-entry c =
    replaces c.args.h.within _ _ _ (λ j. (c.slice_known-1.given j).fits) c.zeros-zeros.ensures c.expected_zeros.ensures c.if-zeros-expected_zeros.false c.if-entry.false
