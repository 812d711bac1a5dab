-- With the j digits that are left, the text is what it is to be.
use Rattle.std.proofs.Common.{◌≡◌, length}
use Rattle.std.proofs.Math.Seq.{paste}
use Rattle.decimal.specs.Decimal.{digits}
use Rattle.decimal.proofs.store.Given as goal

abbrev pub invariant-loop-j : goal.invariant-loop-j
invariant-loop-j l = (length l.text ≡ length l.fn.text) × (paste l.text l.at (digits l.j l.rest) l.j ≡ paste l.fn.text l.at (digits l.k l.n) l.k)
