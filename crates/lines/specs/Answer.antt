-- Document 01, "Lines to check": "each line prints the code", then its numbers.
use Rattle.std.specs.Prelude.{List, [], ◌∷◌, ◌++◌, ℕ, zero, suc, ◌+◌, length}
use Rattle.std.proofs.Math.Seq.{paste}
use Rattle.base.specs.Code.{Out, out}
use Rattle.decimal.specs.Decimal.{decimal}
use Rattle.lines.specs.declared.Answer.{Answer}
use Rattle.lines.specs.declared.Fields.{Fields}
use Rattle.lines.specs.declared.Fields.TheVariants.{Nothing, One, Two, Three}
use Rattle.lines.specs.Bytes.{LF}
use Rattle.lines.specs.Read.{fields_text}

-- the first k of three numbers
abbrev pub fields : ℕ → ℕ → ℕ → ℕ → Fields
fields zero a b d = Nothing
fields (suc zero) a b d = One a
fields (suc (suc zero)) a b d = Two a b
fields (suc (suc (suc k))) a b d = Three a b d

abbrev pub answer : ℕ → ℕ → ℕ → ℕ → ℕ → Answer
answer c k a b d = record { code = c; fields = fields k a b d }

-- the code, the numbers beside it, one space before each, and LF
unfoldable pub answer_text : Answer → List ℕ
answer_text r = decimal r.code ++ fields_text r.fields ++ (LF ∷ [])

-- a text with another from a place on, and where the other ends
abbrev pub text_to : List ℕ → ℕ → List ℕ → Out ℕ (List ℕ)
text_to l at s = out (at + length s) (paste l at s (length s))

-- a text with an answer from a place on, and where the answer ends
unfoldable pub answer_to : List ℕ → ℕ → Answer → Out ℕ (List ℕ)
unfolding answer_text
answer_to l at r = text_to l at (answer_text r)
