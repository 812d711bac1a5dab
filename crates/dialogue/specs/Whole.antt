-- What is claimed of a dialogue: the answers to an input are those to its lines in order, in whatever parts it comes.
use Rattle.std.specs.Prelude.{◌≡◌, List, [], ◌∷◌, ◌++◌, ℕ, ◌<◌, eqb, length}
use Rattle.base.specs.Walk.{pick}
use Rattle.base.specs.Code.{out}
use Rattle.base.specs.Size.{huge_order}
use Rattle.rules.specs.State.{Mem}
use Rattle.lines.specs.declared.Answer.{Answer}
use Rattle.lines.specs.Bytes.{LF}
use Rattle.lines.specs.Read.{read_line}
use Rattle.asks.specs.Turn.{answered}
use Rattle.dialogue.specs.Dialogue.{Dialogue, dialogue, fed, answers, printed}

-- a byte before the first of some lines, which is the only one where there is none
abbrev pub with_byte : ℕ → List (List ℕ) → List (List ℕ)
with_byte b [] = (b ∷ []) ∷ []
with_byte b (l ∷ ls) = (b ∷ l) ∷ ls

-- the lines of an input: LF ends each, but for "a last unended nonempty line"
unfoldable pub lines_of : List ℕ → List (List ℕ)
lines_of [] = []
lines_of (b ∷ rest) = pick (eqb b LF) ([] ∷ lines_of rest) (with_byte b (lines_of rest))

-- the answers to lines, each with the N, T and memory that the line before it left
unfoldable pub replies : ℕ → ℕ → Mem → List (List ℕ) → List Answer
replies n t m [] = []
replies n t m (l ∷ ls) = let o = answered huge_order n t m (read_line l) in o.answer.answer ∷ replies o.answer.n o.answer.t o.left ls

-- bytes among which no line ends
abbrev pub Unended : List ℕ → Type 0
Unended [] = Unit
Unended (b ∷ rest) = (b ≡ LF → ⊥) × Unended rest

pub record Whole : Type 0 where
  -- what the lines of an input are: bytes up to LF, and what the rest has; or the bytes of the last
  pub line_ended : (l rest : List ℕ) → Unended l → lines_of (l ++ (LF ∷ rest)) ≡ l ∷ lines_of rest
  pub line_last : (l : List ℕ) → Unended l → 0 < length l → lines_of l ≡ l ∷ []
  -- every line of the input is answered, in order, by itself
  pub by_lines : (n t : ℕ) (m : Mem) (input : List ℕ) → answers (dialogue n t m []) input ≡ replies n t m (lines_of input)
  -- two parts of an input are the input, wherever it is cut
  pub in_parts : (d : Dialogue) (x y : List ℕ)
      → fed d (x ++ y) ≡ out ((fed d x).answer ++ (fed (fed d x).left y).answer) (fed (fed d x).left y).left
  -- and so is what is printed of them
  pub texts : (x y : List Answer) → printed (x ++ y) ≡ printed x ++ printed y
