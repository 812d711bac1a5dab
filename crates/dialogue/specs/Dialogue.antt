-- Document 01, "Lines to check": a dialogue with `trace`, from the bytes that it reads to the bytes that it prints.
use Rattle.std.specs.Prelude.{List, [], ◌∷◌, ◌++◌, ℕ, eqb, length, take, replicate}
use Rattle.base.specs.Walk.{pick}
use Rattle.base.specs.Code.{Out, out}
use Rattle.base.specs.Size.{huge_order}
use Rattle.rules.specs.State.{Mem, mem}
use Rattle.lines.specs.declared.Answer.{Answer}
use Rattle.lines.specs.Answer.{answer_text}
use Rattle.lines.specs.Bytes.{LF}
use Rattle.lines.specs.Read.{read_line}
use Rattle.asks.specs.declared.Turn.{Turn}
use Rattle.asks.specs.Turn.{answered}

-- N and T of the last start that was done, the memory, and what is kept of a line that has not ended
pub record Dialogue : Type 0 where
  pub n : ℕ
  pub t : ℕ
  pub memory : Mem
  pub line : List ℕ

abbrev pub dialogue : ℕ → ℕ → Mem → List ℕ → Dialogue
dialogue n t m l = record { n = n; t = t; memory = m; line = l }

-- "4,096 rows and 512 entries, all zero at the start, with N = T = 0"
abbrev pub opening : Dialogue
opening = dialogue 0 0 (mem (replicate 4096 0) (replicate 512 0)) []

-- one byte more of a line. Of "lines of at most 64 bytes" sixty-five are kept: so many say that the line is longer
abbrev pub heard : Dialogue → ℕ → Dialogue
heard d b = dialogue d.n d.t d.memory (take 65 (d.line ++ (b ∷ [])))

-- a line has ended: its answer, and what it leaves
abbrev pub taken : Out Turn Mem → Out Answer Dialogue
taken o = out o.answer.answer (dialogue o.answer.n o.answer.t o.left [])

unfoldable pub ended : Dialogue → Out Answer Dialogue
ended d = taken (answered huge_order d.n d.t d.memory (read_line d.line))

-- one answer, and those after it
abbrev pub said_first : Answer → Out (List Answer) Dialogue → Out (List Answer) Dialogue
said_first a o = out (a ∷ o.answer) o.left

-- the answers to the bytes of an input, and the dialogue after them
unfoldable pub fed : Dialogue → List ℕ → Out (List Answer) Dialogue
unfolding ended
fed d [] = out [] d
fed d (b ∷ rest) = pick (eqb b LF) (said_first (ended d).answer (fed (ended d).left rest)) (fed (heard d b) rest)

-- where the input ends, "a last unended nonempty line counts"
unfoldable pub finished : Dialogue → Out (List Answer) Mem
unfolding ended
finished d = pick (eqb (length d.line) 0) (out [] d.memory) (out ((ended d).answer ∷ []) (ended d).left.memory)

-- the answers to a whole input
unfoldable pub answers : Dialogue → List ℕ → List Answer
unfolding fed finished
answers d input = (fed d input).answer ++ (finished (fed d input).left).answer

-- what is printed: a line for each answer
unfoldable pub printed : List Answer → List ℕ
unfolding answer_text
printed [] = []
printed (a ∷ rest) = answer_text a ++ printed rest
