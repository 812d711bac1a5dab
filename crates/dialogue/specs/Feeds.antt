-- What the contracts say: the dialogue that the code holds, what a part of the input makes of it, and what is printed.
use Rattle.std.specs.Prelude.{◌≡◌, Option, Some, None, List, [], ◌∷◌, ◌⊎◌, ℕ, ◌+◌, ◌≤◌, ◌<◌, length, take}
use Rattle.base.specs.Code.{out}
use Rattle.rules.specs.State.{mem}
use Rattle.lines.specs.declared.Answer.{Answer}
use Rattle.lines.specs.Answer.{text_to}
use Rattle.dialogue.specs.declared.State.{State}
use Rattle.dialogue.specs.declared.Fed.{Fed}
use Rattle.dialogue.specs.declared.Served.{Served}
use Rattle.dialogue.specs.Dialogue.{Dialogue, dialogue, fed, printed}

-- the dialogue of a state, the lent memory, and the buffer of a line
abbrev pub held : State → List ℕ → List ℕ → List ℕ → Dialogue
held s rows entries line = dialogue s.n s.t (mem rows entries) (take s.kept line)

-- what a line's buffer must have, and what is kept in it
pub record Ready (s : State) (line : List ℕ) : Type 0 where
  pub kept : s.kept ≤ 65
  pub room : 65 ≤ length line

abbrev pub replied : Option Answer → List Answer
replied None = []
replied (Some a) = a ∷ []

-- the input is fed up to the end of a line, or whole where none ends in it
pub record Feeds (d : Dialogue) (input : List ℕ) (r : Fed) (left : Dialogue) : Type 0 where
  pub kept : r.state.kept ≤ 65
  pub within : r.used ≤ length input
  pub stops : r.reply ≡ None → r.used ≡ length input
  pub says : out (replied r.reply) left ≡ fed d (take r.used input)

-- the input is fed whole, or as far as one more answer, of at most 84 bytes, is sure to fit behind what is printed
pub record Serves (d : Dialogue) (input text : List ℕ) (r : Served) (text' : List ℕ) (left : Dialogue) : Type 0 where
  pub kept : r.state.kept ≤ 65
  pub within : r.used ≤ length input
  pub fits : r.end ≤ length text
  pub stops : (r.used ≡ length input) ⊎ (length text < r.end + 84)
  pub leaves : left ≡ (fed d (take r.used input)).left
  pub prints : out r.end text' ≡ text_to text 0 (printed (fed d (take r.used input)).answer)
