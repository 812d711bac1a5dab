-- What the contracts say: what a part of the input leaves, and what is read and written of the whole.
use Rattle.std.specs.Prelude.{◌≡◌, List, ℕ, ◌≤◌, Option, IfSome}
use Rattle.std.specs.Io.KnownBytes.{Appends, Consumes}
use Rattle.dialogue.specs.Dialogue.{Dialogue, opening, fed, answers, printed}
use Rattle.dialogue.specs.declared.State.{State}

-- where all answers to a part of the input were written, the dialogue that was fed that part is left
pub record Passes (d : Dialogue) (input : List ℕ) (r : State) (left : Dialogue) : Type 0 where
  pub kept : r.kept ≤ 65
  pub leaves : left ≡ (fed d input).left

-- a dialogue that some input leads to
abbrev pub Reached : Dialogue → Type 0
Reached d = (input : List ℕ) × (d ≡ (fed opening input).left)

-- the same, where that input was read and the answers to it were written: of a reader whose bytes are known before and after,
-- and of a writer
pub record Follows (d : Dialogue) (unread unread' said said' : Option (List ℕ)) : Type 0 where
  pub reached : Reached d
  pub reads : Consumes unread unread' reached.0
  pub writes : Appends said said' (printed (fed opening reached.0).answer)

-- where a read failed: some input was read, and what is written is the answers to the lines that end in it
abbrev pub AnswersPart : Option (List ℕ) → Option (List ℕ) → Option (List ℕ) → Option (List ℕ) → Type 0
AnswersPart unread unread' said said' = (d : Dialogue) × Follows d unread unread' said said'

-- where the input has ended: what is written is the answers to all of it
abbrev pub AnswersAll : Option (List ℕ) → Option (List ℕ) → Option (List ℕ) → Type 0
AnswersAll unread said said' = IfSome unread (λ input. Appends said said' (printed (answers opening input)))
