-- What is claimed of reading: a good line is the text of what it asks for, and every such text is read as that.
use Rattle.std.specs.Prelude.{◌≡◌, Some, List, ◌⊎◌, ℕ, ◌^◌, ◌<◌, take}
use Rattle.rules.specs.declared.Init.{Init}
use Rattle.lines.specs.declared.Line.{Line}
use Rattle.lines.specs.declared.Line.TheVariants.{Starts, Changes, Asks}
use Rattle.lines.specs.declared.Change.TheVariants.{Get, GetAt, Put, Recover}
use Rattle.lines.specs.declared.Question.TheVariants.{IsFree, StatsOfAll, StatsAt, Audit}
use Rattle.lines.specs.Read.{short_tree, read_line, text_of, short_text}

-- two numbers that are "below 2^64"
abbrev pub TwoFit : ℕ → ℕ → Type 0
TwoFit a b = (a < 2 ^ 64) × (b < 2 ^ 64)

-- what a good line asks for, all its numbers "below 2^64"
abbrev pub Fits : Line → Type 0
Fits (Starts n t i) = TwoFit n t
Fits (Changes (Get row order)) = TwoFit row order
Fits (Changes (GetAt frame order)) = TwoFit frame order
Fits (Changes (Put frame order)) = TwoFit frame order
Fits (Changes Recover) = Unit
Fits (Asks (IsFree frame order)) = TwoFit frame order
Fits (Asks StatsOfAll) = Unit
Fits (Asks (StatsAt frame order)) = TwoFit frame order
Fits (Asks Audit) = Unit

-- "I N m with T = 4": a start in its short form
pub record Short (l : List ℕ) (c : Line) : Type 0 where
  pub frames : ℕ
  pub init : Init
  pub text : l ≡ short_text frames init
  pub asks : c ≡ Starts frames short_tree init

pub record Reading : Type 0 where
  -- a line that is not bad is the text of what it asks for, in whole or in short
  pub good_line : (l : List ℕ) (c : Line) → read_line l ≡ Some c → Fits c × ((l ≡ text_of c) ⊎ Short l c)
  -- and every such text is read as that
  pub text_line : (c : Line) → Fits c → read_line (text_of c) ≡ Some c
  pub short_line : (n : ℕ) (i : Init) → n < 2 ^ 64 → read_line (short_text n i) ≡ Some (Starts n short_tree i)
  -- a line that is cut at sixty-five bytes is read as the whole
  pub cut_line : (l : List ℕ) → read_line (take 65 l) ≡ read_line l
