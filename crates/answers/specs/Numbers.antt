-- The numbers of what a call answers: documents 01 and 02.
use Rattle.std.specs.Prelude.{◌≡◌, ℕ}
use Rattle.base.specs.declared.Refusal.{Refusal}
use Rattle.answers.specs.declared.Denied.{Denied}
use Rattle.answers.specs.declared.Flaw.{Flaw}
use Rattle.answers.specs.declared.Flaw.TheVariants.{PartialMark, HeldUnderMark, ClearPastEnd, WrongCount, AbsentEntry}
use Rattle.answers.specs.declared.Cause.{Cause}
use Rattle.answers.specs.declared.Cause.TheVariants.{TooFew, Spread, NoBlock, Held, Free, Single}

-- document 01, "Refusal numbers": a check that fails, "every other field 0"
abbrev pub Refuses : Refusal → Denied → Type 0
Refuses r d = d ≡ record { refusal = r; probes = 0 }

-- document 01, "Queries, start and recovery": the reasons of an audit
abbrev pub flaw_number : Flaw → ℕ
flaw_number PartialMark = 1
flaw_number HeldUnderMark = 2
flaw_number ClearPastEnd = 3
flaw_number WrongCount = 4
flaw_number AbsentEntry = 5

-- document 02, W-202: the reasons why a get or a put is turned down ..
abbrev pub reason_of : Cause → ℕ
reason_of TooFew = 1
reason_of Spread = 2
reason_of NoBlock = 3
reason_of (Held f) = 4
reason_of (Free f) = 5
reason_of (Single f) = 6

-- .. and the frame beside 4, 5 and 6
abbrev pub frame_of : Cause → ℕ
frame_of TooFew = 0
frame_of Spread = 0
frame_of NoBlock = 0
frame_of (Held f) = f
frame_of (Free f) = f
frame_of (Single f) = f
