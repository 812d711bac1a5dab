-- The numbers of each answer: document 01, "A refusal returns its number with every other field 0 (a get refused with 7 or 8 still reports its probes)".
use Rattle.std.specs.Prelude.{◌≡◌, Result, Ok, Err, Option, Some, None, ℕ}
use Rattle.base.specs.declared.Refusal.{Refusal}
use Rattle.base.specs.Refused.{number_of, code_of}
use Rattle.answers.specs.declared.Taken.{Taken}
use Rattle.answers.specs.declared.Denied.{Denied}
use Rattle.answers.specs.declared.Free.{Free}
use Rattle.answers.specs.declared.Flaw.{Flaw}
use Rattle.answers.specs.declared.Faulty.{Faulty}
use Rattle.answers.specs.declared.Mended.{Mended}
use Rattle.answers.specs.declared.Cause.{Cause}
use Rattle.answers.specs.Numbers.{flaw_number, reason_of, frame_of}
use Rattle.bitfield_rules.specs.Calls.{placed_of, count_of, answered_of}
use Rattle.rules.specs.Numbered.{Got}
use Rattle.rules.specs.Numbered.{Stats}
use Rattle.rules.specs.Numbered.{Fault}
use Rattle.rules.specs.Numbered.{Recovered}
use Rattle.rules.specs.Numbered.{Why}
use Rattle.rules.specs.Numbered.{Visit}
use Rattle.rules.specs.Numbered.{Pass, Damage, Place}
use Rattle.rules.specs.Get.{got}
use Rattle.rules.specs.Queries.{statistics}
use Rattle.rules.specs.Audit.{fault}
use Rattle.rules.specs.Recover.{recovered}
use Rattle.rules.specs.Why.{why}

-- a get
abbrev pub got_of : Result Taken Denied → Got
got_of (Ok a) = got 0 a.frame a.probes
got_of (Err e) = got (number_of e.refusal) 0 e.probes

-- what a get makes of one entry: the frame of a block, none, or damage, the only refusal
abbrev pub visit_of : Result (Option ℕ) Refusal → Visit
visit_of (Ok (Some f)) = Place f
visit_of (Ok None) = Pass
visit_of (Err e) = Damage

-- what is free
abbrev pub stats_of : Result Free Refusal → Stats
stats_of (Ok a) = statistics 0 a.frames a.huge a.trees
stats_of (Err e) = statistics (number_of e) 0 0 0

-- what is wrong with a huge frame: 0 where nothing is
abbrev pub reason_in : Option Flaw → ℕ
reason_in None = 0
reason_in (Some f) = flaw_number f

-- an audit: "clean is 0, 0"
abbrev pub fault_of : Result (Option Faulty) Refusal → Fault
fault_of (Ok None) = fault 0 0 0
fault_of (Ok (Some a)) = fault 0 a.huge (flaw_number a.flaw)
fault_of (Err e) = fault (number_of e) 0 0

-- a recovery
abbrev pub recovered_of : Result Mended Refusal → Recovered
recovered_of (Ok a) = recovered 0 a.entries a.bitfields
recovered_of (Err e) = recovered (number_of e) 0 0

-- why a request is turned down: the reason, 0 where it would be done, and the frame beside it
abbrev pub cause_number : Option Cause → ℕ
cause_number None = 0
cause_number (Some c) = reason_of c

abbrev pub cause_frame : Option Cause → ℕ
cause_frame None = 0
cause_frame (Some c) = frame_of c

abbrev pub why_of : Result (Option Cause) Refusal → Why
why_of (Ok c) = why 0 (cause_number c) (cause_frame c)
why_of (Err e) = why (number_of e) 0 0

-- no two answers have the same numbers
abbrev pub Told : {A B : Type 0} → (A → B) → Type 0
Told {A} of = (a b : A) → of a ≡ of b → a ≡ b

-- so "two results satisfying one contract are equal", as their numbers are (EqualResults)
pub record AnswersAreTold : Type 0 where
  pub refusals : Told number_of
  pub codes : Told (code_of {A = Unit {0}})
  pub searches : Told placed_of
  pub counts : Told count_of
  pub questions : Told answered_of
  pub gets : Told got_of
  pub stats : Told stats_of
  pub audits : Told fault_of
  pub recovers : Told recovered_of
  pub whys : Told why_of

abbrev pub NumbersTell : Type 0
NumbersTell = AnswersAreTold
