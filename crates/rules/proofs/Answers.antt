-- No two answers have the same numbers: each is read back from them. Assumes nothing.
use mathlib.Core.Path.{◌≡◌, refl, sym, ap, ◌∙◌}
use mathlib.Core.Bool.{Bool, false}
use mathlib.Core.List.{List}
use Prim.Native.Nat.{ℕ}
use lib.Dec.{eqb}
use borrow.Author.Tests.{ne_eqb}
use Rattle.std.specs.Prelude.{Result, Ok, Err, Option, Some, None}
use Rattle.base.specs.Walk.{pick}
use Rattle.base.specs.declared.Refusal.{Refusal}
use Rattle.base.specs.declared.Refusal.TheVariants.{Frames, Tree, Lent, Order, Range, Alignment, Memory, Damage}
use Rattle.base.specs.Refused.{number_of, code_of}
use Rattle.base.proofs.Refused.{numbered}
use Rattle.answers.specs.declared.Taken.{Taken}
use Rattle.answers.specs.declared.Denied.{Denied}
use Rattle.answers.specs.declared.Free.{Free}
use Rattle.answers.specs.declared.Flaw.{Flaw}
use Rattle.answers.specs.declared.Flaw.TheVariants.{PartialMark, HeldUnderMark, ClearPastEnd, WrongCount, AbsentEntry}
use Rattle.answers.specs.declared.Faulty.{Faulty}
use Rattle.answers.specs.declared.Mended.{Mended}
use Rattle.answers.specs.declared.Cause.{Cause}
use Rattle.answers.specs.declared.Cause.TheVariants.{TooFew, Spread, NoBlock, Held, Free as FreeFrame, Single}
use Rattle.bitfield_rules.specs.Calls.{Placed}
use Rattle.bitfield_rules.specs.Calls.{ZeroCount}
use Rattle.bitfield_rules.specs.Calls.{Answered}
use Rattle.bitfield_rules.specs.Calls.{placed_of, count_of, answered_of}
use Rattle.rules.specs.Numbered.{Got}
use Rattle.rules.specs.Numbered.{Stats}
use Rattle.rules.specs.Numbered.{Fault}
use Rattle.rules.specs.Numbered.{Recovered}
use Rattle.rules.specs.Numbered.{Why}
use Rattle.rules.specs.Answers.{got_of, stats_of, fault_of, recovered_of, why_of, Told, NumbersTell}

-- what can be read back is told
told_by : {A B : Type 0} (of : A → B) (back : B → A) → ((a : A) → back (of a) ≡ a) → Told of
told_by of back right a b e = sym (right a) ∙ (ap back e ∙ right b)

-- the refusal of a number
abbrev refusal : ℕ → Refusal
refusal n =
    pick (eqb n 1) Frames (pick (eqb n 2) Tree (pick (eqb n 3) Lent (pick (eqb n 4) Order (pick (eqb n 5) Range (pick (eqb n 6) Alignment (pick (eqb n 7) Memory Damage))))))

refusal_back : (e : Refusal) → refusal (number_of e) ≡ e
refusal_back Frames = refl
refusal_back Tree = refl
refusal_back Lent = refl
refusal_back Order = refl
refusal_back Range = refl
refusal_back Alignment = refl
refusal_back Memory = refl
refusal_back Damage = refl

-- an answer of its code, and of what it is where it is done
abbrev answer : {A : Type 0} → ℕ → A → Result A Refusal
answer c a = pick (eqb c 0) (Ok a) (Err (refusal c))

refused_back : {A : Type 0} (e : Refusal) (a : A) → answer (number_of e) a ≡ Err e
refused_back e a = rw (ne_eqb (number_of e) 0 (numbered e), refusal_back e)

-- an answer of its code alone
abbrev done : ℕ → Result (Unit {0}) Refusal
done c = answer c tt

done_back : (r : Result (Unit {0}) Refusal) → done (code_of r) ≡ r
done_back (Ok u) = refl
done_back (Err e) = refused_back e tt

abbrev searched : Placed → Result ℕ Refusal
searched p = answer p.code p.place

searched_back : (r : Result ℕ Refusal) → searched (placed_of r) ≡ r
searched_back (Ok p) = refl
searched_back (Err e) = refused_back e 0

abbrev counted : ZeroCount → Result ℕ Refusal
counted z = answer z.code z.zeros

counted_back : (r : Result ℕ Refusal) → counted (count_of r) ≡ r
counted_back (Ok z) = refl
counted_back (Err e) = refused_back e 0

abbrev asked : Answered → Result Bool Refusal
asked a = answer a.code a.yes

asked_back : (r : Result Bool Refusal) → asked (answered_of r) ≡ r
asked_back (Ok y) = refl
asked_back (Err e) = refused_back e false

abbrev gotten : Got → Result Taken Denied
gotten g = pick (eqb g.code 0) (Ok (record { frame = g.frame; probes = g.probes })) (Err (record { refusal = refusal g.code; probes = g.probes }))

gotten_back : (r : Result Taken Denied) → gotten (got_of r) ≡ r
gotten_back (Ok a) = refl
gotten_back (Err e) = rw (ne_eqb (number_of e.refusal) 0 (numbered e.refusal), refusal_back e.refusal)

abbrev free : Stats → Result Free Refusal
free s = answer s.code (record { frames = s.free_frames; huge = s.free_huge; trees = s.free_trees })

free_back : (r : Result Free Refusal) → free (stats_of r) ≡ r
free_back (Ok a) = refl
free_back (Err e) = refused_back e _

abbrev mended : Recovered → Result Mended Refusal
mended r = answer r.code (record { entries = r.entries; bitfields = r.bitfields })

mended_back : (r : Result Mended Refusal) → mended (recovered_of r) ≡ r
mended_back (Ok a) = refl
mended_back (Err e) = refused_back e _

-- the flaw of a reason
abbrev flaw : ℕ → Flaw
flaw n = pick (eqb n 1) PartialMark (pick (eqb n 2) HeldUnderMark (pick (eqb n 3) ClearPastEnd (pick (eqb n 4) WrongCount AbsentEntry)))

abbrev faulty : Fault → Result (Option Faulty) Refusal
faulty f = answer f.code (pick (eqb f.reason 0) None (Some (record { huge = f.huge; flaw = flaw f.reason })))

faulty_some : (x : ℕ) (f : Flaw) → faulty (fault_of (Ok (Some (record { huge = x; flaw = f })))) ≡ Ok (Some (record { huge = x; flaw = f }))
faulty_some x PartialMark = refl
faulty_some x HeldUnderMark = refl
faulty_some x ClearPastEnd = refl
faulty_some x WrongCount = refl
faulty_some x AbsentEntry = refl

faulty_back : (r : Result (Option Faulty) Refusal) → faulty (fault_of r) ≡ r
faulty_back (Ok None) = refl
faulty_back (Ok (Some a)) = faulty_some a.huge a.flaw
faulty_back (Err e) = refused_back e _

-- the cause of a reason and a frame
abbrev cause : ℕ → ℕ → Option Cause
cause n f =
    pick (eqb n 0) None
    (pick (eqb n 1) (Some TooFew) (pick (eqb n 2) (Some Spread) (pick (eqb n 3) (Some NoBlock) (pick (eqb n 4) (Some (Held f)) (pick (eqb n 5) (Some (FreeFrame f)) (Some (Single f)))))))

abbrev caused : Why → Result (Option Cause) Refusal
caused w = answer w.code (cause w.reason w.frame)

caused_back : (r : Result (Option Cause) Refusal) → caused (why_of r) ≡ r
caused_back (Ok None) = refl
caused_back (Ok (Some TooFew)) = refl
caused_back (Ok (Some Spread)) = refl
caused_back (Ok (Some NoBlock)) = refl
caused_back (Ok (Some (Held f))) = refl
caused_back (Ok (Some (FreeFrame f))) = refl
caused_back (Ok (Some (Single f))) = refl
caused_back (Err e) = refused_back e _

pub numbers_told : NumbersTell
numbers_told = record {
  refusals = told_by number_of refusal refusal_back;
  codes = told_by (code_of {A = Unit {0}}) done done_back;
  searches = told_by placed_of searched searched_back;
  counts = told_by count_of counted counted_back;
  questions = told_by answered_of asked asked_back;
  gets = told_by got_of gotten gotten_back;
  stats = told_by stats_of free free_back;
  audits = told_by fault_of faulty faulty_back;
  recovers = told_by recovered_of mended mended_back;
  whys = told_by why_of caused caused_back;
}
