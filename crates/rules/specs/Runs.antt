-- Runs of calls of one N and one T: the ledger of frames taken and given back, demand 3, and two claimants that never share a frame.
use Rattle.std.specs.Prelude.{◌≡◌, Bool, true, false, not, ◌&&◌, ◌||◌, List, [], ◌∷◌, ℕ, eqb, get_or}
use Rattle.rules.specs.Words.{Huge, Mem}
use Rattle.rules.specs.Call.{RowCall, BlockCall, Call, called, left}
use Rattle.rules.specs.Consistent.{Consistent, free, held, in_block}

-- the ledger's word on frame f, whether it is out, after a call that answers r and found it at `was`: a done get writes its block down, a done put strikes it out
unfoldable pub noted : Call → List ℕ → ℕ → Bool → Bool
noted (Call.OnRow RowCall.Get row o) r f was = was || (eqb (get_or r 0 0) 0 && in_block (get_or r 1 0) o f)
noted (Call.OnRow RowCall.WhyGet row o) r f was = was
noted (Call.OnBlock BlockCall.GetAt a o) r f was = was || (eqb (get_or r 0 0) 0 && in_block (get_or r 1 0) o f)
noted (Call.OnBlock BlockCall.Put a o) r f was = was && not (eqb (get_or r 0 0) 0 && in_block a o f)
noted (Call.OnBlock BlockCall.IsFree a o) r f was = was
noted (Call.OnBlock BlockCall.WhyGetAt a o) r f was = was
noted (Call.OnBlock BlockCall.WhyPut a o) r f was = was
noted (Call.OnFrame c a) r f was = was
noted (Call.OnAll c) r f was = was

unfoldable pub run : ℕ → ℕ → ℕ → Mem → List Call → Mem
unfolding called
run h n t m [] = m
run h n t m (c ∷ cs) = run h n t (left h n t m c) cs

-- its word at the end of a run
unfoldable pub owed : ℕ → ℕ → ℕ → Mem → ℕ → Bool → List Call → Bool
unfolding called noted
owed h n t m f was [] = was
owed h n t m f was (c ∷ cs) = owed h n t (left h n t m c) f (noted c (called h n t m c).answer f was) cs

-- whether a run ever gives frame f back: a call strikes it out, were it in the ledger
unfoldable pub given_back : ℕ → ℕ → ℕ → Mem → ℕ → List Call → Bool
unfolding called noted
given_back h n t m f [] = false
given_back h n t m f (c ∷ cs) = not (noted c (called h n t m c).answer f true) || given_back h n t (left h n t m c) f cs

-- begun with the frames held at the start, the ledger is the state: its word at the end is whether the frame is held
abbrev pub LedgerIsState : Type 0
LedgerIsState =
    (h n t : ℕ) (m : Mem) (cs : List Call) (f : ℕ) → Huge h → Consistent h n t m → owed h n t m f (held h n m f) cs ≡ held h n (run h n t m cs) f

-- demand 3: if no frame held at the start was ever given back, and each taking of a frame was followed by its return, all of the memory is as at the start
abbrev pub BorrowedAndReturned : Type 0
BorrowedAndReturned =
    (h n t : ℕ) (m : Mem) (cs : List Call) → Huge h → Consistent h n t m
    → ((f : ℕ) → free h n m f ≡ false → given_back h n t m f cs ≡ false) → ((f : ℕ) → owed h n t m f false cs ≡ false) → run h n t m cs ≡ m

-- whatever was run, a call writes down free frames alone: none that was held at the start or taken since, and not given back after
abbrev pub NeverShared : Type 0
NeverShared =
    (h n t : ℕ) (m : Mem) (cs : List Call) (c : Call) (f : ℕ) → Huge h → Consistent h n t m → noted c (called h n t (run h n t m cs) c).answer f false ≡ true
    → (free h n (run h n t m cs) f ≡ true) × (owed h n t m f (held h n m f) cs ≡ false)
