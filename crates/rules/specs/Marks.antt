-- The mark: on any memory of the slices' widths, which huge frames have it after each call.
use Rattle.std.specs.Prelude.{◌≡◌, Bool, false, not, ◌&&◌, ◌||◌, List, ℕ, ◌+◌, ◌-◌, ◌^◌, ◌<◌, eqb, leb, get_or}
use Rattle.rules.specs.Words.{Huge, mark, huge_of, entries_needed, Mem, entry_of}
use Rattle.rules.specs.Numbers.{whole}
use Rattle.rules.specs.Starts.{free_all, reserve_all}
use Rattle.rules.specs.Call.{RowCall, BlockCall, Call, called, left}
use Rattle.rules.specs.Consistent.{Fits}

-- huge frame x has the mark
abbrev pub marked : Mem → ℕ → Bool
marked m x = eqb (entry_of m.entries x) mark

-- a frame of the block of order o at a lies in huge frame x: it is one of those from the first frame's to the last frame's
abbrev pub meets : ℕ → ℕ → ℕ → ℕ → Bool
meets h a o x = leb (huge_of h a) x && leb x (huge_of h (a + 2 ^ o - 1))

-- whether huge frame x has the mark after a call that answers r and found it at `was`: a done get from order 9 up adds it where its block meets x, a done put takes it away there
unfoldable pub remarked : ℕ → Call → List ℕ → ℕ → Bool → Bool
remarked h (Call.OnRow RowCall.Get row o) r x was = was || (leb h o && (eqb (get_or r 0 0) 0 && meets h (get_or r 1 0) o x))
remarked h (Call.OnRow RowCall.WhyGet row o) r x was = was
remarked h (Call.OnBlock BlockCall.GetAt a o) r x was = was || (leb h o && (eqb (get_or r 0 0) 0 && meets h (get_or r 1 0) o x))
remarked h (Call.OnBlock BlockCall.Put a o) r x was = was && not (eqb (get_or r 0 0) 0 && meets h a o x)
remarked h (Call.OnBlock BlockCall.IsFree a o) r x was = was
remarked h (Call.OnBlock BlockCall.WhyGetAt a o) r x was = was
remarked h (Call.OnBlock BlockCall.WhyPut a o) r x was = was
remarked h (Call.OnFrame c a) r x was = was
remarked h (Call.OnAll c) r x was = was

-- no other call adds or takes away a mark; "free_all" leaves none, "reserve_all" one for each whole huge frame
abbrev pub MarksMove : Type 0
MarksMove =
    (h n t : ℕ) (m : Mem) (x : ℕ) → Huge h → Fits m
    → ((c : Call) → marked (left h n t m c) x ≡ remarked h c (called h n t m c).answer x (marked m x))
    × ((x < entries_needed h n t → (free_all h n t m).answer ≡ 0 → marked (free_all h n t m).left x ≡ false)
    × (x < entries_needed h n t → (reserve_all h n t m).answer ≡ 0 → marked (reserve_all h n t m).left x ≡ whole h n x))
