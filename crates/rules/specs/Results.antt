-- Document 01, "What a reader may conclude" and "Lines to check".
use Rattle.std.specs.Prelude.{◌≡◌, Bool, true, ◌&&◌, List, [], ◌∷◌, ℕ, ◌-◌, ◌^◌, eqb, replicate}
use Rattle.rules.specs.Words.{huge_order, mark, Mem, mem, entry_of}
use Rattle.row.specs.Row as row
use Rattle.row.specs.Ensured.{FindsInRow}
use Rattle.bitfield_rules.specs.Ensured.{Sets, Fills, Toggles, TellsZero, CountsZeros, FindsZeros, SetsFirstZeros}
use Rattle.rules.specs.Put.{put}
use Rattle.rules.specs.Ensured.{Gets, GetsAt, Puts, AsksFree, TellsStats, TellsStatsAt, FindsFault, TellsWhyGet, TellsWhyGetAt, TellsWhyPut, TellsRoom, LendsRun, TellsRunCode, FreesAll, ReservesAll, Recovers}

-- "two results satisfying one contract are equal": of a contract on an answer, and of one on an answer and what is left
abbrev pub One : {A : Type 0} → (A → Type 0) → Type 0
One {A} C = (a b : A) → C a → C b → a ≡ b

abbrev pub OneLeft : {A B : Type 0} → (A → B → Type 0) → Type 0
OneLeft {A} {B} C = (a b : A) (l k : B) → C a l → C b k → (a ≡ b) × (l ≡ k)

-- each public call, by its contract's name
pub record ResultsAreEqual (h n t : ℕ) (m : Mem) (rows : List ℕ) (v f o : ℕ) (b : Bool) : Type 0 where
  pub starts : OneLeft (FreesAll h n t m) × OneLeft (ReservesAll h n t m)
  pub gets : OneLeft (Gets h n t m f o) × OneLeft (GetsAt h n t m f o)
  pub puts : OneLeft (Puts h n t m f o)
  pub asks : One (AsksFree h n t m f o) × (One (TellsStats h n t m) × One (TellsStatsAt h n t m f o))
  pub audits : One (FindsFault h n t m) × OneLeft (Recovers h n t m)
  pub whys : One (TellsWhyGet h n t m f o) × (One (TellsWhyGetAt h n t m f o) × One (TellsWhyPut h n t m f o))
  pub rooms : OneLeft (TellsRoom h n t m f)
  pub tree_runs : One (LendsRun h n t m f) × One (TellsRunCode h n t m f)
  pub row_searches : One (FindsInRow v o)
  pub searches : One (FindsZeros h rows f o) × OneLeft (SetsFirstZeros h rows f o)
  pub stores : OneLeft (Sets h rows f o b) × (OneLeft (Toggles h rows f o b) × OneLeft (Fills h rows b))
  pub reads : One (TellsZero h rows f o) × One (CountsZeros h rows)

abbrev pub EqualResults : Type 0
EqualResults = (h n t : ℕ) (m : Mem) (rows : List ℕ) (v f o : ℕ) (b : Bool) → ResultsAreEqual h n t m rows v f o b

-- P1 to P9: row v at an order, and the answer's code, place and row; P10 to P12: a put of frame 0, N = 512, T = 1, and its code and the entry left
pub data Line : Type 0 where
  search : (v order code place row : ℕ) → Line
  give : (entry row rest order code left : ℕ) → Line

unfoldable pub table : List Line
table =
    search 0 0 0 0 1 ∷ search (2 ^ 64 - 1) 0 7 0 0 ∷ search 1 1 0 2 13 ∷ search 16 2 0 0 31 ∷ search 1 2 0 4 241 ∷ search 72340172838076673 3 7 0 0
    ∷ search 1 5 0 32 18446744069414584321 ∷ search (2 ^ 63) 5 0 0 9223372041149743103 ∷ search 1 6 7 0 0
    ∷ give 0 (2 ^ 64 - 1) (2 ^ 64 - 1) 9 7 0 ∷ give mark 0 0 0 0 1 ∷ give mark 1 0 0 8 mark ∷ []

unfoldable pub all_hold : List Line → Bool
all_hold [] = true
all_hold (search v o c p r ∷ ls) = eqb (row.first_zeros v o).code c && (eqb (row.first_zeros v o).place p && (eqb (row.first_zeros v o).row r && all_hold ls))
all_hold (give e v vs o c l ∷ ls) =
    eqb (put huge_order 512 1 (mem (v ∷ replicate 7 vs) (e ∷ [])) 0 o).answer c
    && (eqb (entry_of (put huge_order 512 1 (mem (v ∷ replicate 7 vs) (e ∷ [])) 0 o).left.entries 0) l && all_hold ls)

abbrev pub TableHolds : Type 0
TableHolds = all_hold table ≡ true
