-- What each call answers and leaves, under the name that its contract and the theorems share: m is the memory as lent, r the answer, left the memory left.
use Rattle.std.specs.Prelude.{◌≡◌, List, ℕ}
use Rattle.base.specs.Code.{out}
use Rattle.bitfield_rules.specs.Calls.{Answered}
use Rattle.rules.specs.Numbered.{Got}
use Rattle.rules.specs.Numbered.{Stats}
use Rattle.rules.specs.Numbered.{Fault}
use Rattle.rules.specs.Numbered.{Recovered}
use Rattle.rules.specs.Numbered.{Why}
use Rattle.rules.specs.State.{Mem}
use Rattle.rules.specs.Refusals.{frame_refusal}
use Rattle.rules.specs.Get.{get, get_at}
use Rattle.rules.specs.Put.{put}
use Rattle.rules.specs.Queries.{is_free, stats, stats_at}
use Rattle.rules.specs.Starts.{free_all, reserve_all}
use Rattle.rules.specs.Audit.{audit}
use Rattle.rules.specs.Recover.{recover}
use Rattle.rules.specs.Room.{room, tree_run}
use Rattle.rules.specs.Why.{why_get, why_get_at, why_put}

-- "Get", without a frame and with one; "Put"
abbrev pub Gets : ℕ → ℕ → ℕ → Mem → ℕ → ℕ → Got → Mem → Type 0
Gets h n t m row o r left = out r left ≡ get h n t m row o

abbrev pub GetsAt : ℕ → ℕ → ℕ → Mem → ℕ → ℕ → Got → Mem → Type 0
GetsAt h n t m f o r left = out r left ≡ get_at h n t m f o

abbrev pub Puts : ℕ → ℕ → ℕ → Mem → ℕ → ℕ → ℕ → Mem → Type 0
Puts h n t m f o r left = out r left ≡ put h n t m f o

-- "Queries, start and recovery": what only reads ..
abbrev pub AsksFree : ℕ → ℕ → ℕ → Mem → ℕ → ℕ → Answered → Type 0
AsksFree h n t m f o r = r ≡ is_free h n t m f o

abbrev pub TellsStats : ℕ → ℕ → ℕ → Mem → Stats → Type 0
TellsStats h n t m r = r ≡ stats h n t m

abbrev pub TellsStatsAt : ℕ → ℕ → ℕ → Mem → ℕ → ℕ → Stats → Type 0
TellsStatsAt h n t m f o r = r ≡ stats_at h n t m f o

abbrev pub FindsFault : ℕ → ℕ → ℕ → Mem → Fault → Type 0
FindsFault h n t m r = r ≡ audit h n t m

-- .. why a get without a frame, one with a frame and a put are turned down
abbrev pub TellsWhyGet : ℕ → ℕ → ℕ → Mem → ℕ → ℕ → Why → Type 0
TellsWhyGet h n t m row o r = r ≡ why_get h n t m row o

abbrev pub TellsWhyGetAt : ℕ → ℕ → ℕ → Mem → ℕ → ℕ → Why → Type 0
TellsWhyGetAt h n t m f o r = r ≡ why_get_at h n t m f o

abbrev pub TellsWhyPut : ℕ → ℕ → ℕ → Mem → ℕ → ℕ → Why → Type 0
TellsWhyPut h n t m f o r = r ≡ why_put h n t m f o

-- .. a code, and the counts beside it
abbrev pub TellsRoom : ℕ → ℕ → ℕ → Mem → ℕ → ℕ → List ℕ → Type 0
TellsRoom h n t m f r counts = out r counts ≡ room h n t m f

-- .. a part of the entries, and the code of that call
abbrev pub LendsRun : ℕ → ℕ → ℕ → Mem → ℕ → List ℕ → Type 0
LendsRun h n t m f part = part ≡ tree_run h n t m f

abbrev pub TellsRunCode : ℕ → ℕ → ℕ → Mem → ℕ → ℕ → Type 0
TellsRunCode h n t m f r = r ≡ frame_refusal h n t m f

-- .. and what writes
abbrev pub FreesAll : ℕ → ℕ → ℕ → Mem → ℕ → Mem → Type 0
FreesAll h n t m r left = out r left ≡ free_all h n t m

abbrev pub ReservesAll : ℕ → ℕ → ℕ → Mem → ℕ → Mem → Type 0
ReservesAll h n t m r left = out r left ≡ reserve_all h n t m

abbrev pub Recovers : ℕ → ℕ → ℕ → Mem → Recovered → Mem → Type 0
Recovers h n t m r left = out r left ≡ recover h n t m
