-- The calls that a run is made of, under one type: what each answers, as document 01's numbers, and the memory that it leaves.
use Rattle.std.specs.Prelude.{List, [], ◌∷◌, ℕ, get_or}
use Rattle.base.specs.Walk.{pick}
use Rattle.base.specs.Code.{Out, out}
use Rattle.rules.specs.Numbered.{Got}
use Rattle.rules.specs.Numbered.{Stats as Statistics}
use Rattle.rules.specs.Numbered.{Why}
use Rattle.rules.specs.State.{Mem}
use Rattle.rules.specs.Refusals.{frame_refusal}
use Rattle.rules.specs.Calls.{get, get_at, put, is_free, stats, stats_at, audit, recover, room, tree_run, why_get, why_get_at, why_put}

-- the calls with a start row: get without a frame, and why it is turned down
pub data RowCall : Type 0 where
  Get WhyGet : RowCall

-- "get with a frame, put, is_free": the calls on a block, with why the first two are turned down
pub data BlockCall : Type 0 where
  GetAt Put IsFree WhyGetAt WhyPut : BlockCall

-- "stats_at, room, tree run": the calls on a frame
pub data FrameCall : Type 0 where
  StatsAt : (order : ℕ) → FrameCall
  Room TreeRun : FrameCall

-- the calls that read everything
pub data AllCall : Type 0 where
  Stats Audit Recover : AllCall

-- a call, with what it is asked besides N and T
pub data Call : Type 0 where
  OnRow : RowCall → (row order : ℕ) → Call
  OnBlock : BlockCall → (frame order : ℕ) → Call
  OnFrame : FrameCall → (frame : ℕ) → Call
  OnAll : AllCall → Call

abbrev pub got_numbers : Got → List ℕ
got_numbers r = r.code ∷ r.frame ∷ r.probes ∷ []

abbrev pub stats_numbers : Statistics → List ℕ
stats_numbers r = r.code ∷ r.free_frames ∷ r.free_huge ∷ r.free_trees ∷ []

abbrev pub why_numbers : Why → List ℕ
why_numbers r = r.code ∷ r.reason ∷ r.frame ∷ []

-- the numbers that a call answers, its code first, and the memory that it leaves; a tree run's code is that of the call beside it
unfoldable pub called : ℕ → ℕ → ℕ → Mem → Call → Out (List ℕ) Mem
called h n t m (OnRow Get row o) = out (got_numbers (get h n t m row o).answer) (get h n t m row o).left
called h n t m (OnRow WhyGet row o) = out (why_numbers (why_get h n t m row o)) m
called h n t m (OnBlock GetAt f o) = out (got_numbers (get_at h n t m f o).answer) (get_at h n t m f o).left
called h n t m (OnBlock Put f o) = out ((put h n t m f o).answer ∷ []) (put h n t m f o).left
called h n t m (OnBlock IsFree f o) = out ((is_free h n t m f o).code ∷ pick (is_free h n t m f o).yes 1 0 ∷ []) m
called h n t m (OnBlock WhyGetAt f o) = out (why_numbers (why_get_at h n t m f o)) m
called h n t m (OnBlock WhyPut f o) = out (why_numbers (why_put h n t m f o)) m
called h n t m (OnFrame (StatsAt o) f) = out (stats_numbers (stats_at h n t m f o)) m
called h n t m (OnFrame Room f) = out ((room h n t m f).answer ∷ (room h n t m f).left) m
called h n t m (OnFrame TreeRun f) = out (frame_refusal h n t m f ∷ tree_run h n t m f) m
called h n t m (OnAll Stats) = out (stats_numbers (stats h n t m)) m
called h n t m (OnAll Audit) = out ((audit h n t m).code ∷ (audit h n t m).huge ∷ (audit h n t m).reason ∷ []) m
called h n t m (OnAll Recover) = out ((recover h n t m).answer.code ∷ (recover h n t m).answer.entries ∷ (recover h n t m).answer.bitfields ∷ []) (recover h n t m).left

abbrev pub code : ℕ → ℕ → ℕ → Mem → Call → ℕ
code h n t m c = get_or (called h n t m c).answer 0 0

abbrev pub left : ℕ → ℕ → ℕ → Mem → Call → Mem
left h n t m c = (called h n t m c).left
