-- Document 01, "Lines to check": the call that a line makes, and its answer as it is printed.
use Rattle.std.specs.Prelude.{Option, Some, None, ℕ, eqb}
use Rattle.base.specs.Walk.{pick}
use Rattle.base.specs.Code.{Out, out}
use Rattle.rules.specs.Numbered.{Got}
use Rattle.rules.specs.Numbered.{Stats}
use Rattle.rules.specs.State.{Mem}
use Rattle.bitfield_rules.specs.Calls.{Answered}
use Rattle.rules.specs.Calls as calls
use Rattle.rules.specs.Numbered.{Fault}
use Rattle.rules.specs.Numbered.{Recovered}
use Rattle.rules.specs.declared.Init.{Init}
use Rattle.rules.specs.declared.Init.TheVariants.{FreeAll, AllocAll}
use Rattle.lines.specs.declared.Line.{Line}
use Rattle.lines.specs.declared.Line.TheVariants.{Starts, Changes, Asks}
use Rattle.lines.specs.declared.Change.{Change}
use Rattle.lines.specs.declared.Change.TheVariants.{Get, GetAt, Put, Recover}
use Rattle.lines.specs.declared.Question.{Question}
use Rattle.lines.specs.declared.Question.TheVariants.{IsFree, StatsOfAll, StatsAt, Audit}
use Rattle.lines.specs.declared.Answer.{Answer}
use Rattle.lines.specs.Answer.{answer}
use Rattle.asks.specs.declared.Turn.{Turn}

-- "each line prints the code, then: G and P frame, probes; Q 1 or 0; S and T the three statistics; A huge frame, reason; R entries, bitfields; I and F nothing"
abbrev pub of_got : Got → Answer
of_got r = answer r.code 2 r.frame r.probes 0

abbrev pub of_free : Answered → Answer
of_free r = answer r.code 1 (pick r.yes 1 0) 0 0

abbrev pub of_stats : Stats → Answer
of_stats r = answer r.code 3 r.free_frames r.free_huge r.free_trees

abbrev pub of_fault : Fault → Answer
of_fault r = answer r.code 2 r.huge r.reason 0

abbrev pub of_recovered : Recovered → Answer
of_recovered r = answer r.code 2 r.entries r.bitfields 0

abbrev pub of_code : ℕ → Answer
of_code c = answer c 0 0 0 0

-- what a call leaves, its answer as it is printed
abbrev pub printing : {A : Type 0} → (A → Answer) → Out A Mem → Out Answer Mem
printing say o = out (say o.answer) o.left

-- "Q", "S", "T", "A": the lines that only ask
unfoldable pub asked : ℕ → ℕ → ℕ → Mem → Question → Answer
asked h n t m (IsFree frame order) = of_free (calls.is_free h n t m frame order)
asked h n t m StatsOfAll = of_stats (calls.stats h n t m)
asked h n t m (StatsAt frame order) = of_stats (calls.stats_at h n t m frame order)
asked h n t m Audit = of_fault (calls.audit h n t m)

-- "G", "P", "F", "R": those that write
unfoldable pub changed : ℕ → ℕ → ℕ → Mem → Change → Out Answer Mem
changed h n t m (Get row order) = printing of_got (calls.get h n t m row order)
changed h n t m (GetAt frame order) = printing of_got (calls.get_at h n t m frame order)
changed h n t m (Put frame order) = printing of_code (calls.put h n t m frame order)
changed h n t m Recover = printing of_recovered (calls.recover h n t m)

-- all frames free, or all held
unfoldable pub filled : ℕ → ℕ → ℕ → Init → Mem → Out ℕ Mem
filled h n t FreeAll m = calls.free_all h n t m
filled h n t AllocAll m = calls.reserve_all h n t m

-- what a line leaves beside the memory: N, T, and the answer that it prints
abbrev pub turn : ℕ → ℕ → Answer → Turn
turn n t a = record { n = n; t = t; answer = a }

-- "a refused I keeps the old N and T"
abbrev pub begun : Turn → Turn → Out ℕ Mem → Out Turn Mem
begun old new o = out (pick (eqb o.answer 0) new old) o.left

-- "I": a start of frames in trees, after N and T
unfoldable pub started : ℕ → ℕ → ℕ → Mem → ℕ → ℕ → Init → Out Turn Mem
unfolding filled
started h n t m frames tree init = let o = filled h frames tree init m in begun (turn n t (of_code o.answer)) (turn frames tree (of_code 0)) o

-- every line but a start keeps N and T; "a bad line prints 9 alone"
unfoldable pub answered : ℕ → ℕ → ℕ → Mem → Option Line → Out Turn Mem
unfolding asked changed started
answered h n t m (Some (Starts frames tree init)) = started h n t m frames tree init
answered h n t m (Some (Changes c)) = out (turn n t (changed h n t m c).answer) (changed h n t m c).left
answered h n t m (Some (Asks q)) = out (turn n t (asked h n t m q)) m
answered h n t m None = out (turn n t (of_code 9)) m
