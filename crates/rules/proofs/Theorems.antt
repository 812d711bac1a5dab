-- A term of each theorem. Assumes nothing.
use mathlib.Core.Path.{◌≡◌}
use Prim.Native.Nat.{ℕ}
use Rattle.rules.specs.State.{Mem}
use Rattle.rules.specs.Exact.{Consistency, Demand2In, Demand2, OwnBlockFirst}
use Rattle.rules.specs.Steps.{EveryStep}
use Rattle.rules.specs.Keeps.{Keeps, CallsKeep}
use Rattle.rules.specs.OneTree.{OneTree}
use Rattle.rules.specs.Marks.{MarksMove}
use Rattle.rules.specs.Same.{StateIsDetermined, BeyondUnread}
use Rattle.rules.specs.Runs.{LedgerIsState, BorrowedAndReturned, NeverShared}
use Rattle.rules.specs.Answers.{NumbersTell}
use Rattle.rules.specs.Results.{EqualResults, TableHolds}
use Rattle.rules.specs.Whys.{WhysTell}
use Rattle.rules.proofs.Starts.{free_all_is_consistent, reserve_all_is_consistent}
use Rattle.rules.proofs.Audits.{audit_names_first, clean_is_consistent}
use Rattle.rules.proofs.Recovers.{recover_makes_consistent, recover_keeps_consistent}
use Rattle.rules.proofs.Steps.{gets_answer, gets_at_answer, recover_refused}
use Rattle.rules.proofs.StepWrites.{get_takes, get_at_takes, put_gives}
use Rattle.rules.proofs.Refusals.{call_code, starts_code, call_bare, call_refused, starts_refused}
use Rattle.rules.proofs.Beyond.{Beyond, call_beyond, starts_beyond}
use Rattle.rules.proofs.Marks.{calls_mark}
use Rattle.rules.proofs.Determined.{determined}
use Rattle.rules.proofs.Unread.{needed_alone}
use Rattle.rules.proofs.Runs.{calls_keep_consistent, ledger_tells, borrowed_leaves_no_trace, frames_never_shared}
use Rattle.rules.proofs.FreeCounts.{stats_is_exact}
use Rattle.rules.proofs.Exacts.{calls_are_exact}
use Rattle.rules.proofs.OwnBlock.{own_block_taken}
use Rattle.rules.proofs.OneTree.{tree_alone}
use Rattle.rules.proofs.Answers.{numbers_told}
use Rattle.rules.proofs.Results.{results_equal, table_right}
use Rattle.rules.proofs.Whys.{whys_told}

pub consistency : Consistency
consistency h n t m H fits = record {
  starts_free = free_all_is_consistent h n t m H fits;
  starts_held = reserve_all_is_consistent h n t m H fits;
  audits_first = audit_names_first h n t m;
  audits = clean_is_consistent h n t m H fits;
  recovers = recover_makes_consistent h n t m H fits;
  recovers_nothing = recover_keeps_consistent h n t m H;
  keeps = λ c. calls_keep_consistent h n t m c H;
}

keeps : {h n t : ℕ} {m : Mem} {number code : ℕ} {left : Mem} → code ≡ number → ((code ≡ 0 → ⊥) → left ≡ m) → Beyond h n t m left → Keeps h n t m number code left
keeps e r b = record { exact = e; refused = r; rows = b.rows; entries = b.entries; long = b.long }

pub calls_keep : CallsKeep
calls_keep h n t m H = (
  λ c. (keeps (call_code h n t m H c) (call_refused h n t m c) (call_beyond H n t m c), call_bare h n t m c),
  (keeps (starts_code h n t m).0 (starts_refused h n t m).0 (starts_beyond H n t m).0, keeps (starts_code h n t m).1 (starts_refused h n t m).1 (starts_beyond H n t m).1),
)

pub every_step : EveryStep
every_step h n t m H = record {
  gets = gets_answer H n t m;
  gets_at = gets_at_answer h n t m;
  recovers = recover_refused h n t m;
  takes = get_takes H n t m;
  takes_at = get_at_takes H n t m;
  gives = put_gives H n t m;
}

pub demand_2_in : Demand2In
demand_2_in = calls_are_exact

pub demand_2 : Demand2
demand_2 h n t m H c = record { trees = λ y. demand_2_in h n t m y H (c y); counts = stats_is_exact h n t m H c }

pub own_block_first : OwnBlockFirst
own_block_first h n t m row o H = own_block_taken H row o

pub marks_move : MarksMove
marks_move = calls_mark

pub state_is_determined : StateIsDetermined
state_is_determined = determined

pub beyond_unread : BeyondUnread
beyond_unread = needed_alone

pub ledger_is_state : LedgerIsState
ledger_is_state = ledger_tells

pub borrowed_and_returned : BorrowedAndReturned
borrowed_and_returned = borrowed_leaves_no_trace

pub never_shared : NeverShared
never_shared = frames_never_shared

pub one_tree : OneTree
one_tree = tree_alone

pub equal_results : EqualResults
equal_results = results_equal

pub numbers_tell : NumbersTell
numbers_tell = numbers_told

pub table_holds : TableHolds
table_holds = table_right

pub whys_tell : WhysTell
whys_tell = whys_told
