-- Documents 01 and 02: the numbers of an answer, a record for each kind of call. Its code is 0 where the call is done.
use Rattle.std.specs.Prelude.{ℕ}

-- a get: the frame, and the entries or groups visited
pub record Got : Type 0 where
  pub code : ℕ
  pub frame : ℕ
  pub probes : ℕ

-- what a get makes of one entry: it goes on to the next, it ends with 8, or it takes the block at this frame
pub data Visit : Type 0 where
  Pass : Visit
  Damage : Visit
  Place : (frame : ℕ) → Visit

-- stats: free frames, huge frames that are free whole, and trees that are
pub record Stats : Type 0 where
  pub code : ℕ
  pub free_frames : ℕ
  pub free_huge : ℕ
  pub free_trees : ℕ

-- an audit: the first faulty huge frame and its reason, all 0 where nothing is wrong
pub record Fault : Type 0 where
  pub code : ℕ
  pub huge : ℕ
  pub reason : ℕ

-- recover: how many entries and bitfields it changed
pub record Recovered : Type 0 where
  pub code : ℕ
  pub entries : ℕ
  pub bitfields : ℕ

-- why a request is turned down: document 02's reason, and the frame beside it
pub record Why : Type 0 where
  pub code : ℕ
  pub reason : ℕ
  pub frame : ℕ
