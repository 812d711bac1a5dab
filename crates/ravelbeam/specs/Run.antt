-- A tree's run of entries for callers in other languages: where it stands among the caller's.
use Rattle.std.specs.Prelude.{ℕ, eqb}
use Rattle.base.specs.Walk.{pick}
use Rattle.rules.specs.State.{Mem}
use Rattle.rules.specs.Refusals.{frame_refusal}
use Rattle.rules.specs.Numbers.{tree_at}

-- the code, the run's first entry, and its length
pub record Run : Type 0 where
  pub code : ℕ
  pub offset : ℕ
  pub length : ℕ

abbrev pub run : ℕ → ℕ → ℕ → Run
run c o l = record { code = c; offset = o; length = l }

-- "the tree's own run of entries, T long"; 0 and 0 where it is refused
unfoldable pub tree_run : ℕ → ℕ → ℕ → Mem → ℕ → Run
tree_run h n t m f = pick (eqb (frame_refusal h n t m f) 0) (run 0 (tree_at h t f) t) (run (frame_refusal h n t m f) 0 0)
