-- Document 01, "Numbers and memory": the sizes that follow from the huge order h.
use Rattle.std.specs.Prelude.{ℕ, ◌-◌, ◌^◌, ◌≤◌}

-- the huge orders that definitions and laws are for: document 01's 9, and to 11, which pages of 16 KiB will need (W-208)
pub record Huge (h : ℕ) : Type 0 where
  pub low : 9 ≤ h
  pub high : h ≤ 11

-- rows of a huge frame, each of 64 = 2 ^ 6 frames
abbrev pub rows_per : ℕ → ℕ
rows_per h = 2 ^ (h - 6)

-- the huge order of document 01's calls: 512 frames to a huge frame
abbrev pub huge_order : ℕ
huge_order = 9
