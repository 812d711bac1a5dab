-- Document 01, "Get": the places of a search that wraps, by their turn.
use Rattle.std.specs.Prelude.{ℕ, ◌+◌, ◌-◌, ◌%◌}

-- steps forward from s to p, modulo k
abbrev pub steps_to : ℕ → ℕ → ℕ → ℕ
steps_to k s p = (p + (k - s % k)) % k
