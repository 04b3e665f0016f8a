-- Counts of faults.
use Rattle.std.specs.Prelude.{◌≡◌, ◌⊎◌, ℕ, ◌-◌, ◌<◌, ◌^◌}

-- a count rose, or stood at its greatest
abbrev pub HasCause : ℕ → ℕ → Type 0
HasCause old new = (old < new) ⊎ (old ≡ 2 ^ 64 - 1)
