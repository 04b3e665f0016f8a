-- Limits that several crates share.
use Rattle.std.specs.Prelude.{ℕ}

-- the most bytes of a value
abbrev pub max_value : ℕ
max_value = 4096

-- the most forks that live at once, and the most landings that are recorded together
abbrev pub max_forks : ℕ
max_forks = 1024

-- the most threads that may work at once
abbrev pub max_workers : ℕ
max_workers = 64

-- the most sessions that share a store
abbrev pub max_sessions : ℕ
max_sessions = 16

-- how many versions a session may pin at once: the number of its places
abbrev pub max_pins : ℕ
max_pins = 8
