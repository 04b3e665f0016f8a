-- The floor that a `prune` gets.
use Rattle.std.specs.Prelude.{ℕ, min, List, [], ◌∷◌, Option, Some, None, max}
use Rattle.jf_model.specs.States.{State}
use Rattle.jf_answers.specs.Own.{Own}

-- the least of a number and the versions pinned
abbrev pub below_pins : ℕ → List (Option ℕ) → ℕ
below_pins upto [] = upto
below_pins upto (None ∷ pins) = below_pins upto pins
below_pins upto (Some version ∷ pins) = below_pins (min upto version) pins

-- the floor after a `prune`, which rises as far as the own pins let it
abbrev pub next_floor : ℕ → State → Own → ℕ
next_floor upto s own = max s.floor (below_pins upto own.pins)
