-- Text that is held until there is enough of it for a sink.
use Rattle.std.specs.Prelude.{◌≡◌, List, ℕ, ◌++◌, Option}
use Rattle.jf_input.specs.Feeds.{Appends}

-- `more` was added to a text of which the sink has a front and the rest is held
abbrev pub AddsText : Option (List ℕ) → Option (List ℕ) → List ℕ → List ℕ → List ℕ → Type 0
AddsText text text' held held' more = (put : List ℕ) × (put ++ held' ≡ held ++ more) × Appends text text' put
