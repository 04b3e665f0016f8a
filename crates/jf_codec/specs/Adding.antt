-- What a call that runs out of memory leaves in the bytes that it adds to.
use Rattle.std.specs.Prelude.{◌≡◌, ℕ, List, length, take}

-- the new bytes begin with the old ones
abbrev pub Keeps : List ℕ → List ℕ → Type 0
Keeps old new = take (length old) new ≡ old
