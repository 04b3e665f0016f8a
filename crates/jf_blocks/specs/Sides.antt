-- The siblings that are kept of a block that is read.
use Rattle.std.specs.Prelude.{ℕ, List, ◌∷◌, [], ◌++◌, take, length, nat_lt, if◌then◌else◌}

-- how many siblings are kept: one more than any proof has
abbrev pub most_kept : ℕ
most_kept = 257

-- of these siblings, those that are kept: the first ones
abbrev pub kept_sides : List (List ℕ) → List (List ℕ)
kept_sides siblings = take most_kept siblings

-- the siblings that are kept, and the next one, if there is room for it
abbrev pub with_kept : List (List ℕ) → List ℕ → List (List ℕ)
with_kept kept h = if nat_lt (length kept) most_kept then kept ++ h ∷ [] else kept
