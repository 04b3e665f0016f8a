-- Entries in the order of their keys.
use Rattle.std.specs.Prelude.{ℕ, List, [], ◌∷◌}
use Rattle.std.specs.FinMap.{put}
use Rattle.jf_path.specs.Keys.{key_cmp}

-- entries in the order of their keys, each key once with the first value that it has in the list
abbrev pub in_key_order : {X : Type 0} → List (List ℕ × X) → List (List ℕ × X)
in_key_order [] = []
in_key_order (e ∷ es) = put key_cmp e.0 e.1 (in_key_order es)
