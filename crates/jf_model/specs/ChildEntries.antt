-- The parts of the nodes below a node.
use Rattle.std.specs.Prelude.{ℕ, cond, [], ◌+◌, ◌∷◌}
use Rattle.jf_hash.specs.Slots.{Part, with_nibble}
use Rattle.jf_model.specs.Nodes.{has_two, Path}

-- the part of the child of a node at nibble n: none if the node has fewer than two entries
abbrev pub child_entries : ℕ → ℕ → Part → Part
child_entries depth n es = cond (has_two es) (with_nibble depth n es) []

-- the part of the node at a path below a node, none if there is no node
abbrev pub sub : ℕ → Path → Part → Part
sub depth [] es = es
sub depth (n ∷ path) es = sub (depth + 1) path (child_entries depth n es)
