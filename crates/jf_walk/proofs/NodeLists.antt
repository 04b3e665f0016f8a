-- The list of the nodes of a part, child by child.
use Rattle.std.proofs.Common.{ℕ, ◌+◌, cond, List, [], ◌∷◌, map, ◌≡◌, suc, refl}
use Rattle.std.specs.List.{flat_map}
use Rattle.jf_hash.specs.Slots.{Part, with_nibble, all_nibbles}
use Rattle.jf_model.specs.Nodes.{Path, has_one, nodes_below, has_two}

-- the child at nibble n and the nodes below it, if l levels follow it
unfoldable pub child_nodes : ℕ → ℕ → Part → ℕ → List (Path × Part)
child_nodes l d es n = cond (has_one (with_nibble d n es)) (map (λ (x : Path × Part). (n ∷ x.0, x.1)) (nodes_below l (d + 1) (with_nibble d n es))) []

-- the nodes below the top
unfoldable pub lower_nodes : ℕ → ℕ → Part → List (Path × Part)
lower_nodes l d es = cond (has_two es) (flat_map (child_nodes l d es) all_nibbles) []

-- the top, and the nodes below it
pub nodes_below-suc : (l d : ℕ) (es : Part) → nodes_below (suc l) d es ≡ ([], es) ∷ lower_nodes l d es
unfolding nodes_below lower_nodes child_nodes
nodes_below-suc l d es = refl
