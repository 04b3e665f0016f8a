-- The nodes of a map, and the nodes that a landing writes and marks stale.
use Rattle.std.specs.Prelude.{ℕ, List, ◌+◌, [], ◌∷◌, Bool, true, false, ◌&&◌, bytes_eq, not, zero, suc, if◌then◌else◌, map, flat_map, filter, length, ◌*◌}
use Rattle.std.specs.FinMap.{entries}
use Rattle.jf_path.specs.declared.children.Child.{Child}
use Rattle.jf_path.specs.declared.node.PlainNode.{PlainNode}
use Rattle.jf_path.specs.declared.node.PlainNode.TheVariants as node
use Rattle.jf_hash.specs.Slots.{Part, with_nibble, all_nibbles}
use Rattle.jf_hash.specs.Maps.{Map}
use Rattle.jf_hash.specs.Roots.{part_root}
use Rattle.jf_model.specs.Versions.{Versions}

-- the nibbles from the top down to a node
abbrev pub Path : Type 0
Path = List ℕ

-- the entries under a path that begins at nibble d
unfoldable pub under : ℕ → Path → Part → Part
under d [] es = es
under d (i ∷ p) es = under (d + 1) p (with_nibble d i es)

-- whether a list has at least one element
abbrev pub has_one : {X : Type 0} → List X → Bool
has_one [] = false
has_one (x ∷ xs) = true

-- whether a list has at least two elements
abbrev pub has_two : {X : Type 0} → List X → Bool
has_two [] = false
has_two (x ∷ xs) = has_one xs

-- whether there is a node at a path: the top is one; one step down there is one if two entries stand here and one or more there
unfoldable pub is_node : ℕ → Path → Part → Bool
is_node d [] es = true
is_node d (i ∷ p) es = has_two es && has_one (with_nibble d i es) && is_node (d + 1) p (with_nibble d i es)

-- whether two parts have the same keys with the same values
abbrev pub same_part : Part → Part → Bool
same_part [] [] = true
same_part [] (f ∷ fs) = false
same_part (e ∷ es) [] = false
same_part (e ∷ es) (f ∷ fs) = bytes_eq e.0 f.0 && bytes_eq e.1 f.1 && same_part es fs

-- whether a node is fresh: the top is, and so is a node of the new map if the old map has no node there with the same entries
unfoldable pub is_fresh : Part → Part → Path → Bool
is_fresh old new [] = true
is_fresh old new (i ∷ p) = is_node 0 (i ∷ p) new && not (is_node 0 (i ∷ p) old && same_part (under 0 (i ∷ p) old) (under 0 (i ∷ p) new))

-- all nodes below a path with their entries, in the order of their paths, if n nibbles remain
unfoldable pub nodes_below : ℕ → ℕ → Part → List (Path × Part)
nodes_below zero d es = ([], es) ∷ []
nodes_below (suc n) d es =
    ([], es) ∷ (if has_two es then flat_map (λ i. if has_one (with_nibble d i es) then map (λ x. (i ∷ x.0, x.1)) (nodes_below n (d + 1) (with_nibble d i es)) else []) all_nibbles else [])

-- all nodes of a map with their entries, in the order of their paths
unfoldable pub nodes : Map → List (Path × Part)
nodes m = nodes_below 64 0 (entries m)

-- what a landing of the new map over the old one writes
unfoldable pub fresh : Map → Map → List (Path × Part)
fresh old new = filter (λ x. is_fresh (entries old) (entries new) x.0) (nodes new)

-- what a landing marks stale: the nodes that a landing back to the old map would write
abbrev pub stale : Map → Map → List (Path × Part)
stale old new = fresh new old

-- the number of nodes of maps, the newest first: all nodes of the oldest, and the fresh ones of each later map
abbrev pub node_count : List Map → ℕ
node_count [] = 0
node_count (m ∷ []) = length (nodes m)
node_count (m ∷ n ∷ ms) = length (fresh n m) + node_count (n ∷ ms)

-- the number of nodes that a store keeps for its versions
unfoldable pub kept_nodes : Versions → ℕ
kept_nodes v = node_count v.maps

-- ---- a node by itself
-- the child of a node of d nibbles at nibble i, or nothing if no entry stands there
abbrev pub child_in_node : Bool → (ℕ → ℕ) → ℕ → Part → ℕ → List Child
child_in_node counted version d es i =
    let part = with_nibble d i es in
    if has_one part then record { nibble = i; version = version i; hash = part_root (4 * (d + 1)) part; leaf = not (has_two part); count = if counted then length part else 0 } ∷ [] else []

-- the node of a part whose keys agree in d nibbles, by the versions of its children
unfoldable pub plain_node : Bool → (ℕ → ℕ) → ℕ → Part → PlainNode
plain_node counted version d [] = node.Null
plain_node counted version d (e ∷ []) = node.Leaf e.0 e.1
plain_node counted version d (e ∷ f ∷ es) = node.Inner (flat_map (child_in_node counted version d (e ∷ f ∷ es)) all_nibbles)
