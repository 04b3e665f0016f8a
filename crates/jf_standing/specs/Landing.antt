-- What a landing of a map writes, and the batch that is read off a landing.
use Rattle.std.specs.Prelude.{ℕ, ◌+◌, if◌then◌else◌, [], ◌∷◌, ◌++◌, length, List, map, filter, Some, None, IsTrue}
use Rattle.std.specs.FinMap.{entries, put}
use Rattle.jf_path.specs.declared.name.NodeName.{NodeName}
use Rattle.jf_path.specs.declared.node.PlainNode.{PlainNode}
use Rattle.jf_path.specs.Keys.{key_cmp}
use Rattle.jf_path.specs.Names.{are_rising}
use Rattle.jf_hash.specs.Maps.{Map, Batch}
use Rattle.jf_hash.specs.Slots.{Part}
use Rattle.jf_hash.specs.Roots.{root}
use Rattle.jf_model.specs.Nodes.{Path, is_fresh, plain_node, stale, fresh}
use Rattle.jf_codec.specs.declared.format.Format.{Format}
use Rattle.jf_payload.specs.declared.records.Commit.{Commit}
use Rattle.jf_standing.specs.Named.{map_at, version_at, leaf_entries}
use Rattle.jf_standing.specs.Standing.{Standing, unmarked_node, is_named}
use Rattle.jf_standing.specs.Sound.{is_counted}
use Rattle.jf_standing.specs.Order.{in_order}

-- the map at the head
abbrev pub head_map : Standing → Map
head_map s = map_at s.head s.nodes

-- the version of the node at a path after a landing of a map: the new one if it writes the node, otherwise the old one
abbrev pub version_after : Standing → Map → Path → ℕ
version_after s m p = if is_fresh (entries (head_map s)) (entries m) p then s.head + 1 else version_at s.head s.nodes p

-- a node that the landing of a map writes, with its name
abbrev pub written_node : Format → Standing → Map → Path × Part → NodeName × PlainNode
written_node fmt s m x = (record { version = s.head + 1; path = x.0 }, plain_node (is_counted fmt) (λ i. version_after s m (x.0 ++ i ∷ [])) (length x.0) x.1)

-- the name of the node at a path at the head
abbrev pub name_at_head : Standing → Path → NodeName
name_at_head s p = record { version = version_at s.head s.nodes p; path = p }

-- the names of the nodes that the landing of a map marks stale, in the order of their paths
abbrev pub stale_names : Standing → Map → List NodeName
stale_names s m = map (λ x. name_at_head s x.0) (stale (head_map s) m)

-- the landing of a map on a standing
abbrev pub landing_of : Format → Standing → Map → Commit
landing_of fmt s m = record { version = s.head + 1; root = root m; fresh = map (written_node fmt s m) (fresh (head_map s) m); stale = in_order (stale_names s m) }

-- ---- the batch that is read off a landing
-- the entries of the leaves that a landing writes
abbrev pub fresh_leaves : Commit → List (List ℕ × List ℕ)
fresh_leaves c = leaf_entries (map unmarked_node c.fresh)

-- the entries of the leaves that a landing marks stale
abbrev pub stale_leaves : Standing → Commit → List (List ℕ × List ℕ)
stale_leaves s c = leaf_entries (filter (λ n. is_named n.0 c.stale) s.nodes)

-- changes in the order of their keys, each key once, with the change that comes first for it
abbrev pub by_key : Batch → Batch
by_key [] = []
by_key (e ∷ es) = put key_cmp e.0 e.1 (by_key es)

-- the batch of a landing: fresh leaves are put; keys of stale leaves are removed unless a fresh leaf has them
abbrev pub batch_of : Standing → Commit → Batch
batch_of s c = by_key (map (λ e. (e.0, Some e.1)) (fresh_leaves c) ++ map (λ e. (e.0, None)) (stale_leaves s c))

-- ---- landings that were read
-- the names that a landing writes rise, and so do those that it marks stale
pub record IsInOrder (c : Commit) : Type 0 where
  pub fresh : IsTrue (are_rising (map (λ x. x.0) c.fresh))
  pub stale : IsTrue (are_rising c.stale)
