-- A standing: the named nodes that records have made, with base, floor, head and roots; and what a further record makes.
use Rattle.std.specs.Prelude.{ℕ, zero, suc, ◌+◌, ◌-◌, Bool, if◌then◌else◌, nat_lt, List, [], ◌∷◌, ◌++◌, map, filter}
use Rattle.std.specs.List.{list_any}
use Rattle.std.specs.Ordering.{eq_by_cmp}
use Rattle.jf_path.specs.Names.{name_cmp}
use Rattle.jf_path.specs.declared.name.NodeName.{NodeName}
use Rattle.jf_path.specs.declared.node.PlainNode.{PlainNode}
use Rattle.jf_model.specs.Versions.{Versions}
use Rattle.jf_standing.specs.Named.{NamedNode, not_stale, map_at}
use Rattle.jf_payload.specs.declared.records.Commit.{Commit}

-- what records have made: base, floor and head, the roots from the head down to the base, and all named nodes
pub record Standing : Type 0 where
  pub base : ℕ
  pub floor : ℕ
  pub head : ℕ
  pub roots : List (List ℕ)
  pub nodes : List NamedNode

-- the n versions from w down
abbrev pub down_from : ℕ → ℕ → List ℕ
down_from w zero = []
down_from w (suc n) = w ∷ down_from (w - 1) n

-- the versions of a standing: the map of each is that of the leaves alive there
abbrev pub versions_of : Standing → Versions
versions_of s = record { base = s.base; floor = s.floor; head = s.head; roots = s.roots; maps = map (λ w. map_at w s.nodes) (down_from s.head (s.head - s.floor + 1)) }

-- a standing with other nodes
abbrev pub with_nodes : List NamedNode → Standing → Standing
with_nodes ns s = record { base = s.base; floor = s.floor; head = s.head; roots = s.roots; nodes = ns }

-- ---- records

-- whether a name is in a list
abbrev pub is_named : NodeName → List NodeName → Bool
is_named name names = list_any (eq_by_cmp name_cmp name) names

-- a node after a landing: stale since its version if the landing names it
abbrev pub marked_node : Commit → NamedNode → NamedNode
marked_node c n = if is_named n.0 c.stale then (n.0, n.1, c.version) else n

-- a node as it is written: not stale
abbrev pub unmarked_node : NodeName × PlainNode → NamedNode
unmarked_node x = (x.0, x.1, not_stale)

-- a landing marks the nodes that it names, and adds its own nodes and its root
abbrev pub with_commit : Commit → Standing → Standing
with_commit c s = record { base = s.base; floor = s.floor; head = c.version; roots = c.root ∷ s.roots; nodes = map (marked_node c) s.nodes ++ map unmarked_node c.fresh }

-- a later floor drops the nodes that are stale by then
abbrev pub with_floor : ℕ → Standing → Standing
with_floor floor s = record { base = s.base; floor = floor; head = s.head; roots = s.roots; nodes = filter (λ n. nat_lt floor n.2) s.nodes }
