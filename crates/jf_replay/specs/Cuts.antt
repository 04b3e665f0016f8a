-- A standing as it was at an earlier head, and the landing that made a version of it.
use Rattle.std.specs.Prelude.{ℕ, ◌-◌, Bool, ◌&&◌, ◌||◌, ◌==◌, if◌then◌else◌, nat_le, nat_lt, List, map, filter, drop, reverse, slice_index_or, [], unwrap_or}
use Rattle.std.specs.BTreeMap.{is_at}
use Rattle.std.specs.Map.{lookup}
use Rattle.std.specs.Ordering.{nat_cmp}
use Rattle.jf_path.specs.declared.name.NodeName.{NodeName}
use Rattle.jf_path.specs.declared.node.PlainNode.{PlainNode}
use Rattle.jf_payload.specs.declared.records.Commit.{Commit}
use Rattle.jf_standing.specs.Named.{NamedNode, not_stale, written_nodes_at, stale_nodes_at}
use Rattle.jf_standing.specs.Standing.{Standing}
use Rattle.jf_replay.specs.declared.lent.CheckpointRef.{CheckpointRef}

-- whether a node was written at w or before
abbrev pub is_written_by : ℕ → NamedNode → Bool
is_written_by w n = nat_le n.0.version w

-- a node as it was at w: not stale if it went stale later
abbrev pub named_by : ℕ → NamedNode → NamedNode
named_by w n = (n.0, n.1, if nat_le n.2 w then n.2 else not_stale)

-- the nodes as they were at w
abbrev pub nodes_by : ℕ → List NamedNode → List NamedNode
nodes_by w ns = map (named_by w) (filter (is_written_by w) ns)

-- a standing as it was when its head was w
abbrev pub standing_by : ℕ → Standing → Standing
standing_by w s = record { base = s.base; floor = s.floor; head = w; roots = drop (s.head - w) s.roots; nodes = nodes_by w s.nodes }

-- a node with its name alone
abbrev pub without_since : NamedNode → NodeName × PlainNode
without_since n = (n.0, n.1)

-- the landing of a version, by its root and all nodes
abbrev pub landing_listed : ℕ → List ℕ → List NamedNode → Commit
landing_listed w root ns = record { version = w; root = root; fresh = map without_since (written_nodes_at w ns); stale = map (λ n. n.0) (stale_nodes_at w ns) }

-- the landing that made the version w of a standing
abbrev pub landing_making : ℕ → Standing → Commit
landing_making w s = landing_listed w (slice_index_or s.roots (s.head - w) []) s.nodes

-- the standing of a checkpoint, whose roots are listed from the base on
abbrev pub standing_listed : ℕ → ℕ → ℕ → List (List ℕ) → List NamedNode → Standing
standing_listed base floor head roots ns = record { base = base; floor = floor; head = head; roots = reverse roots; nodes = ns }

-- the standing of a checkpoint that is lent
abbrev pub standing_lent : CheckpointRef → Standing
standing_lent c = standing_listed c.base c.floor c.head c.roots.now c.nodes.now

-- a node goes stale after the version that wrote it and after the floor, and both versions are at most the head
abbrev pub has_numbers : ℕ → ℕ → NamedNode → Bool
has_numbers floor head n = nat_le n.0.version head && (nat_lt n.0.version n.2 && (nat_lt floor n.2 && (n.2 == not_stale || nat_le n.2 head)))

-- the names that stand beside a version, if any do
abbrev pub names_beside : ℕ → List (ℕ × List NodeName) → List NodeName
names_beside w es = unwrap_or (lookup (is_at (nat_cmp w)) es) []
