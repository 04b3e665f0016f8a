-- The standing that a first record gives, as a function: None if the record isn't a sound checkpoint.
use Rattle.std.specs.Prelude.{◌+◌, ◌-◌, ◌^◌, Bool, ◌&&◌, if◌then◌else◌, ◌==◌, nat_le, [], reverse, bytes_eq, Option, Some, None}
use Rattle.std.specs.List.{list_all}
use Rattle.std.specs.FinMap.{len}
use Rattle.std.specs.Cmp.Lexicographic.{pointwise}
use Rattle.jf_codec.specs.declared.format.Format.{Format}
use Rattle.jf_standing.specs.Named.{NamedNode, version_at, map_at}
use Rattle.jf_standing.specs.Standing.{Standing, down_from}
use Rattle.jf_standing.specs.Same.{same_name, same_node}
use Rattle.jf_standing.specs.Next.{IsReadStanding}
use Rattle.jf_standing.specs.Building.{rebuilt_standing, nodes_by_name}
use Rattle.jf_payload.specs.declared.records.Record.{Record}
use Rattle.jf_payload.specs.declared.records.Record.TheVariants as «record»

-- whether two named nodes are equal
abbrev pub same_named : NamedNode → NamedNode → Bool
same_named m n = same_name m.0 n.0 && (same_node m.1 n.1 && (m.2 == n.2))

-- no map from the floor on has more than 2^63 entries
abbrev pub has_room : Standing → Bool
has_room s = list_all (λ w. nat_le (len (map_at w s.nodes)) (2 ^ 63)) (down_from s.head (s.head - s.floor + 1))

-- whether the nodes are those built anew from the maps and versions that are read off them
abbrev pub is_rebuilt : Format → Standing → Bool
is_rebuilt fmt s =
    (version_at s.floor s.nodes [] == s.floor) && (has_room s && (pointwise bytes_eq (rebuilt_standing fmt s).roots s.roots && pointwise same_named (nodes_by_name (rebuilt_standing fmt s).nodes) s.nodes))

-- the standing, if its nodes are those built anew
abbrev pub if_rebuilt : Format → Standing → Option Standing
if_rebuilt fmt s = if is_rebuilt fmt s then Some s else None

-- the standing that a first record gives
abbrev pub begin : Format → Record → Option Standing
begin fmt («record».Floor floor) = None
begin fmt («record».NodeCommit c) = None
begin fmt («record».Checkpoint generation base floor head roots nodes) = if_rebuilt fmt (record { base = base; floor = floor; head = head; roots = reverse roots; nodes = nodes })
begin fmt («record».Group cs) = None

-- what always holds of a first record that was read
abbrev pub IsReadFirst : Record → Type 0
IsReadFirst («record».Floor floor) = Unit {0}
IsReadFirst («record».NodeCommit c) = Unit {0}
IsReadFirst («record».Checkpoint generation base floor head roots nodes) = IsReadStanding (record { base = base; floor = floor; head = head; roots = reverse roots; nodes = nodes })
IsReadFirst («record».Group cs) = Unit {0}
