-- Equality of landings as a test.
use Rattle.std.specs.Prelude.{Bool, true, false, not, ◌&&◌, ◌==◌, bytes_eq}
use Rattle.std.specs.Cmp.Lexicographic.{pointwise}
use Rattle.jf_path.specs.declared.children.Child.{Child}
use Rattle.jf_path.specs.declared.name.NodeName.{NodeName}
use Rattle.jf_path.specs.declared.node.PlainNode.{PlainNode}
use Rattle.jf_path.specs.declared.node.PlainNode.TheVariants as node
use Rattle.jf_payload.specs.declared.records.Commit.{Commit}

-- whether two bits are equal
abbrev pub same_bit : Bool → Bool → Bool
same_bit true b = b
same_bit false b = not b

-- whether two names are equal
abbrev pub same_name : NodeName → NodeName → Bool
same_name a b = (a.version == b.version) && bytes_eq a.path b.path

-- whether two children are equal
abbrev pub same_child : Child → Child → Bool
same_child a b = (a.nibble == b.nibble) && ((a.version == b.version) && (bytes_eq a.hash b.hash && (same_bit a.leaf b.leaf && (a.count == b.count))))

-- whether two nodes are equal
abbrev pub same_node : PlainNode → PlainNode → Bool
same_node node.Null node.Null = true
same_node node.Null (node.Leaf key value) = false
same_node node.Null (node.Inner cs) = false
same_node (node.Leaf key value) node.Null = false
same_node (node.Leaf key value) (node.Leaf key' value') = bytes_eq key key' && bytes_eq value value'
same_node (node.Leaf key value) (node.Inner cs) = false
same_node (node.Inner cs) node.Null = false
same_node (node.Inner cs) (node.Leaf key value) = false
same_node (node.Inner cs) (node.Inner ds) = pointwise same_child cs ds

-- whether two nodes with their names are equal
abbrev pub same_written : NodeName × PlainNode → NodeName × PlainNode → Bool
same_written x y = same_name x.0 y.0 && same_node x.1 y.1

-- whether two landings are equal
abbrev pub same_commit : Commit → Commit → Bool
same_commit c d = (c.version == d.version) && (bytes_eq c.root d.root && (pointwise same_written c.fresh d.fresh && pointwise same_name c.stale d.stale))
