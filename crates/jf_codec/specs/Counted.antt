-- What a format keeps of a node: format 1 has no counts of entries.
use Rattle.std.specs.Prelude.{map}
use Rattle.jf_path.specs.declared.children.Child.{Child}
use Rattle.jf_path.specs.declared.node.PlainNode.{PlainNode}
use Rattle.jf_path.specs.declared.node.PlainNode.TheVariants as node
use Rattle.jf_codec.specs.declared.format.Format.{Format}
use Rattle.jf_codec.specs.declared.format.Format.TheVariants as format

-- a child without its count
abbrev pub uncounted_child : Child → Child
uncounted_child c = record { nibble = c.nibble; version = c.version; hash = c.hash; leaf = c.leaf; count = 0 }

-- a node without the counts of its children
abbrev pub uncounted_node : PlainNode → PlainNode
uncounted_node node.Null = node.Null
uncounted_node (node.Leaf key value) = node.Leaf key value
uncounted_node (node.Inner cs) = node.Inner (map uncounted_child cs)

-- what a format keeps of a node
abbrev pub in_format : Format → PlainNode → PlainNode
in_format format.One n = uncounted_node n
in_format format.Two n = n
