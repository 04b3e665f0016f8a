-- Nodes as they are written: each by itself, with what it says of its children.
use Rattle.std.specs.Prelude.{◌+◌, true, [], ◌∷◌, ◌++◌, length, Some, List, Option, None, ℕ}
use Rattle.jf_path.specs.declared.node.PlainNode.{PlainNode}
use Rattle.jf_path.specs.declared.children.Child.{Child}
use Rattle.jf_path.specs.declared.name.NodeName.{NodeName}
use Rattle.jf_path.specs.declared.node.PlainNode.TheVariants as node
use Rattle.jf_model.specs.Nodes.{Path, plain_node, child_in_node}
use Rattle.jf_model.specs.ChildEntries.{sub}
use Rattle.jf_model.specs.Walk.{each_from}
use Rattle.jf_node.specs.LinkValue.{LinkValue, link_version_at}
use Rattle.jf_diff.specs.Landings.{version_or}

-- the node by itself at a path below a link
abbrev pub plain_at : LinkValue → Path → PlainNode
plain_at x path = plain_node true (λ n. version_or (link_version_at (path ++ n ∷ []) (Some x))) (x.depth + length path) (sub x.depth path x.entries)

-- what an inner node says of its children, in the order of their nibbles
abbrev pub children_list : LinkValue → List Child
children_list x = each_from 16 0 (child_in_node true (λ n. version_or (link_version_at (n ∷ []) (Some x))) x.depth x.entries)

-- the node by itself at a path below an optional link; the root of the empty map if there is no link
abbrev pub plain_under : Option LinkValue → Path → PlainNode
plain_under None path = node.Null
plain_under (Some y) path = plain_at y path

-- a node that a landing writes below a link, with its name, if the link stands at the path `front`
abbrev pub fresh_below : ℕ → Path → LinkValue → Path → NodeName × PlainNode
fresh_below version front x path = (record { version = version; path = front ++ path }, plain_at x path)

-- a node that a landing writes below an optional top, with its name
abbrev pub fresh_under : ℕ → Option LinkValue → Path → NodeName × PlainNode
fresh_under version top path = (record { version = version; path = path }, plain_under top path)

-- a node with its name, by itself
abbrev pub plain_item : NodeName × Option LinkValue → NodeName × PlainNode
plain_item x = (x.0, plain_under x.1 [])
