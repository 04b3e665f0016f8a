-- Names and nodes in bytes (docs/FORMATS.md, "Names and nodes in bytes").
use Rattle.std.specs.Prelude.{ℕ, ◌+◌, List, ◌++◌, [], ◌^◌, ◌∷◌, filter, flat_map, length, ◌≡◌, ◌<◌, ◌≤◌, ◌↔◌, Bool, IsTrue, false, ◌==◌, if◌then◌else◌}
use Rattle.std.specs.List.{AllByRecursion}
use Rattle.jf_path.specs.Paths.{path_bytes}
use Rattle.jf_path.specs.declared.name.NodeName.{NodeName}
use Rattle.jf_path.specs.Numbers.{eight_bytes, two_bytes, four_bytes}
use Rattle.jf_path.specs.declared.children.Child.{Child}
use Rattle.jf_path.specs.declared.node.PlainNode.{PlainNode}
use Rattle.jf_path.specs.Keys.{IsKey, IsBytes}
use Rattle.jf_path.specs.Limits.{max_value}
use Rattle.jf_path.specs.Nodes.{ChildrenRiseFrom}
use Rattle.jf_path.specs.declared.node.PlainNode.TheVariants as node
use Rattle.jf_codec.specs.declared.format.Format.{Format}
use Rattle.jf_codec.specs.declared.format.Format.TheVariants as format

-- a name: its version in eight bytes, and its path
abbrev pub name_bytes : NodeName → List ℕ
name_bytes name = eight_bytes name.version ++ path_bytes name.path

-- ---- nodes
-- the tag of an internal node
abbrev pub tag : Format → ℕ
tag format.One = 2
tag format.Two = 3

-- the count of a child: eight bytes in format 2, none in format 1
abbrev pub count_bytes : Format → ℕ → List ℕ
count_bytes format.One count = []
count_bytes format.Two count = eight_bytes count

-- a child: its version, its count in format 2, and its hash
abbrev pub child_bytes : Format → Child → List ℕ
child_bytes fmt c = eight_bytes c.version ++ count_bytes fmt c.count ++ c.hash

-- a bitmap with a bit for each child, that of nibble i having weight 2 ^ i
abbrev pub bitmap : List Child → ℕ
bitmap [] = 0
bitmap (c ∷ cs) = 2 ^ c.nibble + bitmap cs

-- the children that are leaves
abbrev pub leaf_children : List Child → List Child
leaf_children cs = filter (λ c. c.leaf) cs

-- a node in a format: a tag, and what follows it
unfoldable pub node_bytes : Format → PlainNode → List ℕ
node_bytes fmt node.Null = 0 ∷ []
node_bytes fmt (node.Leaf key value) = 1 ∷ key ++ four_bytes (length value) ++ value
node_bytes fmt (node.Inner cs) = tag fmt ∷ two_bytes (bitmap cs) ++ two_bytes (bitmap (leaf_children cs)) ++ flat_map (child_bytes fmt) cs

-- ---- what can be spelled
-- in format 1 a child has no count; in format 2 its count is at least 1, and 1 just for a leaf
abbrev pub IsCount : Format → Bool → ℕ → Type 0
IsCount format.One leaf count = count ≡ 0
IsCount format.Two leaf count = (1 ≤ count) × (count < 2 ^ 64) × (IsTrue leaf ↔ (count ≡ 1))

-- a child can be spelled in a format
pub record IsChild (fmt : Format) (c : Child) : Type 0 where
  pub nibble : c.nibble < 16
  pub version : c.version < 2 ^ 64
  pub hash : IsKey c.hash
  pub count : IsCount fmt c.leaf c.count

-- an internal node has a child, and a single child isn't a leaf
abbrev pub AreEnough : List Child → Type 0
AreEnough [] = ⊥
AreEnough (c ∷ []) = c.leaf ≡ false
AreEnough (c ∷ d ∷ cs) = Unit {0}

-- a node can be spelled in a format
abbrev pub IsNode : Format → PlainNode → Type 0
IsNode fmt node.Null = Unit {0}
IsNode fmt (node.Leaf key value) = IsKey key × IsBytes value × (length value ≤ max_value)
IsNode fmt (node.Inner cs) = AreEnough cs × ChildrenRiseFrom 0 cs × AllByRecursion (IsChild fmt) cs

-- the format of children: format 2 if the first of them has a count
abbrev pub format_of_children : List Child → Format
format_of_children [] = format.One
format_of_children (c ∷ cs) = if c.count == 0 then format.One else format.Two

-- the format of a node, which matters for internal ones alone
abbrev pub format_of : PlainNode → Format
format_of node.Null = format.One
format_of (node.Leaf key value) = format.One
format_of (node.Inner cs) = format_of_children cs

-- a node has a spelling
abbrev pub IsValid : PlainNode → Type 0
IsValid n = IsNode (format_of n) n

-- the spelling of a node in its own format
abbrev pub spelling : PlainNode → List ℕ
spelling n = node_bytes (format_of n) n
