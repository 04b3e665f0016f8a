-- What is said of a node, if there is one.
use Rattle.std.specs.Prelude.{◌≡◌, ℕ, Option, Some, None}
use Rattle.jf_node.specs.LinkValue.{LinkValue}

-- an optional node is at this depth
abbrev pub IsAtDepth : ℕ → Option LinkValue → Type 0
IsAtDepth depth None = Unit {0}
IsAtDepth depth (Some x) = x.depth ≡ depth

-- an optional node has this version
abbrev pub IsOfVersion : ℕ → Option LinkValue → Type 0
IsOfVersion version None = Unit {0}
IsOfVersion version (Some x) = x.version ≡ version
