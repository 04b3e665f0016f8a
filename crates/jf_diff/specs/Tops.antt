-- Two tops, one of which stands in the place of the other after a landing.
use Rattle.std.specs.Prelude.{ℕ, Option, Some, None}
use Rattle.jf_path.specs.declared.name.NodeName.{NodeName}
use Rattle.jf_hash.specs.Slots.{Part}
use Rattle.jf_model.specs.Nodes.{Path}
use Rattle.jf_node.specs.LinkValue.{LinkValue}
use Rattle.jf_node.specs.Snapshots.{snapshot_of}
use Rattle.jf_diff.specs.Landings.{version_in}
use Rattle.jf_diff.specs.Below.{IsFreshBelow, IsStaleBelow}

-- the name under which the old version has the node at a path
abbrev pub old_name : ℕ → Option LinkValue → Path → NodeName
old_name head old path = record { version = version_in (snapshot_of head old) path; path = path }

-- an optional top stands, after the landing of `version`, where the entries es stood
abbrev pub IsFreshUnder : ℕ → Part → (Path → Option ℕ) → Option LinkValue → Type 0
IsFreshUnder version es before None = Unit {0}
IsFreshUnder version es before (Some x) = IsFreshBelow version es before x

-- y stands in the place of the old top, if any, after the landing of `version`
abbrev pub IsStaleUnder : ℕ → Option LinkValue → Option LinkValue → Type 0
IsStaleUnder version None y = Unit {0}
IsStaleUnder version (Some x) y = IsStaleBelow version x y
