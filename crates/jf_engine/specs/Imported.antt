-- The snapshot that an import makes of entries.
use Rattle.std.specs.Prelude.{◌≡◌, ℕ, Some, map, true}
use Rattle.std.specs.FinMap.{entries}
use Rattle.jf_hash.specs.Maps.{Batch}
use Rattle.jf_hash.specs.Slots.{Part}
use Rattle.jf_model.specs.Nodes.{Path, is_node}
use Rattle.jf_node.specs.SnapshotValue.{SnapshotValue}
use Rattle.jf_diff.specs.Landings.{version_in}

-- each entry as a put
abbrev pub puts_of : Part → Batch
puts_of es = map (λ e. (e.0, Some e.1)) es

-- s is the snapshot of these entries, whose nodes are all of one version
pub record IsImported (at : ℕ) (es : Part) (s : SnapshotValue) : Type 0 where
  pub version : s.version ≡ at
  pub same : entries s.map ≡ es
  pub each : (path : Path) → is_node 0 path (entries s.map) ≡ true → version_in s path ≡ at
