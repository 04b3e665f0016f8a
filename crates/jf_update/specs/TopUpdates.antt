-- The new top of a version.
use Rattle.std.specs.Prelude.{◌≡◌, ℕ, Option, Some, ◌≤◌, ◌+◌, ◌∷◌}
use Rattle.jf_hash.specs.Maps.{Batch}
use Rattle.jf_model.specs.Nodes.{Path}
use Rattle.jf_model.specs.Changes.{entries_after_batch}
use Rattle.jf_model.specs.ChildEntries.{sub}
use Rattle.jf_model.specs.NodeVersions.{VersionFollows}
use Rattle.jf_node.specs.LinkValue.{LinkValue, link_version_at}
use Rattle.jf_node.specs.LinkFacts.{IsLinkIf}
use Rattle.jf_node.specs.Children.{content}
use Rattle.jf_diff.specs.OptionalNodes.{IsAtDepth, IsOfVersion}

-- no node below a link is newer than this version
abbrev pub NoneNewer : ℕ → Option LinkValue → Type 0
NoneNewer head x = (path : Path) (v : ℕ) → link_version_at path x ≡ Some v → v ≤ head

-- the new top after changes of the old one: its entries, its version and those of the nodes below it
pub record IsNextTop (head : ℕ) (old : Option LinkValue) (bs : Batch) (top : Option LinkValue) : Type 0 where
  pub entries : content top ≡ entries_after_batch (content old) bs
  pub placed : IsAtDepth 0 top
  pub own : IsOfVersion (head + 1) top
  pub versions : (n : ℕ) (path : Path) → VersionFollows (head + 1) (sub 0 (n ∷ path) (content old)) (sub 0 (n ∷ path) (content top)) (link_version_at (n ∷ path) old) (link_version_at (n ∷ path) top)
  pub newest : NoneNewer (head + 1) top
  pub sound : IsLinkIf top
