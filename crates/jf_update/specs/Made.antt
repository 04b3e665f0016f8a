-- The nodes that the steps of an update make.
use Rattle.std.specs.Prelude.{◌≡◌, ℕ, Option, None, List, slice_index_or, ◌+◌, ◌<◌, length}
use Rattle.jf_hash.specs.Slots.{Part, with_nibble}
use Rattle.jf_model.specs.NodeVersions.{AllNew, IsNewTop}
use Rattle.jf_node.specs.LinkValue.{LinkValue, link_version_at}
use Rattle.jf_node.specs.Children.{content, entries_of_children, FitFrom}
use Rattle.jf_diff.specs.OptionalNodes.{IsAtDepth}

-- y is built new from the entries es: all its nodes have the new version
pub record IsBuilt (depth version : ℕ) (es : Part) (y : Option LinkValue) : Type 0 where
  pub entries : content y ≡ es
  pub placed : IsAtDepth depth y
  pub versions : AllNew depth version es (λ p. link_version_at p y)

-- y is the top over these children: no node, a leaf moved up, or a new inner node
pub record IsTopOver (depth version : ℕ) (links : List (Option LinkValue)) (y : Option LinkValue) : Type 0 where
  pub entries : content y ≡ entries_of_children links
  pub placed : IsAtDepth depth y
  pub versions : IsNewTop version (entries_of_children links) (λ n p. link_version_at p (slice_index_or links n None)) (λ p. link_version_at p y)

-- sixteen children that are built new from the entries es
pub record AreBuilt (depth version : ℕ) (es : Part) (links : List (Option LinkValue)) : Type 0 where
  pub long : length links ≡ 16
  pub fit : FitFrom depth 0 links
  pub each : (n : ℕ) → n < 16 → IsBuilt (depth + 1) version (with_nibble depth n es) (slice_index_or links n None)
