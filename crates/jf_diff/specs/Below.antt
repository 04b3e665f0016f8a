-- The child of a node at a nibble, and the nodes below a node after a landing.
use Rattle.std.specs.Prelude.{◌≡◌, ℕ, ◌+◌, ◌-◌, ◌<◌, Option, Some, None, List, [], ◌∷◌, Bool, true, false, ◌++◌}
use Rattle.jf_path.specs.declared.name.NodeName.{NodeName}
use Rattle.jf_hash.specs.Slots.{Part}
use Rattle.jf_model.specs.Nodes.{Path}
use Rattle.jf_model.specs.ChildEntries.{child_entries, sub}
use Rattle.jf_model.specs.NodeVersions.{VersionFollows}
use Rattle.jf_model.specs.Walk.{each_from, list_of_new_nodes}
use Rattle.jf_node.specs.LinkValue.{LinkValue, link_version_at}
use Rattle.jf_node.specs.Children.{content}
use Rattle.jf_node.specs.LinkFacts.{IsLink, IsLinkIf}
use Rattle.jf_diff.specs.Landings.{version_or}

-- a child is one nibble deeper than its node
abbrev pub IsOneBelow : ℕ → Option LinkValue → Type 0
IsOneBelow depth None = Unit {0}
IsOneBelow depth (Some c) = (depth < 64) × (c.depth ≡ depth + 1)

-- c is the child of x at nibble n
pub record IsBelow (x : LinkValue) (n : ℕ) (c : Option LinkValue) : Type 0 where
  pub entries : content c ≡ child_entries x.depth n x.entries
  pub placed : IsOneBelow x.depth c
  pub versions : (path : Path) → link_version_at (n ∷ path) (Some x) ≡ link_version_at path c
  pub sound : IsLinkIf c

-- c is the child at nibble n of an optional node
abbrev pub IsBelowIf : Option LinkValue → ℕ → Option LinkValue → Type 0
IsBelowIf None n c = c ≡ None
IsBelowIf (Some y) n c = IsBelow y n c

-- x stands, after the landing of `version`, where the entries es stood; `before` gives the versions of their nodes. Of x
-- itself nothing is said: a landing writes the top anew even if it changes no entry
pub record IsFreshBelow (version : ℕ) (es : Part) (before : Path → Option ℕ) (x : LinkValue) : Type 0 where
  pub versioned : (n : ℕ) (path : Path) → VersionFollows version (sub x.depth (n ∷ path) es) (sub x.depth (n ∷ path) x.entries) (before (n ∷ path)) (link_version_at (n ∷ path) (Some x))
  pub older : (n : ℕ) (path : Path) → ¬ (before (n ∷ path) ≡ Some version)

-- y stands in the place of x after the landing of `version`. Of the two nodes themselves nothing is said
pub record IsStaleBelow (version : ℕ) (x : LinkValue) (y : Option LinkValue) : Type 0 where
  pub versioned : (n : ℕ) (path : Path) → VersionFollows version (sub x.depth (n ∷ path) x.entries) (sub x.depth (n ∷ path) (content y)) (link_version_at (n ∷ path) (Some x)) (link_version_at (n ∷ path) y)
  pub older : (n : ℕ) (path : Path) → ¬ (link_version_at (n ∷ path) (Some x) ≡ Some version)

-- f of the nodes that are new from the child at nibble n of a node down
unfoldable pub listed_below : {X : Type 0} → ℕ → ℕ → Part → Part → (Path → X) → List X
listed_below depth n old new f = list_of_new_nodes (64 - (depth + 1)) (depth + 1) (child_entries depth n old) (child_entries depth n new) (λ path. f (n ∷ path))

-- f of a node in any case, and then of the nodes below it that are new
unfoldable pub from_node : {X : Type 0} → ℕ → Part → Part → (Path → X) → List X
from_node depth old new f = f [] ∷ each_from 16 0 (λ n. listed_below depth n old new f)

-- `kept` says whether there is a node that was there before the landing of `version`
abbrev pub TellsIfOlder : Option LinkValue → ℕ → Bool → Type 0
TellsIfOlder None version kept = kept ≡ false
TellsIfOlder (Some y) version kept = IsLink y × (kept ≡ true → ¬ (y.version ≡ version)) × (kept ≡ false → y.version ≡ version)

-- the name of the node at a path below x, if x stands at the path `front`
abbrev pub name_below : Path → LinkValue → Path → NodeName
name_below front x path = record { version = version_or (link_version_at path (Some x)); path = front ++ path }
