-- The nodes below a path after a batch.
use Rattle.std.specs.Prelude.{◌≤◌, length, IfSome, ℕ, ◌≡◌, Option, ◌+◌, ◌<◌, false, Bool, List, None, slice_index_or, Some, true, slice_set}
use Rattle.std.specs.List.{AllByRecursion}
use Rattle.jf_path.specs.Limits.{max_value}
use Rattle.jf_hash.specs.Maps.{Batch}
use Rattle.jf_hash.specs.Slots.{Part, with_nibble}
use Rattle.jf_model.specs.Parts.{IsPartUnder}
use Rattle.jf_model.specs.Changes.{entries_after_batch}
use Rattle.jf_model.specs.NodeVersions.{VersionsFollow}
use Rattle.jf_node.specs.LinkValue.{LinkValue, link_version_at}
use Rattle.jf_node.specs.Children.{content, FitFrom, entries_of_children}
use Rattle.jf_diff.specs.OptionalNodes.{IsAtDepth}
use Rattle.jf_update.specs.Made.{IsBuilt}
use Rattle.jf_update.specs.declared.outcome.Outcome.{Outcome}
use Rattle.jf_update.specs.declared.outcome.Outcome.TheVariants.{Same, New}
use Rattle.jf_update.specs.declared.outcome.NewChildren.{NewChildren}

-- each value of a batch has at most 4,096 bytes
abbrev pub AreShort : Batch → Type 0
AreShort bs = AllByRecursion (λ e. IfSome e.1 (λ v. length v ≤ max_value)) bs

-- entries and a batch whose keys all begin with one path
pub record AreParts (depth : ℕ) (es : Part) (bs : Batch) : Type 0 where
  pub path : ℕ → ℕ
  pub entries : IsPartUnder depth path es
  pub batch : IsPartUnder depth path bs
  pub short : AreShort bs

-- y is the node x after the batch: its entries, its depth and the versions of its nodes
pub record IsNodeUpdate (depth version : ℕ) (x : Option LinkValue) (bs : Batch) (y : Option LinkValue) : Type 0 where
  pub entries : content y ≡ entries_after_batch (content x) bs
  pub placed : IsAtDepth depth y
  pub versions : VersionsFollow depth version (content x) (content y) (λ p. link_version_at p x) (λ p. link_version_at p y)

-- the outcome of a batch over a node: unchanged, or the node after the batch
abbrev pub IsOutcome : ℕ → ℕ → Option LinkValue → Batch → Outcome → Type 0
IsOutcome depth version x bs Same = entries_after_batch (content x) bs ≡ content x
IsOutcome depth version x bs (New y) = IsNodeUpdate depth version x bs y × ¬ (entries_after_batch (content x) bs ≡ content x)

-- the outcome of a batch over at most one entry: unchanged, or all nodes new
abbrev pub IsLeafOutcome : ℕ → ℕ → Part → Batch → Outcome → Type 0
IsLeafOutcome depth version es bs Same = entries_after_batch es bs ≡ es
IsLeafOutcome depth version es bs (New y) = IsBuilt depth version (entries_after_batch es bs) y × ¬ (entries_after_batch es bs ≡ es)

-- the children after a batch; those that didn't change have the same entries as before
pub record AreNewChildren (depth version : ℕ) (olds : List (Option LinkValue)) (bs : Batch) (news : List (Option LinkValue)) (changed : List Bool) : Type 0 where
  pub long : length news ≡ 16
  pub fit : FitFrom depth 0 news
  pub each : (k : ℕ) → k < 16 → IsNodeUpdate (depth + 1) version (slice_index_or olds k None) (with_nibble depth k bs) (slice_index_or news k None)
  pub same : (k : ℕ) → k < 16 → slice_index_or changed k false ≡ false → content (slice_index_or news k None) ≡ content (slice_index_or olds k None)

-- the outcome of a batch over the children of a node: unchanged, or the children after the batch
abbrev pub AreOutcome : ℕ → ℕ → List (Option LinkValue) → Batch → Option NewChildren → Type 0
AreOutcome depth version olds bs None = entries_after_batch (entries_of_children olds) bs ≡ entries_of_children olds
AreOutcome depth version olds bs (Some w) = AreNewChildren depth version olds bs w.children w.changed × ¬ (entries_after_batch (entries_of_children olds) bs ≡ entries_of_children olds)

-- the children after the outcome for the child at nibble n
abbrev pub IsOutcomePlaced : NewChildren → ℕ → Outcome → NewChildren → Type 0
IsOutcomePlaced w n Same now = (now.children ≡ w.children) × (now.changed ≡ w.changed)
IsOutcomePlaced w n (New y) now = (now.children ≡ slice_set w.children n y) × (now.changed ≡ slice_set w.changed n true)
