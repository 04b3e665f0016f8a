-- The node of a name in a snapshot, found by a walk from the top.
use Rattle.std.proofs.Common.{◌≡◌, ℕ, ◌+◌, Some, None, [], ◌∷◌, sym, ap, ◌∙◌, refl, true, length}
use Rattle.std.specs.FinMap.{entries}
use Rattle.std.specs.Option.{is_some}
use Rattle.jf_path.specs.declared.name.NodeName.{NodeName}
use Rattle.jf_hash.specs.Slots.{Part}
use Rattle.jf_model.specs.ChildEntries.{sub}
use Rattle.jf_model.specs.Nodes.{Path, under, is_node}
use Rattle.jf_walk.proofs.ChildEntryLaws.{sub-none}
use Rattle.jf_walk.proofs.SubLaws.{sub-under}
use Rattle.jf_node.specs.LinkValue.{LinkValue, link_version_at}
use Rattle.jf_node.specs.SnapshotValue.{SnapshotValue}
use Rattle.jf_node.specs.Snapshots.{IsTopOf, IsSnapshot, snapshot_version_at}
use Rattle.jf_diff.specs.Below.{IsBelow}
use Rattle.jf_replay.specs.Changes.{IsAtPath, IsNameIn}

-- ---- one step down
-- nothing stands below a child that isn't there
pub step_none : (x : LinkValue) (n : ℕ) (p : Path) → IsBelow x n None → (sub x.depth (n ∷ p) x.entries ≡ []) × (link_version_at (n ∷ p) (Some x) ≡ None)
step_none x n p below = (ap (sub (x.depth + 1) p) (sym below.entries) ∙ sub-none (x.depth + 1) p, below.versions p)

-- what stands below a child stands below its node, one step further
pub step_some : (x c : LinkValue) (n : ℕ) (p : Path) → IsBelow x n (Some c) → (sub c.depth p c.entries ≡ sub x.depth (n ∷ p) x.entries) × (link_version_at p (Some c) ≡ link_version_at (n ∷ p) (Some x))
step_some x c n p below = (ap (λ d. sub d p c.entries) below.placed.1 ∙ ap (sub (x.depth + 1) p) below.entries, sym (below.versions p))

-- ---- below the top of a snapshot
-- the versions of a snapshot's nodes are those of its top
pub version-at_top : (s : SnapshotValue) (x : LinkValue) (p : Path) → IsTopOf s (Some x) → snapshot_version_at p s ≡ link_version_at p (Some x)
version-at_top s x p top = ap (snapshot_version_at p) top.value

-- the walk ends at a node without a child on the path
pub at_none : (x y : LinkValue) (p q : Path) (n : ℕ) (rest : Path) → q ≡ n ∷ rest → sub y.depth q y.entries ≡ sub x.depth p x.entries → link_version_at q (Some y) ≡ link_version_at p (Some x) → IsBelow y n None → IsAtPath x p None
at_none x y p q n rest is same version below =
    let none = step_none y n rest below in
    record {
      entries = sym none.0 ∙ ap (λ r. sub y.depth r y.entries) (sym is) ∙ same;
      version = sym none.1 ∙ ap (λ r. link_version_at r (Some y)) (sym is) ∙ version;
      sound = tt;
    }

-- ---- the empty map
-- its only node is the root
pub none_named : (s : SnapshotValue) (v : ℕ) (p : Path) → IsTopOf s None → snapshot_version_at p s ≡ Some v → length p ≡ 0
none_named s v [] top is = refl
none_named s v (i ∷ p) top is = let none : None ≡ Some v = sym (ap (snapshot_version_at (i ∷ p)) top.value) ∙ is in absurd (cc)

-- no entry stands under it
pub none_under : (s : SnapshotValue) (name : NodeName) → IsTopOf s None → IsSnapshot s → IsNameIn s name → under 0 name.path (entries s.map) ≡ []
none_under s name top sound named =
    let node : is_node 0 name.path (entries s.map) ≡ true = sym (sound.versioned name.path) ∙ ap is_some named in
    sym (sub-under 0 name.path (entries s.map) node) ∙ ap (sub 0 name.path) top.same ∙ sub-none 0 name.path

-- ---- nodes of other maps
-- the entries below the top at the path of a node of a snapshot
pub entries-at_top : (s : SnapshotValue) (x : LinkValue) (name : NodeName) (es : Part) → IsTopOf s (Some x) → IsSnapshot s → link_version_at name.path (Some x) ≡ Some name.version → es ≡ sub 0 name.path x.entries
    → IsNameIn s name × (under 0 name.path (entries s.map) ≡ es)
entries-at_top s x name es top sound version is =
    let named = version-at_top s x name.path top ∙ version in
    let node : is_node 0 name.path (entries s.map) ≡ true = sym (sound.versioned name.path) ∙ ap is_some named in
    (named, sym (sub-under 0 name.path (entries s.map) node) ∙ ap (sub 0 name.path) top.same ∙ sym is)
