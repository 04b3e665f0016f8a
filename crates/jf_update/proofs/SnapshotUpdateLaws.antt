-- The update of a snapshot, from the update of its top.
use Rattle.std.proofs.Common.{ℕ, Option, None, Some, subst, ◌+◌, ◌≡◌, refl, ◌∷◌, true, [], length, sym, ap, ◌∙◌, cond}
use Rattle.std.specs.FinMap.{entries}
use Rattle.std.specs.List.Sorted.{IsPermutation}
use Rattle.jf_hash.specs.Maps.{Batch, IsBatch, Map, apply}
use Rattle.jf_hash.specs.Roots.{root}
use Rattle.jf_hash.proofs.MapLaws.{map-from_entries}
use Rattle.jf_model.specs.Parts.{IsPartUnder}
use Rattle.jf_model.specs.Nodes.{Path, is_node, is_fresh}
use Rattle.jf_model.specs.ChildEntries.{sub}
use Rattle.jf_model.specs.Changes.{entries_after_batch}
use Rattle.jf_model.proofs.ChangeLaws.{entries-apply}
use Rattle.jf_walk.proofs.FreshBound.{IsPartUnder-map, IsPartUnder-batch}
use Rattle.jf_walk.proofs.FreshVersions.{VersionFollows-is_fresh}
use Rattle.jf_walk.proofs.VersionLaws.{moved}
use Rattle.jf_node.specs.LinkValue.{LinkValue, link_version_at}
use Rattle.jf_node.specs.Snapshots.{IsTopIf, IsSnapshot, IsTopOf, snapshot_of, snapshot_version_at}
use Rattle.jf_node.specs.Children.{content}
use Rattle.jf_node.specs.SnapshotValue.{SnapshotValue}
use Rattle.jf_node.specs.declared.update.Update.{Update}
use Rattle.jf_node.proofs.SnapshotLaws.{entries-snapshot_of}
use Rattle.jf_diff.specs.OptionalNodes.{IsAtDepth, IsOfVersion}
use Rattle.jf_diff.proofs.LandingLaws.{version_below}
use Rattle.jf_diff.specs.Landings.{written_nodes, stale_names_in, IsNextSnapshot, IsFreshCount}
use Rattle.jf_update.specs.TopUpdates.{NoneNewer, IsNextTop}
use Rattle.jf_update.specs.Outcomes.{AreParts, AreShort}
use Rattle.jf_update.specs.Updates.{IsUpdate}

-- ---- what holds of the top of a snapshot
pub top_newest : (version : ℕ) (old : Option LinkValue) → IsTopIf version old → NoneNewer version old
top_newest version None top p v e = absurd (cc)
top_newest version (Some x) top p v e = top.newest p v e

pub change_parts : (head : SnapshotValue) (old : Option LinkValue) (b : Batch) → IsSnapshot head → IsTopOf head old → IsBatch b → AreShort b → AreParts 0 (content old) b
change_parts head old b sound top batch short = record {
  path = λ i. 0;
  entries = subst (IsPartUnder 0 (λ i. 0)) top.same (IsPartUnder-map (λ i. 0) head.map sound.map);
  batch = IsPartUnder-batch (λ i. 0) b batch;
  short = short;
}

-- the top after a landing meets what is asked of a top
pub next_if : (head : ℕ) (old : Option LinkValue) (b : Batch) (top : Option LinkValue) → IsNextTop head old b top → IsTopIf (head + 1) top
next_if head old b top next = all top next.placed next.own next.newest
  where
    all : (top : Option LinkValue) → IsAtDepth 0 top → IsOfVersion (head + 1) top → NoneNewer (head + 1) top → IsTopIf (head + 1) top
    all None placed own newest = tt
    all (Some x) placed own newest = record { depth = placed; version = own; newest = newest }

-- ---- maps
version-snapshot_of : (version : ℕ) (top : Option LinkValue) → (snapshot_of version top).version ≡ version
version-snapshot_of version None = refl
version-snapshot_of version (Some x) = refl

-- ---- which version each node has
versions_at : (version : ℕ) (head now : SnapshotValue) (old top : Option LinkValue) (m' : Map) (path : Path) → now ≡ snapshot_of version top → head ≡ snapshot_of head.version old → entries head.map ≡ content old → content top ≡ entries m' → IsSnapshot now → now.version ≡ version
    → ((n : ℕ) (p : Path) → is_node 0 (n ∷ p) (entries m') ≡ true → link_version_at (n ∷ p) top ≡ cond (is_fresh (entries head.map) (entries m') (n ∷ p)) (Some version) (link_version_at (n ∷ p) old))
    → is_node 0 path (entries m') ≡ true → snapshot_version_at path now ≡ cond (is_fresh (entries head.map) (entries m') path) (Some version) (snapshot_version_at path head)
unfolding is_fresh
versions_at version head now old top m' [] is was same made sound own below node = sound.root ∙ ap (λ v. Some v) own
versions_at version head now old top m' (n ∷ p) is was same made sound own below node =
    ap (snapshot_version_at (n ∷ p)) is ∙ version_below version n p top ∙ below n p node
    ∙ ap (λ o. cond (is_fresh (entries head.map) (entries m') (n ∷ p)) (Some version) o) (sym (ap (snapshot_version_at (n ∷ p)) was ∙ version_below head.version n p old))

-- ---- the whole
pub advanced : (head : SnapshotValue) (old : Option LinkValue) (b : Batch) (top : Option LinkValue) (s : SnapshotValue) → IsSnapshot head → IsTopOf head old → IsNextTop head.version old b top → s ≡ snapshot_of (head.version + 1) top → IsSnapshot s → IsNextSnapshot head b s
advanced head old b top s sound was next is now =
    let v = head.version + 1 in
    let m = head.map in
    let m' = apply m b in
    let made : content top ≡ entries m' = next.entries ∙ ap (λ es. entries_after_batch es b) (sym was.same) ∙ sym (entries-apply m b) in
    let version_is : s.version ≡ v = ap (λ (s : SnapshotValue). s.version) is ∙ version-snapshot_of v top in
    record {
      map = ap (λ (s : SnapshotValue). s.map) is ∙ map-from_entries (snapshot_of v top).map m' (entries-snapshot_of v top next.sound ∙ made);
      version = version_is;
      versions = λ path node. versions_at v head s old top m' path is was.value was.same made now version_is
          (λ n p is_there. VersionFollows-is_fresh v (entries m) (entries m') n p (link_version_at (n ∷ p) old) (link_version_at (n ∷ p) top)
          (moved v _ _ _ _ _ _ _ _ (next.versions n p) (ap (sub 0 (n ∷ p)) was.same) (ap (sub 0 (n ∷ p)) (sym made)) refl refl) is_there) node;
    }

-- the next snapshot, with what its landing wrote and made stale
pub updated : (head : SnapshotValue) (b : Batch) (u : Update) → IsBatch b → IsNextSnapshot head b u.snapshot → u.root ≡ root u.snapshot.map
    → u.fresh ≡ written_nodes head.map u.snapshot.map u.snapshot → IsPermutation (stale_names_in head.map u.snapshot.map head) u.stale → IsFreshCount head u.snapshot (length u.fresh) → IsUpdate head b u
updated head b u batch next rooted fresh_is stale_is bound = record {
  next = next;
  root = rooted ∙ ap root next.map;
  fresh = fresh_is ∙ ap (λ m. written_nodes head.map m u.snapshot) next.map;
  stale = subst (λ m. IsPermutation (stale_names_in head.map m head) u.stale) next.map stale_is;
  bound = bound b batch next;
}
