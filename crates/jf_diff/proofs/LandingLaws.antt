-- What a landing wrote and made stale, by what is listed from its top down.
use Rattle.std.proofs.Common.{ℕ, Option, None, Some, subst, ◌+◌, ◌≡◌, refl, ◌∷◌, true, T, [], ◌++◌, length, List, sym, ap, ap₂, ◌∙◌, arith, cond, IsTrue, map}
use Rattle.std.proofs.lemmas.List.{length-map}
use Rattle.std.specs.FinMap.{entries, is_sorted}
use Rattle.std.specs.FinMap as fin
use Rattle.std.specs.List.Sorted.{IsPermutation}
use Rattle.jf_path.specs.declared.name.NodeName.{NodeName}
use Rattle.jf_path.specs.declared.node.PlainNode.{PlainNode}
use Rattle.jf_path.specs.Names.{are_rising}
use Rattle.jf_path.specs.Keys.{key_cmp}
use Rattle.jf_hash.specs.Maps.{Map, apply}
use Rattle.jf_hash.specs.Slots.{Part}
use Rattle.jf_model.specs.Nodes.{Path, plain_node, is_node, is_fresh, fresh}
use Rattle.jf_model.specs.ChildEntries.{sub}
use Rattle.jf_model.specs.NodeVersions.{VersionFollows}
use Rattle.jf_model.specs.Walk.{with_root}
use Rattle.jf_walk.proofs.FreshBound.{length-fresh}
use Rattle.jf_walk.proofs.ChildEntryLaws.{sub-none}
use Rattle.jf_walk.proofs.FreshParts.{with_root-fresh_parts}
use Rattle.jf_walk.proofs.FreshLaws.{with_root-fresh}
use Rattle.jf_walk.proofs.FreshOrder.{sorted-fresh}
use Rattle.jf_walk.proofs.FreshVersions.{is_fresh-same, is_fresh-other}
use Rattle.jf_walk.proofs.SubLaws.{is_node-sub}
use Rattle.jf_walk.proofs.VersionLaws.{moved}
use Rattle.jf_node.specs.LinkValue.{LinkValue, link_version_at}
use Rattle.jf_node.specs.Snapshots.{IsTopIf, IsSnapshot, IsTopOf, snapshot_of, snapshot_version_at}
use Rattle.jf_node.specs.Children.{content}
use Rattle.jf_node.specs.SnapshotValue.{SnapshotValue}
use Rattle.jf_diff.specs.OptionalNodes.{IsAtDepth, IsOfVersion}
use Rattle.jf_diff.specs.Tops.{IsFreshUnder, IsStaleUnder, old_name}
use Rattle.jf_diff.specs.Landings.{version_in, written_node_in, written_nodes, stale_names_in, IsNextOf, IsFreshCount}
use Rattle.jf_diff.specs.Plains.{fresh_under}
use Rattle.jf_diff.proofs.PathNames.{rise_paths}

-- ---- what holds of the top of a snapshot
pub top_placed : (version : ℕ) (old : Option LinkValue) → IsTopIf version old → IsAtDepth 0 old
top_placed version None top = tt
top_placed version (Some x) top = top.depth

-- the top of a snapshot has its version
pub top_own : (version : ℕ) (top : Option LinkValue) → IsTopIf version top → IsOfVersion version top
top_own version None is = tt
top_own version (Some x) is = is.version

pub version_below : (version n : ℕ) (p : Path) (top : Option LinkValue) → snapshot_version_at (n ∷ p) (snapshot_of version top) ≡ link_version_at (n ∷ p) top
version_below version n p None = refl
version_below version n p (Some x) = refl

-- ---- what is written
written_at : (version : ℕ) (top : Option LinkValue) (es : Part) (p : Path) → content top ≡ es → IsAtDepth 0 top → fresh_under version top p ≡ written_node_in (snapshot_of version top) (p, sub 0 p es)
unfolding plain_node
written_at version None es p is placed =
    let name : NodeName = record { version = version; path = p } in
    let nothing : sub 0 p es ≡ [] = ap (sub 0 p) (sym is) ∙ sub-none 0 p in
    ap (λ part. (name, plain_node true (λ i. version_in (snapshot_of version None) (p ++ i ∷ [])) (length p) part)) (sym nothing)
written_at version (Some y) es p is placed =
    let name : NodeName = record { version = version; path = p } in
    let depth : y.depth + length p ≡ length p = omega (arith, placed) in
    let part : sub y.depth p y.entries ≡ sub 0 p es = ap (λ d. sub d p y.entries) placed ∙ ap (sub 0 p) is in
    ap₂ (λ d s. (name, plain_node true (λ i. version_in (snapshot_of version (Some y)) (p ++ i ∷ [])) d s)) depth part

written_all : (version : ℕ) (top : Option LinkValue) (m m' : Map) → content top ≡ entries m' → IsAtDepth 0 top → with_root (entries m) (entries m') (fresh_under version top) ≡ written_nodes m m' (snapshot_of version top)
written_all version top m m' is placed =
    let s = snapshot_of version top in
    let g : Path → Part → NodeName × PlainNode = λ p part. written_node_in s (p, part) in
    let same : fresh_under version top ≡ (λ (p : Path). g p (sub 0 p (entries m'))) = λ i p. written_at version top (entries m') p is placed i in
    ap (with_root (entries m) (entries m')) same ∙ with_root-fresh_parts m m' g

-- ---- what a landing wrote and made stale
-- a node that has the new version exactly if it is fresh is versioned by its part
pub follows : (version : ℕ) (old new : Part) (n : ℕ) (p : Path) (before now : Option ℕ) → (is_node 0 (n ∷ p) new ≡ true → now ≡ cond (is_fresh old new (n ∷ p)) (Some version) before) → VersionFollows version (sub 0 (n ∷ p) old) (sub 0 (n ∷ p) new) before now
follows version old new n p before now h = record {
  kept = λ some same. let node = is_node-sub 0 (n ∷ p) new some in h node ∙ ap (λ b. cond b (Some version) before) (is_fresh-same old new n p node same);
  fresh = λ some other. let node = is_node-sub 0 (n ∷ p) new some in h node ∙ ap (λ b. cond b (Some version) before) (is_fresh-other old new n p node other);
}

-- the versions below the top of the next snapshot
below_next : (old new : SnapshotValue) (n : ℕ) (p : Path) → IsNextOf old new → VersionFollows new.version (sub 0 (n ∷ p) (entries old.map)) (sub 0 (n ∷ p) (entries new.map)) (snapshot_version_at (n ∷ p) old) (snapshot_version_at (n ∷ p) new)
below_next old new n p next =
    let at : entries (apply old.map next.0) ≡ entries new.map = sym (ap (λ (m : Map). entries m) next.1.map) in
    follows new.version (entries old.map) (entries new.map) n p (snapshot_version_at (n ∷ p) old) (snapshot_version_at (n ∷ p) new)
    (λ node. subst (λ es. is_node 0 (n ∷ p) es ≡ true → snapshot_version_at (n ∷ p) new ≡ cond (is_fresh (entries old.map) es (n ∷ p)) (Some (old.version + 1)) (snapshot_version_at (n ∷ p) old)) at (next.1.versions (n ∷ p)) node
    ∙ ap (λ v. cond (is_fresh (entries old.map) (entries new.map) (n ∷ p)) (Some v) (snapshot_version_at (n ∷ p) old)) (sym next.1.version))

pub version_top : (s : SnapshotValue) (top : Option LinkValue) (n : ℕ) (p : Path) → IsTopOf s top → link_version_at (n ∷ p) top ≡ snapshot_version_at (n ∷ p) s
version_top s top n p is = sym (version_below s.version n p top) ∙ ap (snapshot_version_at (n ∷ p)) (sym is.value)

older_than : (old new : SnapshotValue) (path : Path) → IsSnapshot old → IsNextOf old new → ¬ (snapshot_version_at path old ≡ Some new.version)
older_than old new path sound next e = let le = sound.newest path new.version e in omega (arith, le, next.1.version)

-- the top of the next snapshot stands where the entries of the old one stood
fresh_top : (old new : SnapshotValue) (top : Option LinkValue) → IsSnapshot old → IsTopOf new top → IsNextOf old new → IsFreshUnder new.version (entries old.map) (λ p. snapshot_version_at p old) top
fresh_top old new top sound is next = under top (top_placed new.version top is.top) (λ n p. moved new.version _ _ _ _ _ _ _ _ (below_next old new n p next) refl (ap (sub 0 (n ∷ p)) (sym is.same)) refl (version_top new top n p is))
  where
    under : (top : Option LinkValue) → IsAtDepth 0 top
        → ((n : ℕ) (p : Path) → VersionFollows new.version (sub 0 (n ∷ p) (entries old.map)) (sub 0 (n ∷ p) (content top)) (snapshot_version_at (n ∷ p) old) (link_version_at (n ∷ p) top))
        → IsFreshUnder new.version (entries old.map) (λ p. snapshot_version_at p old) top
    under None placed below = tt
    under (Some x) placed below = record {
      versioned = λ n p. subst (λ d. VersionFollows new.version (sub d (n ∷ p) (entries old.map)) (sub d (n ∷ p) x.entries) (snapshot_version_at (n ∷ p) old) (link_version_at (n ∷ p) (Some x))) (sym placed) (below n p);
      older = λ n p. older_than old new (n ∷ p) sound next;
    }

-- the top was made by a landing over the entries of the old one
pub landed_top : (old new : SnapshotValue) (was top : Option LinkValue) → IsSnapshot old → IsTopOf old was → IsTopOf new top → IsNextOf old new → (before : Path → Option ℕ) × IsFreshUnder new.version (content was) before top
landed_top old new was top sound at is next =
    let before : Path → Option ℕ = λ p. snapshot_version_at p old in
    (before, subst (λ es. IsFreshUnder new.version es before top) at.same (fresh_top old new top sound is next))

-- the top of the next snapshot stands in the place of the old one
pub stale_top : (old new : SnapshotValue) (was top : Option LinkValue) → IsSnapshot old → IsTopOf old was → IsTopOf new top → IsNextOf old new → IsStaleUnder new.version was top
stale_top old new was top sound at is next =
    under was (top_placed old.version was at.top) (λ n p. version_top old was n p at)
    (λ n p. moved new.version _ _ _ _ _ _ _ _ (below_next old new n p next) (ap (sub 0 (n ∷ p)) (sym at.same)) (ap (sub 0 (n ∷ p)) (sym is.same)) (version_top old was n p at) (version_top new top n p is))
  where
    under : (was : Option LinkValue) → IsAtDepth 0 was
        → ((n : ℕ) (p : Path) → link_version_at (n ∷ p) was ≡ snapshot_version_at (n ∷ p) old)
        → ((n : ℕ) (p : Path) → VersionFollows new.version (sub 0 (n ∷ p) (content was)) (sub 0 (n ∷ p) (content top)) (link_version_at (n ∷ p) was) (link_version_at (n ∷ p) top))
        → IsStaleUnder new.version was top
    under None placed same below = tt
    under (Some x) placed same below = record {
      versioned = λ n p. subst (λ d. VersionFollows new.version (sub d (n ∷ p) x.entries) (sub d (n ∷ p) (content top)) (link_version_at (n ∷ p) (Some x)) (link_version_at (n ∷ p) top)) (sym placed) (below n p);
      older = λ n p e. older_than old new (n ∷ p) sound next (sym (same n p) ∙ e);
    }

pub sorted_top : (s : SnapshotValue) (top : Option LinkValue) → IsTopOf s top → T (is_sorted key_cmp (content top))
sorted_top s top is = subst (λ es. T (is_sorted key_cmp es)) is.same (fin.entries_sorted s.map)

-- what is listed from the top down are the nodes that the landing wrote
listed_written : (old new : SnapshotValue) (top : Option LinkValue) (nodes : List (NodeName × PlainNode)) → IsTopOf new top → nodes ≡ with_root (entries old.map) (content top) (fresh_under new.version top) → nodes ≡ written_nodes old.map new.map new
listed_written old new top nodes is at =
    at ∙ ap (λ es. with_root (entries old.map) es (fresh_under new.version top)) (sym is.same) ∙ written_all new.version top old.map new.map (sym is.same) (top_placed new.version top is.top) ∙ ap (written_nodes old.map new.map) (sym is.value)

-- and the names of those that it made stale
listed_stale : (old new : SnapshotValue) (was top : Option LinkValue) (names : List NodeName) → IsTopOf old was → IsTopOf new top → IsPermutation (with_root (content top) (content was) (old_name old.version was)) names → IsPermutation (stale_names_in old.map new.map old) names
listed_stale old new was top names at is moved = subst (λ ns. IsPermutation ns names)
    (ap₂ (λ a c. with_root a c (old_name old.version was)) (sym is.same) (sym at.same) ∙ with_root-fresh new.map old.map (old_name old.version was) ∙ ap (stale_names_in old.map new.map) (sym at.value)) moved

-- the same, by what the walks from the top return
pub landed_nodes : (old new : SnapshotValue) (top : Option LinkValue) (version : ℕ) (nodes : List (NodeName × PlainNode)) → IsSnapshot old → IsTopOf new top → IsNextOf old new → version ≡ new.version
    → ((es : Part) (before : Path → Option ℕ) → IsFreshUnder version es before top → nodes ≡ with_root es (content top) (fresh_under version top)) → nodes ≡ written_nodes old.map new.map new
landed_nodes old new top version nodes sound is next at listing =
    listed_written old new top nodes is
    (subst (λ v. (es : Part) (before : Path → Option ℕ) → IsFreshUnder v es before top → nodes ≡ with_root es (content top) (fresh_under v top)) at listing (entries old.map) (λ p. snapshot_version_at p old) (fresh_top old new top sound is next))

pub landed_names : (old new : SnapshotValue) (was top : Option LinkValue) (head : ℕ) (names : List NodeName) → IsTopOf old was → IsTopOf new top → head ≡ old.version
    → IsPermutation (with_root (content top) (content was) (old_name head was)) names → IsPermutation (stale_names_in old.map new.map old) names
landed_names old new was top head names at is own moved = listed_stale old new was top names at is (subst (λ h. IsPermutation (with_root (content top) (content was) (old_name h was)) names) own moved)

-- a batch of n keys writes at most 66 n + 1 nodes
pub written_count : (old new : SnapshotValue) (nodes : List (NodeName × PlainNode)) → IsSnapshot old → nodes ≡ written_nodes old.map new.map new → IsFreshCount old new (length nodes)
written_count old new nodes sound is b batch next =
    omega (arith, ap length is, length-map (fresh old.map new.map) (written_node_in new), ap (λ m. length (fresh old.map m)) next.map, length-fresh old.map b sound.map batch)

-- the names of the nodes that a landing writes rise
pub written_rise : (old new : Map) (s : SnapshotValue) → IsTrue (are_rising (map (λ (e : NodeName × PlainNode). e.0) (written_nodes old new s)))
written_rise old new s = rise_paths s.version (written_node_in s) (λ x. refl) (fresh old new) (sorted-fresh old new)
