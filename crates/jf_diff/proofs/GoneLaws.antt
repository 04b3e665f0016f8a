-- The nodes that a landing makes stale, by themselves, below a link and from the top down.
use Rattle.std.proofs.Common.{◌≡◌, ℕ, ◌+◌, ◌<◌, Option, Some, None, List, [], ◌∷◌, ◌++◌, map, length, true, arith, sym, ap, ap₂, ◌∙◌, subst, refl, append-nil, append_assoc}
use Rattle.std.specs.FinMap.{entries}
use Rattle.std.specs.List.{AllByRecursion}
use Rattle.jf_path.specs.declared.name.NodeName.{NodeName}
use Rattle.jf_path.specs.declared.node.PlainNode.{PlainNode}
use Rattle.jf_path.specs.declared.node.PlainNode.TheVariants as node
use Rattle.jf_hash.specs.Slots.{Part}
use Rattle.jf_hash.specs.Maps.{Map}
use Rattle.jf_model.specs.ChildEntries.{sub}
use Rattle.jf_model.specs.Nodes.{Path, nodes, plain_node}
use Rattle.jf_model.specs.NodeVersions.{VersionFollows}
use Rattle.jf_model.specs.Walk.{with_root}
use Rattle.jf_model.proofs.NodeLaws.{IsListed, nodes_below-IsListed}
use Rattle.jf_walk.proofs.ChildEntryLaws.{sub-none}
use Rattle.jf_walk.proofs.FreshCounts.{with_root-nodes}
use Rattle.jf_walk.proofs.FreshParts.{with_root-fresh_parts}
use Rattle.jf_walk.proofs.SubLaws.{sub-under}
use Rattle.jf_walk.proofs.VersionLaws.{moved}
use Rattle.jf_walk.proofs.WalkLaws.{with_root-gone}
use Rattle.jf_node.specs.LinkValue.{LinkValue, link_version_at}
use Rattle.jf_node.specs.Children.{content}
use Rattle.jf_node.specs.SnapshotValue.{SnapshotValue}
use Rattle.jf_node.specs.Snapshots.{IsSnapshot, IsTopOf, snapshot_of, snapshot_version_at}
use Rattle.jf_diff.specs.Landings.{version_in, version_or}
use Rattle.jf_diff.specs.Below.{IsBelow, IsStaleBelow, from_node}
use Rattle.jf_diff.specs.OptionalNodes.{IsAtDepth, IsOfVersion}
use Rattle.jf_diff.specs.Plains.{plain_at}
use Rattle.jf_diff.specs.Tops.{IsStaleUnder}
use Rattle.jf_diff.specs.Gone.{IsLaterSnapshot, gone_node_below, gone_node_in, gone_nodes, gone_node_under}
use Rattle.jf_diff.proofs.LandingLaws.{follows, top_placed, version_top}
use Rattle.jf_diff.proofs.PlainNodes.{plain-child}
use Rattle.jf_diff.proofs.Walks.{with_root-from_node}
use Rattle.jf_diff.proofs.PathNames.{name_of_path}

-- ---- one node
pub gone_one : (since : ℕ) (front : Path) (x : LinkValue) (v : ℕ) (plain : PlainNode) (e : NodeName × PlainNode × ℕ) → v ≡ x.version → link_version_at [] (Some x) ≡ Some x.version → plain ≡ plain_at x [] → e ≡ (name_of_path v front, plain, since) → e ≡ gone_node_below since front x []
gone_one since front x v plain e is own by_itself at =
    at ∙ ap₂ (λ n (p : PlainNode). (n, p, since)) (ap₂ (λ k q. name_of_path k q) (is ∙ ap version_or (sym own)) (sym (append-nil front))) by_itself

pub gone_child : (since : ℕ) (front : Path) (x : LinkValue) (n : ℕ) (c : LinkValue) (front' : Path) → IsBelow x n (Some c) → front' ≡ front ++ n ∷ [] → (p : Path) → gone_node_below since front' c p ≡ gone_node_below since front x (n ∷ p)
gone_child since front x n c front' below at p =
    ap₂ (λ m (r : PlainNode). (m, r, since))
    (ap₂ (λ v q. name_of_path (version_or v) q) (sym (below.versions p)) (ap (λ q. q ++ p) at ∙ append_assoc front (n ∷ []) p))
    (sym (plain-child x n c p below))

-- ---- from a top down
pub gone_none : (since head : ℕ) (old top : Option LinkValue) (out now : List (NodeName × PlainNode × ℕ)) (name : NodeName) → old ≡ None → name ≡ name_of_path head [] → now ≡ out ++ (name, node.Null, since) ∷ [] → now ≡ out ++ with_root (content top) (content old) (gone_node_under since head old)
gone_none since head old top out now name is named at =
    at ∙ ap (λ m. out ++ (m, node.Null, since) ∷ []) named
    ∙ ap (λ l. out ++ l) (sym (with_root-gone (content top) (gone_node_under since head None)) ∙ ap (λ o. with_root (content top) (content o) (gone_node_under since head o)) (sym is))

pub gone_some : (since head : ℕ) (old top : Option LinkValue) (x : LinkValue) (front : Path) (out now : List (NodeName × PlainNode × ℕ)) → old ≡ Some x → IsAtDepth 0 old → IsOfVersion since top → front ≡ []
    → (IsOfVersion since top → IsStaleBelow since x top → now ≡ out ++ from_node x.depth (content top) x.entries (gone_node_below since front x))
    → IsStaleUnder since old top → now ≡ out ++ with_root (content top) (content old) (gone_node_under since head old)
gone_some since head old top x front out now is placed own bare listing under =
    listing own (subst (λ o. IsStaleUnder since o top) is under)
    ∙ ap (λ l. out ++ l) (
    with_root-from_node (content top) x.depth x.entries (gone_node_under since head (Some x)) (gone_node_below since front x) _ (subst (IsAtDepth 0) is placed)
    (λ p. ap (λ q. (name_of_path (version_or (link_version_at p (Some x))) (q ++ p), plain_at x p, since)) bare) refl
    ∙ ap (λ o. with_root (content top) (content o) (gone_node_under since head o)) (sym is))

-- ---- the top of a later snapshot
stale_over : (since : ℕ) (was top : Option LinkValue) → IsAtDepth 0 was
    → ((n : ℕ) (p : Path) → VersionFollows since (sub 0 (n ∷ p) (content was)) (sub 0 (n ∷ p) (content top)) (link_version_at (n ∷ p) was) (link_version_at (n ∷ p) top))
    → ((n : ℕ) (p : Path) → ¬ (link_version_at (n ∷ p) was ≡ Some since))
    → IsStaleUnder since was top
stale_over since None top placed below older = tt
stale_over since (Some x) top placed below older = record {
  versioned = λ n p. subst (λ d. VersionFollows since (sub d (n ∷ p) x.entries) (sub d (n ∷ p) (content top)) (link_version_at (n ∷ p) (Some x)) (link_version_at (n ∷ p) top)) (sym placed) (below n p);
  older = older;
}

older_version : (s : SnapshotValue) (top : Option LinkValue) (since n : ℕ) (p : Path) → IsSnapshot s → IsTopOf s top → s.version < since → ¬ (link_version_at (n ∷ p) top ≡ Some since)
older_version s top since n p sound at lt e = let low = sound.newest (n ∷ p) since (sym (version_top s top n p at) ∙ e) in omega arith

-- the top of the later snapshot stands in the place of the old one
pub stale_later : (old new : SnapshotValue) (was top : Option LinkValue) → IsSnapshot old → IsTopOf old was → IsTopOf new top → IsLaterSnapshot old new → IsStaleUnder new.version was top
stale_later old new was top sound at is later =
    stale_over new.version was top (top_placed old.version was at.top)
    (λ n p. moved new.version _ _ _ _ _ _ _ _
    (follows new.version (entries old.map) (entries new.map) n p (snapshot_version_at (n ∷ p) old) (snapshot_version_at (n ∷ p) new) (later.versions (n ∷ p)))
    (ap (sub 0 (n ∷ p)) (sym at.same)) (ap (sub 0 (n ∷ p)) (sym is.same)) (version_top old was n p at) (version_top new top n p is))
    (λ n p. older_version old was new.version n p sound at (let next = later.version in omega arith))

-- nothing stands in the place of the top
pub stale_all : (s : SnapshotValue) (was : Option LinkValue) (since : ℕ) → IsSnapshot s → IsTopOf s was → s.version < since → IsStaleUnder since was None
stale_all s was since sound at lt =
    stale_over since was None (top_placed s.version was at.top)
    (λ n p. let none = sub-none 0 (n ∷ p) in record { kept = λ some same. absurd (some none); fresh = λ some differ. absurd (some none) })
    (λ n p. older_version s was since n p sound at lt)

-- ---- the nodes of a snapshot
gone_at : (since head : ℕ) (top : Option LinkValue) (es : Part) (p : Path) → content top ≡ es → IsAtDepth 0 top → gone_node_under since head top p ≡ gone_node_in (snapshot_of head top) since (p, sub 0 p es)
unfolding plain_node
gone_at since head None es p is placed =
    let name = name_of_path (version_in (snapshot_of head None) p) p in
    let nothing : sub 0 p es ≡ [] = ap (sub 0 p) (sym is) ∙ sub-none 0 p in
    ap (λ part. (name, plain_node true (λ i. version_in (snapshot_of head None) (p ++ i ∷ [])) (length p) part, since)) (sym nothing)
gone_at since head (Some y) es p is placed =
    let name = name_of_path (version_in (snapshot_of head (Some y)) p) p in
    let depth : y.depth + length p ≡ length p = omega (arith, placed) in
    let part : sub y.depth p y.entries ≡ sub 0 p es = ap (λ d. sub d p y.entries) placed ∙ ap (sub 0 p) is in
    ap₂ (λ d s. (name, plain_node true (λ i. version_in (snapshot_of head (Some y)) (p ++ i ∷ [])) d s, since)) depth part

gone_each : (since head : ℕ) (old : Part) (s : SnapshotValue) (was : Option LinkValue) → head ≡ s.version → IsTopOf s was
    → with_root old (content was) (gone_node_under since head was) ≡ with_root old (entries s.map) (λ p. gone_node_in s since (p, sub 0 p (entries s.map)))
gone_each since head old s was own at =
    let same : gone_node_under since head was ≡ (λ (p : Path). gone_node_in s since (p, sub 0 p (entries s.map))) =
    λ i p. (gone_at since head was (entries s.map) p (sym at.same) (top_placed s.version was at.top) ∙ ap (λ t. gone_node_in t since (p, sub 0 p (entries s.map))) (ap (λ v. snapshot_of v was) own ∙ sym at.value)) i in
    ap₂ (with_root old) (sym at.same) same

-- what is listed from the top down are the nodes that the landing made stale
pub gone_landed : (since head : ℕ) (old new : SnapshotValue) (was top : Option LinkValue) (out now : List (NodeName × PlainNode × ℕ)) → head ≡ old.version → since ≡ new.version → IsTopOf old was → IsTopOf new top
    → now ≡ out ++ with_root (content top) (content was) (gone_node_under since head was) → now ≡ out ++ gone_nodes old.map new.map old new.version
gone_landed since head old new was top out now own own' at is made =
    made ∙ ap (λ l. out ++ l)
    (gone_each since head (content top) old was own at ∙ ap (λ es. with_root es (entries old.map) (λ p. gone_node_in old since (p, sub 0 p (entries old.map)))) (sym is.same)
    ∙ with_root-fresh_parts new.map old.map (λ p part. gone_node_in old since (p, part)) ∙ ap (gone_nodes old.map new.map old) own')

each_part : (s : SnapshotValue) (since : ℕ) (xs : List (Path × Part)) → AllByRecursion (IsListed 0 (entries s.map)) xs → map (λ (x : Path × Part). gone_node_in s since (x.0, sub 0 x.0 (entries s.map))) xs ≡ map (gone_node_in s since) xs
each_part s since [] h = refl
each_part s since (x ∷ xs) h = ap₂ (λ y ys. y ∷ ys) (ap (λ part. gone_node_in s since (x.0, part)) (sub-under 0 x.0 (entries s.map) h.0.1 ∙ sym h.0.0)) (each_part s since xs h.1)

nodes_listed : (m : Map) → AllByRecursion (IsListed 0 (entries m)) (nodes m)
unfolding nodes
nodes_listed m = nodes_below-IsListed 64 0 (entries m)

-- what is listed from the top down over nothing are all nodes
pub gone_all : (since head : ℕ) (s : SnapshotValue) (was : Option LinkValue) (out now : List (NodeName × PlainNode × ℕ)) → head ≡ s.version → IsTopOf s was
    → now ≡ out ++ with_root [] (content was) (gone_node_under since head was) → now ≡ out ++ map (gone_node_in s since) (nodes s.map)
gone_all since head s was out now own at made =
    made ∙ ap (λ l. out ++ l)
    (gone_each since head [] s was own at ∙ with_root-nodes s.map (λ p. gone_node_in s since (p, sub 0 p (entries s.map))) ∙ each_part s since (nodes s.map) (nodes_listed s.map))
