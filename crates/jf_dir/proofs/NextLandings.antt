-- The next snapshot after changes of the head's, with what is written and made stale, is the landing of the map after them.
use Rattle.std.specs.Prelude.{IsTrue}
use Rattle.std.proofs.Common.{◌≡◌, ℕ, ◌+◌, ◌<◌, List, [], ◌∷◌, ◌++◌, map, length, refl, sym, ap, ap₂, ◌∙◌, subst, true, false, cond, Bool, Option, Some}
use Rattle.std.specs.FinMap.{entries}
use Rattle.std.specs.List.Sorted.{IsPermutation}
use Rattle.jf_path.specs.declared.name.NodeName.{NodeName}
use Rattle.jf_path.specs.declared.node.PlainNode.{PlainNode}
use Rattle.jf_path.specs.Names.{are_rising}
use Rattle.jf_hash.specs.Maps.{Map, IsMap, Batch, apply}
use Rattle.jf_hash.specs.Slots.{Part}
use Rattle.jf_hash.specs.Roots.{root}
use Rattle.jf_model.specs.Nodes.{Path, is_node, is_fresh, fresh, stale, plain_node}
use Rattle.jf_codec.specs.declared.format.Format.TheVariants as format
use Rattle.jf_node.specs.SnapshotValue.{SnapshotValue}
use Rattle.jf_node.specs.Snapshots.{snapshot_version_at}
use Rattle.jf_node.specs.declared.update.Update.{Update}
use Rattle.jf_diff.specs.Landings.{IsNextSnapshot, version_in, version_or, written_nodes, stale_names_in}
use Rattle.jf_standing.specs.Named.{not_stale, version_at}
use Rattle.jf_standing.specs.Standing.{Standing}
use Rattle.jf_standing.specs.Landing.{head_map, landing_of, version_after}
use Rattle.jf_standing.proofs.Freshness.{stale-node}
use Rattle.jf_standing.proofs.Rising.{landing-read}
use Rattle.jf_standing.proofs.Updates.{fresh-update, stale-update}
use Rattle.jf_dir.specs.Directories.{IsSnapshotAt, IsLandingUpdate}

or_cond : (b : Bool) (v : ℕ) (o : Option ℕ) → version_or (cond b (Some v) o) ≡ cond b v (version_or o)
or_cond true v o = refl
or_cond false v o = refl

module _ (s : Standing) (old new : SnapshotValue) (b : Batch) (at : IsSnapshotAt s s.head old) (next : IsNextSnapshot old b new) (last : s.head + 1 < not_stale) where
  abbrev after : Map
  after = apply (head_map s) b

  new_map : new.map ≡ after
  new_map = next.map ∙ ap (λ m. apply m b) at.map

  new_version : new.version ≡ s.head + 1
  new_version = next.version ∙ ap (λ v. v + 1) at.version

  was : (p : Path) → is_node 0 p (entries (head_map s)) ≡ true → version_in old p ≡ version_at s.head s.nodes p
  was p node = at.versions p node

  is : (p : Path) → is_node 0 p (entries after) ≡ true → version_in new p ≡ cond (is_fresh (entries (head_map s)) (entries after) p) (s.head + 1) (version_in old p)
  is p node =
      ap version_or (next.versions p (ap (λ m. is_node 0 p (entries (apply m b))) at.map ∙ node))
      ∙ or_cond (is_fresh (entries old.map) (entries (apply old.map b)) p) (old.version + 1) (snapshot_version_at p old)
      ∙ ap₂ (λ m v. cond (is_fresh (entries m) (entries (apply m b)) p) (v + 1) (version_in old p)) at.map at.version

  versions_are : (p : Path) → is_node 0 p (entries after) ≡ true → version_in new p ≡ version_after s after p
  versions_are p node = is p node ∙ (elim (is_fresh (entries (head_map s)) (entries after) p) as (λ t. is_fresh (entries (head_map s)) (entries after) p ≡ t → cond t (s.head + 1) (version_in old p) ≡ cond t (s.head + 1) (version_at s.head s.nodes p)) [
    | true ↦ λ fresh_. refl
    | false ↦ λ stays. was p (stale-node (entries (head_map s)) (entries after) p node stays).0
  ] refl)

  fresh_are : written_nodes old.map new.map new ≡ (landing_of format.Two s after).fresh
  fresh_are =
      (λ i. map (λ (x : Path × Part). (record { version = new_version i; path = x.0 }, plain_node true (λ j. version_in new (x.0 ++ j ∷ [])) (length x.0) x.1)) (fresh (at.map i) (new_map i)))
      ∙ fresh-update format.Two s after (version_in old) (version_in new) was is

  stale_are : (names : List NodeName) → IsPermutation (stale_names_in old.map new.map old) names → IsTrue (are_rising names) → names ≡ (landing_of format.Two s after).stale
  stale_are names moved rises =
      stale-update format.Two s after (version_in old) names was
      (subst (λ (xs : List NodeName). IsPermutation xs names) (ap₂ (λ k m. map (λ (x : Path × Part). record { version = version_in old x.0; path = x.0 }) (stale k m)) at.map new_map) moved)
      rises

  pub next-landing : (r : List ℕ) (fs : List (NodeName × PlainNode)) (names : List NodeName) → r ≡ root new.map → fs ≡ written_nodes old.map new.map new → IsPermutation (stale_names_in old.map new.map old) names → IsTrue (are_rising names)
      → IsLandingUpdate s after (record { root = r; fresh = fs; stale = names; snapshot = new })
  next-landing r fs names rooted written moved rises = record {
    last = last;
    map = new_map;
    version = new_version;
    root = rooted ∙ ap root new_map;
    fresh = written ∙ fresh_are;
    stale = stale_are names moved rises;
    versions = versions_are;
  }

  pub next-own : (r : List ℕ) (fs : List (NodeName × PlainNode)) (names : List NodeName) → r ≡ root new.map → fs ≡ written_nodes old.map new.map new → IsPermutation (stale_names_in old.map new.map old) names → IsTrue (are_rising names)
      → IsLandingUpdate s new.map (record { root = r; fresh = fs; stale = names; snapshot = new })
  next-own r fs names rooted written moved rises = subst (λ m. IsLandingUpdate s m (record { root = r; fresh = fs; stale = names; snapshot = new })) (sym new_map) (next-landing r fs names rooted written moved rises)

-- the names of the nodes that a landing writes rise
pub own-rises : (s : Standing) (u : Update) → IsMap u.snapshot.map → IsLandingUpdate s u.snapshot.map u → IsTrue (are_rising (map (λ x. x.0) u.fresh))
own-rises s u own made = subst (λ (fs : List (NodeName × PlainNode)). IsTrue (are_rising (map (λ x. x.0) fs))) (sym made.fresh) (landing-read format.Two s u.snapshot.map own).0.fresh
