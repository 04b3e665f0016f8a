-- What holds the standing of one snapshot.
use Rattle.std.proofs.Common.{◌≡◌, ℕ, ◌+◌, ◌-◌, ◌<◌, ◌≤◌, ◌^◌, List, [], ◌∷◌, ◌++◌, map, reverse, length, Contains, refl, sym, ap, ◌∙◌, subst, arith, true, Some, None}
use Rattle.std.proofs.lemmas.List.{reverse-append, length-reverse, length-map}
use Rattle.std.proofs.lemmas.List.Sorted.{Contains-permutation, IsPermutation-sym, length_permutation}
use Rattle.std.specs.FinMap.{entries, len}
use Rattle.std.specs.List.{AllByRecursion}
use Rattle.std.specs.List.Sorted.{IsPermutation}
use Rattle.jf_path.specs.Keys.{IsKey, IsBytes}
use Rattle.jf_path.proofs.ListLaws.{All-of, Contains-first}
use Rattle.jf_hash.specs.Roots.{root}
use Rattle.jf_model.specs.Nodes.{Path, is_node, nodes}
use Rattle.jf_codec.specs.declared.format.Format.TheVariants as format
use Rattle.jf_walk.proofs.NodesListed.{nodes-exact}
use Rattle.jf_node.specs.SnapshotValue.{SnapshotValue}
use Rattle.jf_node.specs.Snapshots.{snapshot_version_at, IsSnapshot}
use Rattle.jf_diff.specs.Landings.{version_in, version_or}
use Rattle.jf_standing.specs.Named.{NamedNode, not_stale, leaf_entry, leaf_entries, AreEntries, map_at, stale_nodes_at, version_at}
use Rattle.jf_standing.specs.Standing.{Standing}
use Rattle.jf_standing.specs.Sound.{IsSound}
use Rattle.jf_standing.specs.Building.{floor_standing, nodes_by_name, node_of, up_from}
use Rattle.jf_standing.specs.Next.{IsReadStanding}
use Rattle.jf_standing.proofs.ByName.{nodes-moved}
use Rattle.jf_standing.proofs.Floor.{floor-sound, map-floor, version-floor}
use Rattle.jf_standing.proofs.Leaves.{leaf-which}
use Rattle.jf_standing.proofs.LeafPaths.{leaf-plain, under-Contains}
use Rattle.jf_standing.proofs.Lists.{All-each_element, map-which}
use Rattle.jf_standing.proofs.Reordered.{moved-sound, map-moved, version-moved}
use Rattle.jf_standing.proofs.SpelledRecords.{nodes-are_rising}
use Rattle.jf_dir.specs.Directories.{snapshot_standing}
use Rattle.jf_dir.specs.Holding.{IsStandingHeld, stale_counts}

module _ (base : ℕ) (earlier : List (List ℕ)) (x : SnapshotValue) (snap : IsSnapshot x) (hashes : AllByRecursion IsKey (root x.map ∷ reverse earlier)) (numbered : base + length earlier ≡ x.version) (last : x.version < not_stale) (room : len x.map ≤ 2 ^ 63) where
  abbrev floor_made : Standing
  floor_made = floor_standing format.Two base x.version (root x.map ∷ reverse earlier) x.map (version_in x)

  low : (p : Path) → is_node 0 p (entries x.map) ≡ true → version_in x p ≤ x.version
  low p node = elim (snapshot_version_at p x) as (λ o. snapshot_version_at p x ≡ o → version_or o ≤ x.version) [
    | None ↦ λ is. omega arith
    | Some v ↦ λ is. snap.newest p v is
  ] refl

  each : length (root x.map ∷ reverse earlier) ≡ x.version - base + 1
  each = omega (arith, length-reverse earlier, numbered)

  made-sound : IsSound format.Two floor_made
  made-sound = floor-sound format.Two base x.version (root x.map ∷ reverse earlier) x.map (version_in x) snap.map low last (omega (arith, numbered)) each refl room (ap version_or snap.root)

  moved : IsPermutation floor_made.nodes (nodes_by_name floor_made.nodes)
  moved = nodes-moved format.Two floor_made made-sound

  pub begun-sound : IsSound format.Two (snapshot_standing base earlier x)
  begun-sound = moved-sound format.Two floor_made (nodes_by_name floor_made.nodes) made-sound moved

  map_is : map_at x.version (snapshot_standing base earlier x).nodes ≡ x.map
  map_is = map-moved format.Two floor_made (nodes_by_name floor_made.nodes) made-sound moved x.version (omega arith) (omega arith) ∙ map-floor format.Two base x.version (root x.map ∷ reverse earlier) x.map (version_in x) snap.map low last

  version_is : (p : Path) → is_node 0 p (entries x.map) ≡ true → version_at x.version (snapshot_standing base earlier x).nodes p ≡ version_in x p
  version_is p node = version-moved format.Two floor_made (nodes_by_name floor_made.nodes) made-sound moved x.version (omega arith) (omega arith) p ∙ version-floor format.Two base x.version (root x.map ∷ reverse earlier) x.map (version_in x) snap.map low last p node

  came : (n : NamedNode) → Contains (snapshot_standing base earlier x).nodes n → Contains floor_made.nodes n
  came n has = Contains-permutation (nodes_by_name floor_made.nodes) floor_made.nodes n (IsPermutation-sym floor_made.nodes (nodes_by_name floor_made.nodes) moved) has

  keys_are : AreEntries (leaf_entries (snapshot_standing base earlier x).nodes)
  keys_are = All-each_element _ (leaf_entries (snapshot_standing base earlier x).nodes) (λ e has.
      let n = leaf-which (snapshot_standing base earlier x).nodes e has in
      let y = map-which (node_of format.Two (version_in x)) (nodes x.map) n.0 (came n.0 n.1) in
      let is = (nodes-exact x.map y.0).0 y.1 in
      let leaf = ap (λ (z : NamedNode). leaf_entry z.1) y.2 ∙ n.2 in
      let alone = leaf-plain true _ (length y.0.0) y.0.1 e leaf in
      All-of (λ f. IsKey f.0 × IsBytes f.1) (entries x.map) e snap.map (under-Contains 0 y.0.0 (entries x.map) e (subst (λ es. Contains es e) (sym alone ∙ is.1) (Contains-first e []))))

  pub begun-read : IsReadStanding (snapshot_standing base earlier x)
  begun-read = record {
    base_low = omega (arith, numbered);
    floor_low = omega arith;
    head_last = last;
    root_each = each;
    hashes = hashes;
    keys = keys_are;
    rises = nodes-are_rising floor_made.nodes;
  }

  none-stale : [] ≡ stale_counts (snapshot_standing base earlier x)
  none-stale = sym (ap (λ n. map (λ w. length (stale_nodes_at w (snapshot_standing base earlier x).nodes)) (up_from (x.version + 1) n)) (let e : x.version - x.version ≡ 0 = omega arith in e))

  pub nodes-begun : length (snapshot_standing base earlier x).nodes ≡ length (nodes x.map)
  nodes-begun = length_permutation floor_made.nodes (nodes_by_name floor_made.nodes) moved ∙ length-map (nodes x.map) (node_of format.Two (version_in x))

  pub held-begun : (n : ℕ) → n ≡ length (nodes x.map) → IsStandingHeld (snapshot_standing base earlier x) base (earlier ++ root x.map ∷ []) (x ∷ []) [] n
  held-begun n is = record {
    read = begun-read;
    sound = begun-sound;
    base = refl;
    rooted = sym (reverse-append earlier (root x.map ∷ []));
    long = omega arith;
    snapshots = (record { version = refl; map = sym map_is; versions = λ p node. sym (version_is p (ap (λ m. is_node 0 p (entries m)) (sym map_is) ∙ node)) }, tt);
    short = (snap.short, tt);
    stale = none-stale;
    count = is ∙ sym nodes-begun;
  }
