-- What is read off the nodes of a floor, if the checkpoint is sound: the map there, and the versions of its nodes.
use Rattle.std.proofs.Common.{◌≡◌, ℕ, ◌≤◌, Bool, true, false, cond, ◌&&◌, List, [], ◌∷◌, map, filter, take, Contains, Some, None, refl, sym, ap, ap₂, ◌∙◌, subst, arith, T, is_eq}
use Rattle.std.proofs.lemmas.List.{length-map}
use Rattle.std.specs.Cmp.{tied_itself}
use Rattle.std.specs.Cmp.Lexicographic.{nat_list_cmp_total}
use Rattle.std.specs.FinMap.{entries, find, is_sorted}
use Rattle.std.specs.FinMap.Entries.{below_all}
use Rattle.std.specs.FinMap as fin
use Rattle.std.specs.List.{AllByRecursion}
use Rattle.jf_path.specs.Keys.{key_cmp}
use Rattle.jf_path.proofs.BoolLaws.{and_true, left_so, right_so, both_so}
use Rattle.jf_path.proofs.FilterLaws.{filter-same}
use Rattle.jf_path.proofs.ListLaws.{All-of, Contains-map}
use Rattle.jf_path.proofs.NumberLaws.{lt_so}
use Rattle.jf_hash.specs.Maps.{Map, map_of_entries, same_key}
use Rattle.jf_hash.specs.Slots.{Part}
use Rattle.jf_hash.proofs.KeyOrder.{same_key-exact}
use Rattle.jf_hash.proofs.MapLaws.{map-from_entries}
use Rattle.jf_split.specs.KeyOrder.{in_key_order}
use Rattle.jf_split.proofs.KeyOrderLaws.{sorted-in_key_order, find-in_key_order}
use Rattle.jf_model.specs.Nodes.{Path, nodes, is_node, under}
use Rattle.jf_codec.specs.declared.format.Format.{Format}
use Rattle.jf_walk.proofs.FreshOrder.{sorted-nodes_below}
use Rattle.jf_walk.proofs.NodeLists.{nodes_below-suc}
use Rattle.jf_walk.proofs.NodePaths.{IsPath-is_node}
use Rattle.jf_walk.proofs.NodesListed.{nodes-exact}
use Rattle.jf_standing.specs.Named.{NamedNode, is_alive, is_at, alive_nodes_at, map_at, version_at, leaf_entries}
use Rattle.jf_standing.specs.Standing.{Standing}
use Rattle.jf_standing.specs.Sound.{IsSound}
use Rattle.jf_standing.specs.Next.{IsReadStanding}
use Rattle.jf_standing.proofs.Alive.{version-of}
use Rattle.jf_standing.proofs.Checkpoints.{version-at_most}
use Rattle.jf_standing.proofs.Counts.{count-some}
use Rattle.jf_standing.proofs.Found.{test_so}
use Rattle.jf_standing.proofs.Leaves.{IsMap-map_at}
use Rattle.jf_standing.proofs.Lists.{All-each_element, map-which, Contains-cases, none_in_nothing}
use Rattle.jf_standing.proofs.Ordered.{find-Contains, Contains-find, same_sorted}
use Rattle.jf_standing.proofs.Stands.{stands}
use Rattle.jf_standing.proofs.Unique.{few-alive}
use Rattle.jf_standing.proofs.Unmoved.{alive-there, at-so}
use Rattle.jf_node.specs.SnapshotValue.{SnapshotValue}
use Rattle.jf_diff.specs.Landings.{version_in, version_or}
use Rattle.jf_update.specs.Restored.{AreNodeVersions, IsRestored, by_path}
use Rattle.jf_replay.specs.Cuts.{is_written_by}
use Rattle.jf_replay.specs.Floors.{path_and_version, entries_in, versions_by_path, AreFloorVersions}
use Rattle.jf_replay.proofs.KeyOrder.{entries-in_key_order}
use Rattle.jf_replay.proofs.Numbered.{IsNumbered}

-- the nodes written by the floor are those alive there, if none is stale by then
pub alive-floor : (floor head : ℕ) (ns : List NamedNode) → AllByRecursion (IsNumbered floor head) ns → filter (is_written_by floor) ns ≡ alive_nodes_at floor ns
alive-floor floor head ns numbered = filter-same (is_written_by floor) (is_alive floor) ns (All-each_element _ ns (λ n has. sym (ap (λ b. is_written_by floor n && b) (lt_so floor n.2 (All-of _ ns n numbered has).kept) ∙ and_true (is_written_by floor n))))

module _ (floor head : ℕ) (ns own : List NamedNode) (is : own ≡ alive_nodes_at floor ns) where
  -- the entries read off the leaves are those of the map at the floor
  pub entries-floor : entries_in own ≡ entries (map_at floor ns)
  unfolding map_at
  entries-floor = ap entries_in is ∙ sym (entries-in_key_order (leaf_entries (alive_nodes_at floor ns)))

  pub map-read : map_of_entries (entries_in own) ≡ map_at floor ns
  map-read = map-from_entries (map_of_entries (entries_in own)) (map_at floor ns) (fin.entries-from_sorted key_cmp (entries_in own) (sorted-in_key_order (leaf_entries own)) ∙ entries-floor)

some_found : {X : Type 0} (es : List (List ℕ × X)) (e : List ℕ × X) → Contains es e → find key_cmp e.0 es ≡ None → ⊥
some_found [] e has none = none_in_nothing e has
some_found (f ∷ es) e has none = Contains-cases e f es has
    (λ same. absurd (
    let tied : same_key e.0 f.0 ≡ true = ap (λ g. same_key g.0 f.0) (sym same) ∙ ap is_eq (tied_itself nat_list_cmp_total f.0) in
    let some : Some f.1 ≡ None = ap (λ b. cond b (Some f.1) (find key_cmp e.0 es)) (sym tied) ∙ none in cc))
    (λ later. some_found es e later (rest (same_key e.0 f.0) none))
  where
    rest : (b : Bool) → cond b (Some f.1) (find key_cmp e.0 es) ≡ None → find key_cmp e.0 es ≡ None
    rest true is = absurd (cc)
    rest false is = is

-- a path beside the version at it
abbrev beside : (Path → ℕ) → Path × Part → Path × ℕ
beside version x = (x.0, version x.0)

below_beside : (version : Path → ℕ) (p : Path) (xs : List (Path × Part)) → T (below_all key_cmp p xs) → T (below_all key_cmp p (map (beside version) xs))
below_beside version p [] h = tt
below_beside version p (x ∷ xs) h = both_so _ _ (left_so _ _ h) (below_beside version p xs (right_so _ _ h))

sorted_beside : (version : Path → ℕ) (xs : List (Path × Part)) → T (is_sorted key_cmp xs) → T (is_sorted key_cmp (map (beside version) xs))
sorted_beside version [] h = tt
sorted_beside version (x ∷ xs) h = both_so _ _ (below_beside version x.0 xs (left_so _ _ h)) (sorted_beside version xs (right_so _ _ h))

module _ (fmt : Format) (s : Standing) (read : IsReadStanding s) (sound : IsSound fmt s) where
  abbrev m : Map
  m = map_at s.floor s.nodes

  abbrev alive : List NamedNode
  alive = alive_nodes_at s.floor s.nodes

  abbrev version : Path → ℕ
  version p = version_at s.floor s.nodes p

  -- a node of the floor stands at a node of its map, with the version there
  of_alive : (n : NamedNode) → Contains alive n → (is_node 0 n.0.path (entries m) ≡ true) × (version n.0.path ≡ n.0.version)
  of_alive n has = (
    test_so _ _ (stands fmt s sound s.floor (omega arith) sound.floor_low n.0.path) (count-some (is_at n.0.path) alive n has (at-so n.0.path n refl)),
    version-of s.floor s.nodes n.0.path n (few-alive fmt s sound s.floor (omega arith) sound.floor_low n.0.path) has refl,
  )

  listed_there : (e : Path × ℕ) → Contains (in_key_order (map path_and_version alive)) e → Contains (map (beside version) (nodes m)) e
  listed_there e has =
      let found = sym (find-in_key_order e.0 (map path_and_version alive)) ∙ Contains-find key_cmp nat_list_cmp_total same_key-exact (in_key_order (map path_and_version alive)) e (sorted-in_key_order (map path_and_version alive)) has in
      let n = map-which path_and_version alive e (find-Contains key_cmp nat_list_cmp_total same_key-exact e.0 e.1 (map path_and_version alive) found) in
      let is = of_alive n.0 n.1 in
      let p = n.0.0.path in
      let x : Path × Part = (p, under 0 p (entries m)) in
      let there = (nodes-exact m x).1 (IsPath-is_node m p (IsMap-map_at s.floor s.nodes read.keys) is.0, refl, is.0) in
      subst (λ z. Contains (map (beside version) (nodes m)) z) (ap (λ v. (p, v)) is.1 ∙ n.2) (Contains-map (beside version) (nodes m) x there)

  there_listed : (e : Path × ℕ) → Contains (map (beside version) (nodes m)) e → Contains (in_key_order (map path_and_version alive)) e
  there_listed e has =
      let x = map-which (beside version) (nodes m) e has in
      let n = alive-there fmt s sound s.floor (omega arith) sound.floor_low x.0.0 ((nodes-exact m x.0).0 x.1).2 in
      let q : n.0.0.path ≡ e.0 = n.2 ∙ ap (λ (z : Path × ℕ). z.0) x.2 in
      let v : n.0.0.version ≡ e.1 = sym (of_alive n.0 n.1).1 ∙ ap version n.2 ∙ ap (λ (z : Path × ℕ). z.1) x.2 in
      let listed : Contains (map path_and_version alive) e = subst (λ z. Contains (map path_and_version alive) z) (ap₂ (λ a b. (a, b)) q v) (Contains-map path_and_version alive n.0 n.1) in
      elim (find key_cmp e.0 (map path_and_version alive)) as (λ r. find key_cmp e.0 (map path_and_version alive) ≡ r → Contains (in_key_order (map path_and_version alive)) e) [
        | None ↦ λ none. absurd (some_found (map path_and_version alive) e listed none)
        | Some w ↦ λ is.
            let k = map-which path_and_version alive (e.0, w) (find-Contains key_cmp nat_list_cmp_total same_key-exact e.0 w (map path_and_version alive) is) in
            let same : w ≡ e.1 = sym (ap (λ (z : Path × ℕ). z.1) k.2) ∙ sym (of_alive k.0 k.1).1 ∙ ap version (ap (λ (z : Path × ℕ). z.0) k.2 ∙ sym q) ∙ (of_alive n.0 n.1).1 ∙ v in
            find-Contains key_cmp nat_list_cmp_total same_key-exact e.0 e.1 (in_key_order (map path_and_version alive)) (find-in_key_order e.0 (map path_and_version alive) ∙ is ∙ ap (λ z. Some z) same)
      ] refl

  -- the versions read off the nodes are those of the nodes of the map, in the order of their paths
  pub versions-floor : in_key_order (map path_and_version alive) ≡ map (beside version) (nodes m)
  unfolding nodes
  versions-floor =
      same_sorted key_cmp nat_list_cmp_total same_key-exact (in_key_order (map path_and_version alive)) (map (beside version) (nodes m)) (sorted-in_key_order (map path_and_version alive)) (sorted_beside version (nodes m) (sorted-nodes_below 64 0 (entries m))) listed_there there_listed

  -- so they may be those of its nodes
  versions_read : map (λ (e : Path × ℕ). e.1) (in_key_order (map path_and_version alive)) ≡ map (λ x. version x.0) (nodes m)
  versions_read = ap (map (λ (e : Path × ℕ). e.1)) versions-floor ∙ seconds (nodes m)
    where
      seconds : (xs : List (Path × Part)) → map (λ (e : Path × ℕ). e.1) (map (beside version) xs) ≡ map (λ x. version x.0) xs
      seconds [] = refl
      seconds (x ∷ xs) = ap (λ t. version x.0 ∷ t) (seconds xs)

  top_first : take 1 (map (λ x. version x.0) (nodes m)) ≡ s.floor ∷ []
  unfolding nodes
  top_first = ap (λ xs. take 1 (map (λ (x : Path × Part). version x.0) xs)) (nodes_below-suc 63 0 (entries m)) ∙ ap (λ v. v ∷ []) sound.floor_root

  module _ (own : List NamedNode) (is : own ≡ alive) where
    own_versions : versions_by_path own ≡ map (λ x. version x.0) (nodes m)
    own_versions = ap versions_by_path is ∙ versions_read

    pub floor-versions : AreFloorVersions s.floor own
    floor-versions = subst (λ mm. AreNodeVersions s.floor (nodes mm) (versions_by_path own)) (sym (map-read s.floor s.head s.nodes own is))
        (subst (AreNodeVersions s.floor (nodes m)) (sym own_versions) (record {
          each = length-map (nodes m) (λ x. version x.0);
          root = record {
            first = top_first;
            newest = All-each_element _ (map (λ (x : Path × Part). version x.0) (nodes m)) (λ v has.
                let x = map-which (λ (x : Path × Part). version x.0) (nodes m) v has in
                subst (λ k. k ≤ s.floor) x.2 (version-at_most s.floor s.nodes x.0.0));
          };
        }))

    -- the snapshot that is restored has the map at the floor, and the versions of its nodes
    module _ (x : SnapshotValue) (restored : IsRestored s.floor (entries_in own) (versions_by_path own) x) where
      pub restored-map : x.map ≡ m
      restored-map = map-from_entries x.map m (restored.same ∙ entries-floor s.floor s.head s.nodes own is)

      zip_beside : (xs : List (Path × Part)) → by_path xs (map (λ x. version x.0) xs) ≡ map (beside version) xs
      zip_beside [] = refl
      zip_beside (y ∷ ys) = ap (λ t. (y.0, version y.0) ∷ t) (zip_beside ys)

      all_versions : x.versions ≡ map (beside version) (nodes m)
      all_versions = restored.versions ∙ ap₂ by_path (ap nodes restored-map) own_versions ∙ zip_beside (nodes m)

      pub restored-versions : (p : Path) → is_node 0 p (entries m) ≡ true → version_in x p ≡ version p
      unfolding nodes
      restored-versions p node =
          let y : Path × Part = (p, under 0 p (entries m)) in
          let there = (nodes-exact m y).1 (IsPath-is_node m p (IsMap-map_at s.floor s.nodes read.keys) node, refl, node) in
          ap version_or (ap (find key_cmp p) all_versions ∙ Contains-find key_cmp nat_list_cmp_total same_key-exact (map (beside version) (nodes m)) (p, version p) (sorted_beside version (nodes m) (sorted-nodes_below 64 0 (entries m))) (Contains-map (beside version) (nodes m) y there))
