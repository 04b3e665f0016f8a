-- The directory of a floor: it is the floor of the checkpoint if its nodes are those listed, and it is that of a sound one.
use Rattle.std.specs.Prelude.{IsTrue}
use Rattle.std.proofs.Common.{◌≡◌, ℕ, ◌+◌, ◌<◌, ◌≤◌, ◌^◌, true, false, cond, ◌&&◌, nat_le, List, [], ◌∷◌, map, filter, length, reverse, Contains, refl, sym, ap, ap₂, ◌∙◌, subst, arith, Option, Some, None, true≢false}
use Rattle.std.specs.FinMap.{entries, len}
use Rattle.std.specs.List.{AllByRecursion}
use Rattle.jf_path.specs.Names.{are_rising, name_cmp}
use Rattle.jf_path.specs.NameLaws.{name_cmp_total}
use Rattle.jf_path.proofs.ListLaws.{Contains-map}
use Rattle.jf_hash.specs.Roots.{root}
use Rattle.jf_model.specs.Nodes.{Path, is_node}
use Rattle.jf_codec.specs.declared.format.Format.{Format}
use Rattle.jf_codec.specs.declared.format.Format.TheVariants as format
use Rattle.jf_standing.specs.Named.{NamedNode, not_stale, map_at, version_at}
use Rattle.jf_standing.specs.Standing.{Standing}
use Rattle.jf_standing.specs.Sound.{IsSound}
use Rattle.jf_standing.specs.Building.{floor_standing, nodes_by_name, apart, as_named}
use Rattle.jf_standing.specs.FormatLaws.{standing_in}
use Rattle.jf_standing.specs.Next.{IsReadStanding}
use Rattle.jf_codec.specs.Counted.{in_format}
use Rattle.jf_path.proofs.BoolLaws.{left_true, right_true}
use Rattle.std.proofs.lemmas.Bool.Decides.{nat_tests}
use Rattle.std.proofs.lemmas.List.{length-reverse}
use Rattle.std.specs.Cmp.Lexicographic.{pointwise}
use Rattle.std.specs.List.Sorted.{IsPermutation}
use Rattle.jf_standing.proofs.Floor.{floor-sound, map-floor, version-floor}
use Rattle.jf_standing.proofs.Formats.{sound_kept, map_kept, version_kept}
use Rattle.jf_standing.proofs.ByName.{nodes-moved}
use Rattle.jf_standing.proofs.Reordered.{map-moved, version-moved}
use Rattle.jf_standing.proofs.OneStanding.{same-standing}
use Rattle.jf_standing.proofs.Names.{are_rising-sorted, same_name-exact}
use Rattle.jf_standing.proofs.Ordered.{same_sorted}
use Rattle.jf_standing.proofs.Lists.{map-which}
use Rattle.jf_standing.proofs.Same.{name-exact, node-exact}
use Rattle.jf_standing.specs.Same.{same_name}
use Rattle.jf_standing.proofs.Checkpoints.{apart_names}
use Rattle.jf_node.specs.SnapshotValue.{SnapshotValue}
use Rattle.jf_node.specs.Snapshots.{IsSnapshot, snapshot_version_at}
use Rattle.jf_diff.specs.Landings.{version_in, version_or}
use Rattle.jf_dir.specs.Directories.{snapshot_standing}
use Rattle.jf_standing.proofs.Rising.{rising-filter}
use Rattle.jf_replay.specs.Cuts.{standing_by, nodes_by, named_by, is_written_by}
use Rattle.jf_replay.specs.Floors.{listed_in, same_listed}
use Rattle.jf_replay.proofs.CutSound.{sound-by, map-nodes_by, version-nodes_by}

-- nodes whose names rise are equal if they are the same nodes
pub same_rising : (xs ys : List NamedNode) → IsTrue (are_rising (map (λ n. n.0) xs)) → IsTrue (are_rising (map (λ n. n.0) ys)) → ((n : NamedNode) → Contains xs n → Contains ys n) → ((n : NamedNode) → Contains ys n → Contains xs n) → xs ≡ ys
same_rising xs ys rises rises' there here =
    sym (back xs)
    ∙ ap (map as_named) (same_sorted name_cmp name_cmp_total same_name-exact (map apart xs) (map apart ys)
    (are_rising-sorted (map apart xs) (subst (λ ns. IsTrue (are_rising ns)) (sym (apart_names xs)) rises)) (are_rising-sorted (map apart ys) (subst (λ ns. IsTrue (are_rising ns)) (sym (apart_names ys)) rises'))
    (λ e has. let n = map-which apart xs e has in subst (Contains (map apart ys)) n.2 (Contains-map apart ys n.0 (there n.0 n.1)))
    (λ e has. let n = map-which apart ys e has in subst (Contains (map apart xs)) n.2 (Contains-map apart xs n.0 (here n.0 n.1))))
    ∙ back ys
  where
    back : (ns : List NamedNode) → map as_named (map apart ns) ≡ ns
    back [] = refl
    back (n ∷ ns) = ap (λ t. n ∷ t) (back ns)

names_by : (w : ℕ) (ns : List NamedNode) → map (λ (n : NamedNode). n.0) (map (named_by w) ns) ≡ map (λ n. n.0) ns
names_by w [] = refl
names_by w (n ∷ ns) = ap (λ t. n.0 ∷ t) (names_by w ns)

names_in : (fmt : Format) (ns : List NamedNode) → map (λ (n : NamedNode). n.0) (map (listed_in fmt) ns) ≡ map (λ n. n.0) ns
names_in fmt [] = refl
names_in fmt (n ∷ ns) = ap (λ t. n.0 ∷ t) (names_in fmt ns)

-- ---- a directory with the floor's map and versions has the nodes of a sound checkpoint
module _ (fmt : Format) (s : Standing) (read : IsReadStanding s) (sound : IsSound fmt s) (d : Standing) (d_read : IsReadStanding d) (d_sound : IsSound format.Two d) (floor_is : d.floor ≡ s.floor) (head_is : d.head ≡ s.floor)
    (same_map : map_at s.floor d.nodes ≡ map_at s.floor s.nodes) (same_versions : (p : Path) → is_node 0 p (entries (map_at s.floor s.nodes)) ≡ true → version_at s.floor d.nodes p ≡ version_at s.floor s.nodes p) where
  end : s.floor < not_stale
  end = let low = sound.floor_low in let last = sound.head_last in omega arith

  by_map : map_at s.floor (nodes_by s.floor s.nodes) ≡ map_at s.floor s.nodes
  by_map = map-nodes_by s.floor s.nodes end s.floor (omega arith)

  both_map : map_at s.floor (map (listed_in fmt) d.nodes) ≡ map_at s.floor (nodes_by s.floor s.nodes)
  both_map = map_kept fmt s.floor d.nodes ∙ same_map ∙ sym by_map

  both_versions : (p : Path) → is_node 0 p (entries (map_at s.floor s.nodes)) ≡ true → version_at s.floor (map (listed_in fmt) d.nodes) p ≡ version_at s.floor (nodes_by s.floor s.nodes) p
  both_versions p node = version_kept fmt s.floor d.nodes p ∙ same_versions p node ∙ sym (version-nodes_by s.floor s.nodes end s.floor (omega arith) p)

  here_sound : IsSound fmt (standing_by s.floor s)
  here_sound = sound-by fmt s sound s.floor (omega arith) sound.floor_low

  there_sound : IsSound fmt (standing_in fmt d)
  there_sound = sound_kept fmt d d_sound

  pub floor-nodes : map (listed_in fmt) d.nodes ≡ nodes_by s.floor s.nodes
  floor-nodes = same_rising (map (listed_in fmt) d.nodes) (nodes_by s.floor s.nodes)
      (subst (λ xs. IsTrue (are_rising xs)) (sym (names_in fmt d.nodes)) d_read.rises)
      (subst (λ xs. IsTrue (are_rising xs)) (sym (names_by s.floor (filter (is_written_by s.floor) s.nodes))) (rising-filter (is_written_by s.floor) s.nodes read.rises))
      (same-standing fmt (standing_in fmt d) (standing_by s.floor s) there_sound here_sound (sym floor_is) (sym head_is)
      (λ w low high. subst (λ v. map_at v (nodes_by s.floor s.nodes) ≡ map_at v (map (listed_in fmt) d.nodes)) (let e : s.floor ≡ w = omega (arith, floor_is, head_is) in e) (sym both_map))
      (λ p node. subst (λ v. version_at v (nodes_by s.floor s.nodes) p ≡ version_at v (map (listed_in fmt) d.nodes) p) (sym floor_is) (sym (both_versions p (sym (ap (λ mm. is_node 0 p (entries mm)) (both_map ∙ by_map)) ∙ subst (λ v. is_node 0 p (entries (map_at v (map (listed_in fmt) d.nodes))) ≡ true) floor_is node)))))
      (same-standing fmt (standing_by s.floor s) (standing_in fmt d) here_sound there_sound floor_is head_is
      (λ w low high. subst (λ v. map_at v (map (listed_in fmt) d.nodes) ≡ map_at v (nodes_by s.floor s.nodes)) (let e : s.floor ≡ w = omega arith in e) both_map)
      (λ p node. both_versions p (sym (ap (λ mm. is_node 0 p (entries mm)) by_map) ∙ node)))

-- ---- the directory of a snapshot
module _ (base : ℕ) (earlier : List (List ℕ)) (x : SnapshotValue) (snapshot : IsSnapshot x) (long : base + length earlier ≡ x.version) (last : x.version < not_stale) (room : len x.map ≤ 2 ^ 63) where
  abbrev roots : List (List ℕ)
  roots = root x.map ∷ reverse earlier

  abbrev plain : Standing
  plain = floor_standing format.Two base x.version roots x.map (version_in x)

  low_versions : (p : Path) → is_node 0 p (entries x.map) ≡ true → version_in x p ≤ x.version
  low_versions p node = at (snapshot_version_at p x) refl
    where
      at : (o : Option ℕ) → snapshot_version_at p x ≡ o → version_or o ≤ x.version
      at None is = omega arith
      at (Some v) is = snapshot.newest p v is

  plain_sound : IsSound format.Two plain
  plain_sound = floor-sound format.Two base x.version roots x.map (version_in x) snapshot.map low_versions last (omega arith) (omega (arith, length-reverse earlier)) refl room (ap version_or snapshot.root)

  moved : IsPermutation plain.nodes (nodes_by_name plain.nodes)
  moved = nodes-moved format.Two plain plain_sound

  pub begun-map : map_at x.version (snapshot_standing base earlier x).nodes ≡ x.map
  begun-map = map-moved format.Two plain (nodes_by_name plain.nodes) plain_sound moved x.version (omega arith) (omega arith) ∙ map-floor format.Two base x.version roots x.map (version_in x) snapshot.map low_versions last

  pub begun-versions : (p : Path) → is_node 0 p (entries x.map) ≡ true → version_at x.version (snapshot_standing base earlier x).nodes p ≡ version_in x p
  begun-versions p node = version-moved format.Two plain (nodes_by_name plain.nodes) plain_sound moved x.version (omega arith) (omega arith) p ∙ version-floor format.Two base x.version roots x.map (version_in x) snapshot.map low_versions last p node

-- ---- comparison
pub same_listed-exact : (fmt : Format) (floor : ℕ) (own ds : List NamedNode) → AllByRecursion (λ n. floor < n.2) own → AllByRecursion (λ n. n.2 ≡ not_stale) ds → pointwise same_listed own (map (listed_in fmt) ds) ≡ true → map (listed_in fmt) ds ≡ map (named_by floor) own
same_listed-exact fmt floor [] [] late live is = refl
same_listed-exact fmt floor [] (k ∷ ds) late live is = absurd (true≢false (sym is))
same_listed-exact fmt floor (n ∷ own) [] late live is = absurd (true≢false (sym is))
same_listed-exact fmt floor (n ∷ own) (k ∷ ds) late live is =
    let here = left_true (same_listed n (listed_in fmt k)) _ is in
    let a = (name-exact n.0 k.0).0 (left_true (same_name n.0 k.0) _ here) in
    let b = (node-exact n.1 (in_format fmt k.1)).0 (right_true (same_name n.0 k.0) _ here) in
    ap₂ (λ y t. y ∷ t) (λ i. (sym a i, sym b i, since i)) (same_listed-exact fmt floor own ds late.1 live.1 (right_true (same_listed n (listed_in fmt k)) _ is))
  where
    since : k.2 ≡ cond (nat_le n.2 floor) n.2 not_stale
    since = live.0 ∙ ap (λ b. cond b n.2 not_stale) (sym (not_le n.2 late.0))
      where
        not_le : (v : ℕ) → floor < v → nat_le v floor ≡ false
        not_le v lt = grind (arith, nat_tests)

pub same_listed-refl : (w : ℕ) (own : List NamedNode) → pointwise same_listed own (map (named_by w) own) ≡ true
same_listed-refl w [] = refl
same_listed-refl w (n ∷ own) = ap₂ (λ a b. a && b) (ap₂ (λ a b. a && b) ((name-exact n.0 n.0).1 refl) ((node-exact n.1 n.1).1 refl)) (same_listed-refl w own)
