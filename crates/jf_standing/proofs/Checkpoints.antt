-- A checkpoint's nodes are sound exactly if they equal what is built anew from the maps and versions read off them.
use Rattle.std.specs.Prelude.{slice_index_or, IsTrue}
use Rattle.std.proofs.Common.{ℕ, ◌-◌, ◌≤◌, List, [], ◌∷◌, map, Contains, arith, filter, ◌≡◌, ◌+◌, ◌<◌, ◌^◌, true, drop, refl, subst, zero, suc, length, sym, ap, ◌∙◌, ◌↔◌}
use Rattle.std.proofs.lemmas.List.{length-drop, reverse-reverse}
use Rattle.std.proofs.lemmas.List.Sorted.{Contains-permutation, IsPermutation-sym}
use Rattle.std.specs.FinMap.{entries, len}
use Rattle.std.specs.List.Sorted.{IsPermutation}
use Rattle.jf_path.specs.declared.name.NodeName.{NodeName}
use Rattle.jf_path.specs.declared.node.PlainNode.{PlainNode}
use Rattle.jf_path.specs.Names.{name_cmp, are_rising}
use Rattle.jf_path.specs.NameLaws.{name_cmp_total}
use Rattle.jf_path.proofs.ListLaws.{Contains-first, Contains-map}
use Rattle.jf_path.proofs.FilterLaws.{filter-Contains, filter-passes}
use Rattle.jf_hash.specs.Maps.{IsMap, Map}
use Rattle.jf_hash.specs.Roots.{root}
use Rattle.jf_model.specs.Nodes.{Path, is_node}
use Rattle.jf_codec.specs.declared.format.Format.{Format}
use Rattle.jf_standing.specs.Named.{NamedNode, is_alive, is_at, alive_nodes_at, version_at, not_stale, map_at}
use Rattle.jf_standing.specs.Standing.{Standing, with_nodes, versions_of}
use Rattle.jf_standing.specs.Next.{IsReadStanding}
use Rattle.jf_standing.specs.Building.{floor_of, rebuilt_standing, nodes_by_name, landed_on, built_standing, up_from, apart, as_named, checkpoint_of}
use Rattle.jf_standing.specs.Sound.{IsSound}
use Rattle.jf_standing.specs.Order.{by_name}
use Rattle.jf_standing.specs.Taking.{GivesStanding}
use Rattle.jf_standing.proofs.Sinces.{alive-tells}
use Rattle.jf_standing.proofs.Leaves.{IsMap-map_at}
use Rattle.jf_standing.proofs.Floor.{floor-sound, map-floor, version-floor}
use Rattle.jf_standing.proofs.Built.{IsBuilt, built-maps}
use Rattle.jf_standing.proofs.Reordered.{moved-sound, moved-versions}
use Rattle.jf_standing.proofs.ByName.{nodes-moved}
use Rattle.jf_standing.proofs.Lists.{map-which}
use Rattle.jf_standing.proofs.Ordered.{same_sorted}
use Rattle.jf_standing.proofs.Names.{same_name-exact, are_rising-sorted, sorted-by_name}
use Rattle.jf_standing.proofs.OneStanding.{same-standing}

-- ---- the version at a path: that of a node alive there, or 0
first_low : (ns : List NamedNode) (most : ℕ) → ((n : NamedNode) → Contains ns n → n.0.version ≤ most) → slice_index_or (map (λ n. n.0.version) ns) 0 0 ≤ most
first_low [] most low = omega arith
first_low (n ∷ ns) most low = low n (Contains-first n ns)

pub version-at_most : (w : ℕ) (ns : List NamedNode) (p : Path) → version_at w ns p ≤ w
version-at_most w ns p = first_low (filter (is_at p) (alive_nodes_at w ns)) w (λ n has. (alive-tells w n (filter-passes (is_alive w) ns n (filter-Contains (is_at p) (alive_nodes_at w ns) n has))).0)

-- ---- any list of nodes
module _ (fmt : Format) (s : Standing) (read : IsReadStanding s) (top : version_at s.floor s.nodes [] ≡ s.floor) (room : (w : ℕ) → s.floor ≤ w → w ≤ s.head → len (map_at w s.nodes) ≤ 2 ^ 63) where
  pub floor_built : IsBuilt fmt (λ w. map_at w s.nodes) (version_at s.floor s.nodes) s.base s.floor s.floor (floor_of fmt s)
  floor_built =
      let m = map_at s.floor s.nodes in
      let version = version_at s.floor s.nodes in
      let roots = root m ∷ drop (s.head - s.floor + 1) s.roots in
      let sound : IsMap m = IsMap-map_at s.floor s.nodes read.keys in
      let low : (p : Path) → is_node 0 p (entries m) ≡ true → version p ≤ s.floor = λ p node. version-at_most s.floor s.nodes p in
      let high = read.floor_low in
      let base = read.base_low in
      let each = read.root_each in
      let end = read.head_last in
      let last : s.floor < not_stale = omega arith in
      record {
        sound = floor-sound fmt s.base s.floor roots m version sound low last base (omega (arith, length-drop (s.head - s.floor + 1) s.roots)) refl (room s.floor (omega arith) high) top;
        base_is = refl;
        floor_is = refl;
        head_is = refl;
        maps_are = λ w up down. subst (λ v. map_at v (floor_of fmt s).nodes ≡ map_at v s.nodes) (let e : s.floor ≡ w = omega arith in e) (map-floor fmt s.base s.floor roots m version sound low last);
        versions_are = λ p node. version-floor fmt s.base s.floor roots m version sound low last p node;
      }

  -- the standing built anew has the maps that were read off
  pub rebuilt_standing-is : IsBuilt fmt (λ w. map_at w s.nodes) (version_at s.floor s.nodes) s.base s.floor s.head (rebuilt_standing fmt s)
  rebuilt_standing-is =
      let high = read.floor_low in
      let end = read.head_last in
      let all : s.floor + (s.head - s.floor) ≡ s.head = omega arith in
      subst (λ h. IsBuilt fmt (λ w. map_at w s.nodes) (version_at s.floor s.nodes) s.base s.floor h (rebuilt_standing fmt s)) all
      (built-maps fmt (λ w. map_at w s.nodes) (version_at s.floor s.nodes) s.base s.floor (λ w. IsMap-map_at w s.nodes read.keys) (s.head - s.floor) s.floor (floor_of fmt s) (omega arith) (omega arith) (λ w up down. room w (omega arith) (omega arith)) floor_built)

  -- if the standing built anew has the same roots and nodes, the standing is sound
  pub rebuilt_standing-sound : (rebuilt_standing fmt s).roots ≡ s.roots → nodes_by_name (rebuilt_standing fmt s).nodes ≡ s.nodes → IsSound fmt s
  rebuilt_standing-sound same_roots same_nodes =
      let t = rebuilt_standing fmt s in
      let is = rebuilt_standing-is in
      let b = is.base_is in
      let f = is.floor_is in
      let h = is.head_is in
      let sound = moved-sound fmt t (nodes_by_name t.nodes) is.sound (nodes-moved fmt t is.sound) in
      subst (IsSound fmt) (let e : with_nodes (nodes_by_name t.nodes) t ≡ s = λ i. record { base = b i; floor = f i; head = h i; roots = same_roots i; nodes = same_nodes i } in e) sound

-- ---- nodes of a sound standing
drop-step : (i : ℕ) (xs : List (List ℕ)) (x : List ℕ) → i < length xs → slice_index_or xs i [] ≡ x → x ∷ drop (i + 1) xs ≡ drop i xs
drop-step i [] x lt is = absurd (omega arith)
drop-step zero (y ∷ ys) x lt is = ap (λ z. z ∷ ys) (sym is)
drop-step (suc i) (y ∷ ys) x lt is = ap (λ k. x ∷ drop k (y ∷ ys)) (let e : suc i + 1 ≡ suc (i + 1) = omega arith in e) ∙ drop-step i ys x (omega arith) is

built_roots : (fmt : Format) (maps : ℕ → Map) (rs : List (List ℕ)) (top n w : ℕ) (t : Standing) → w + n ≡ top → n < length rs → ((v : ℕ) → w < v → v ≤ top → slice_index_or rs (top - v) [] ≡ root (maps v)) → t.roots ≡ drop n rs → (built_standing fmt t (map maps (up_from (w + 1) n))).roots ≡ rs
built_roots fmt maps rs top zero w t at long each is = is
built_roots fmt maps rs top (suc n) w t at long each is =
    built_roots fmt maps rs top n (w + 1) (landed_on fmt (maps (w + 1)) t) (omega arith) (omega arith) (λ v low high. each v (omega arith) high)
    (ap (λ xs. root (maps (w + 1)) ∷ xs) (is ∙ ap (λ k. drop k rs) (let e : suc n ≡ n + 1 = omega arith in e)) ∙ drop-step n rs (root (maps (w + 1))) (omega arith) (ap (λ i. slice_index_or rs i []) (let e : n ≡ top - (w + 1) = omega arith in e) ∙ each (w + 1) (omega arith) (omega arith)))

back : (ns : List NamedNode) → map as_named (map apart ns) ≡ ns
back [] = refl
back (n ∷ ns) = ap (λ t. n ∷ t) (back ns)

-- the names of nodes whose names stand apart from their values
pub apart_names : (ns : List NamedNode) → map (λ e. e.0) (map apart ns) ≡ map (λ n. n.0) ns
apart_names [] = refl
apart_names (n ∷ ns) = ap (λ t. n.0 ∷ t) (apart_names ns)

forth : (es : List (NodeName × (PlainNode × ℕ))) → map apart (map as_named es) ≡ es
forth [] = refl
forth (e ∷ es) = ap (λ t. e ∷ t) (forth es)

-- nodes whose names rise are those of a list in order if both have the same nodes
pub same-by_name : (xs ys : List NamedNode) → IsTrue (are_rising (map (λ n. n.0) ys)) → ((n : NamedNode) → Contains (nodes_by_name xs) n → Contains ys n) → ((n : NamedNode) → Contains ys n → Contains (nodes_by_name xs) n) → nodes_by_name xs ≡ ys
same-by_name xs ys rises there here =
    ap (map as_named) (same_sorted name_cmp name_cmp_total same_name-exact (by_name (map apart xs)) (map apart ys) (sorted-by_name (map apart xs)) (are_rising-sorted (map apart ys) (subst (λ ns. IsTrue (are_rising ns)) (sym (apart_names ys)) rises))
    (λ e has. Contains-map apart ys (as_named e) (there (as_named e) (Contains-map as_named (by_name (map apart xs)) e has)))
    (λ e has.
    let n = map-which apart ys e has in
    subst (λ es. Contains es e) (forth (by_name (map apart xs))) (subst (Contains (map apart (nodes_by_name xs))) n.2 (Contains-map apart (nodes_by_name xs) n.0 (here n.0 n.1)))))
    ∙ back ys

module _ (fmt : Format) (s : Standing) (read : IsReadStanding s) (sound : IsSound fmt s) where
  all_room : (w : ℕ) → s.floor ≤ w → w ≤ s.head → len (map_at w s.nodes) ≤ 2 ^ 63
  all_room w low high = (sound.versions w low high).room

  pub same-nodes : nodes_by_name (rebuilt_standing fmt s).nodes ≡ s.nodes
  same-nodes =
      let t = rebuilt_standing fmt s in
      let is = rebuilt_standing-is fmt s read sound.floor_root all_room in
      let f = is.floor_is in
      let h = is.head_is in
      let moved = nodes-moved fmt t is.sound in
      same-by_name t.nodes s.nodes read.rises
      (λ n has. same-standing fmt t s is.sound sound (sym f) (sym h)
      (λ w low high. sym (is.maps_are w (omega arith) (omega arith)))
      (λ p node. ap (λ w. version_at w s.nodes p) f ∙ sym (is.versions_are p (sym (ap (λ m. is_node 0 p (entries m)) (ap (λ w. map_at w t.nodes) f ∙ is.maps_are s.floor (omega arith) sound.floor_low)) ∙ node)) ∙ ap (λ w. version_at w t.nodes p) (sym f)) n
      (Contains-permutation (nodes_by_name t.nodes) t.nodes n (IsPermutation-sym t.nodes (nodes_by_name t.nodes) moved) has))
      (λ n has. Contains-permutation t.nodes (nodes_by_name t.nodes) n moved (same-standing fmt s t sound is.sound f h (λ w low high. is.maps_are w low high) is.versions_are n has))

  pub same-roots : (rebuilt_standing fmt s).roots ≡ s.roots
  same-roots =
      let low = sound.floor_low in
      let base = sound.base_low in
      let each = sound.root_each in
      built_roots fmt (λ w. map_at w s.nodes) s.roots s.head (s.head - s.floor) s.floor (floor_of fmt s) (omega arith) (omega arith) (λ v up down. (sound.versions v (omega arith) down).rooted)
      (drop-step (s.head - s.floor) s.roots (root (map_at s.floor s.nodes)) (omega arith) (sound.versions s.floor (omega arith) low).rooted)

-- a standing that was read is sound exactly if it equals what is built anew from it
pub checkpoint-decided : (fmt : Format) (s : Standing) → IsReadStanding s → IsSound fmt s ↔ ((version_at s.floor s.nodes [] ≡ s.floor) × ((w : ℕ) → s.floor ≤ w → w ≤ s.head → len (map_at w s.nodes) ≤ 2 ^ 63) × ((rebuilt_standing fmt s).roots ≡ s.roots) × (nodes_by_name (rebuilt_standing fmt s).nodes ≡ s.nodes))
checkpoint-decided fmt s read = (
  λ sound. (sound.floor_root, (λ w low high. (sound.versions w low high).room), same-roots fmt s read sound, same-nodes fmt s read sound),
  λ is. rebuilt_standing-sound fmt s read is.0 is.1 is.2 is.3,
)

-- ---- the checkpoint of a sound standing
pub checkpoint-given : (fmt : Format) (generation : ℕ) (s : Standing) → IsSound fmt s → GivesStanding fmt (checkpoint_of generation s) (with_nodes (nodes_by_name s.nodes) s) × IsPermutation s.nodes (nodes_by_name s.nodes) × (versions_of (with_nodes (nodes_by_name s.nodes) s) ≡ versions_of s)
checkpoint-given fmt generation s sound =
    let moved = nodes-moved fmt s sound in
    ((moved-sound fmt s (nodes_by_name s.nodes) sound moved, ap (λ rs. record { base = s.base; floor = s.floor; head = s.head; roots = rs; nodes = nodes_by_name s.nodes }) (sym (reverse-reverse s.roots))), moved, moved-versions fmt s (nodes_by_name s.nodes) sound moved)
