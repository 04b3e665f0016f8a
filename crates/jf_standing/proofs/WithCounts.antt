-- A sound standing of a format is what the format keeps of a sound one with counts.
use Rattle.std.specs.Prelude.{IsTrue}
use Rattle.std.proofs.Common.{◌≡◌, ◌-◌, List, [], ◌∷◌, map, refl, ap, Less, Equal, Greater, ◌∙◌, ℕ, ap₂, ◌+◌, ◌++◌, length, drop, sym, subst, ◌≤◌, ◌^◌}
use Rattle.std.specs.FinMap.{put, len}
use Rattle.std.specs.FinMap.Entries.{by_order}
use Rattle.jf_path.specs.declared.name.NodeName.{NodeName}
use Rattle.jf_path.specs.Names.{name_cmp, are_rising}
use Rattle.jf_path.specs.declared.node.PlainNode.{PlainNode}
use Rattle.jf_hash.specs.Maps.{Map, Batch, apply}
use Rattle.jf_hash.specs.Slots.{Part}
use Rattle.jf_hash.specs.Roots.{root}
use Rattle.jf_model.specs.Nodes.{Path, nodes}
use Rattle.jf_codec.specs.Counted.{in_format}
use Rattle.jf_codec.specs.declared.format.Format.{Format}
use Rattle.jf_codec.specs.declared.format.Format.TheVariants as format
use Rattle.jf_payload.specs.Counted.{commit_in}
use Rattle.jf_standing.specs.Order.{by_name}
use Rattle.jf_standing.specs.Named.{NamedNode, not_stale, version_at, map_at, leaf_entries, AreEntries}
use Rattle.jf_standing.specs.Building.{apart, as_named, nodes_by_name, landed_on, built_standing, landings_of, all_landed, node_of, floor_of, up_from, rebuilt_standing}
use Rattle.jf_standing.specs.Standing.{Standing, with_commit, with_nodes}
use Rattle.jf_standing.specs.Landing.{landing_of, head_map}
use Rattle.jf_standing.specs.FormatLaws.{standing_in, with_counts}
use Rattle.jf_standing.specs.Sound.{is_counted, IsSound}
use Rattle.jf_standing.specs.Next.{IsReadStanding}
use Rattle.jf_standing.proofs.Formats.{named_in_format, landing_kept, commit_kept, map_kept, plain_node-in, version_kept, leaves_kept}
use Rattle.jf_standing.proofs.Alive.{plain_node-same}
use Rattle.jf_standing.proofs.Checkpoints.{checkpoint-decided}

-- ---- order
module _ {X Y : Type 0} (g : X → Y) where
  abbrev on_value : NodeName × X → NodeName × Y
  on_value e = (e.0, g e.1)

  put-values : (k : NodeName) (v : X) (es : List (NodeName × X)) → put name_cmp k (g v) (map on_value es) ≡ map on_value (put name_cmp k v es)
  put-values k v [] = refl
  put-values k v (e ∷ es) =
      elim (name_cmp k e.0) as (λ r. by_order r ((k, g v) ∷ on_value e ∷ map on_value es) ((e.0, g v) ∷ map on_value es) (on_value e ∷ put name_cmp k (g v) (map on_value es)) ≡ map on_value (by_order r ((k, v) ∷ e ∷ es) ((e.0, v) ∷ es) (e ∷ put name_cmp k v es))) [
        | Less ↦ refl
        | Equal ↦ refl
        | Greater ↦ ap (λ t. on_value e ∷ t) (put-values k v es)
      ]

  by_name-values : (es : List (NodeName × X)) → by_name (map on_value es) ≡ map on_value (by_name es)
  by_name-values [] = refl
  by_name-values (e ∷ es) = ap (put name_cmp e.0 (g e.1)) (by_name-values es) ∙ put-values e.0 e.1 (by_name es)

module _ (fmt : Format) where
  abbrev rest_kept : PlainNode × ℕ → PlainNode × ℕ
  rest_kept x = (in_format fmt x.0, x.1)

  apart_kept : (ns : List NamedNode) → map apart (map (named_in_format fmt) ns) ≡ map (on_value rest_kept) (map apart ns)
  apart_kept [] = refl
  apart_kept (n ∷ ns) = ap (λ t. apart (named_in_format fmt n) ∷ t) (apart_kept ns)

  named_kept : (es : List (NodeName × (PlainNode × ℕ))) → map as_named (map (on_value rest_kept) es) ≡ map (named_in_format fmt) (map as_named es)
  named_kept [] = refl
  named_kept (e ∷ es) = ap (λ t. named_in_format fmt (as_named e) ∷ t) (named_kept es)

  by_name_kept : (ns : List NamedNode) → nodes_by_name (map (named_in_format fmt) ns) ≡ map (named_in_format fmt) (nodes_by_name ns)
  by_name_kept ns = ap (λ es. map as_named (by_name es)) (apart_kept ns) ∙ ap (map as_named) (by_name-values rest_kept (map apart ns)) ∙ named_kept (by_name (map apart ns))

  -- ---- the standing built anew
  landed_kept : (m : Map) (u : Standing) → landed_on fmt m (standing_in fmt u) ≡ standing_in fmt (landed_on format.Two m u)
  landed_kept m u = ap (λ c. with_commit c (standing_in fmt u)) (landing_kept fmt u m) ∙ commit_kept fmt u (landing_of format.Two u m)

  built_kept : (u : Standing) (ms : List Map) → built_standing fmt (standing_in fmt u) ms ≡ standing_in fmt (built_standing format.Two u ms)
  built_kept u [] = refl
  built_kept u (m ∷ ms) = ap (λ t. built_standing fmt t ms) (landed_kept m u) ∙ built_kept (landed_on format.Two m u) ms

  pub groups_kept : (s : Standing) (bs : List Batch) → landings_of fmt (standing_in fmt s) bs ≡ map (commit_in fmt) (landings_of format.Two s bs)
  groups_kept s [] = refl
  groups_kept s (b ∷ bs) =
      ap (λ k. landing_of fmt (standing_in fmt s) (apply k b) ∷ landings_of fmt (landed_on fmt (apply k b) (standing_in fmt s)) bs) (map_kept fmt s.head s.nodes)
      ∙ ap₂ (λ c cs. c ∷ cs) (landing_kept fmt s (apply (head_map s) b)) (ap (λ t. landings_of fmt t bs) (landed_kept (apply (head_map s) b) s) ∙ groups_kept (landed_on format.Two (apply (head_map s) b) s) bs)

  pub all_landed_kept : (s : Standing) (bs : List Batch) → all_landed fmt (standing_in fmt s) bs ≡ standing_in fmt (all_landed format.Two s bs)
  all_landed_kept s [] = refl
  all_landed_kept s (b ∷ bs) =
      ap (λ k. all_landed fmt (landed_on fmt (apply k b) (standing_in fmt s)) bs) (map_kept fmt s.head s.nodes)
      ∙ ap (λ t. all_landed fmt t bs) (landed_kept (apply (head_map s) b) s)
      ∙ all_landed_kept (landed_on format.Two (apply (head_map s) b) s) bs

  floor_nodes_kept : (version : Path → ℕ) (xs : List (Path × Part)) → map (node_of fmt version) xs ≡ map (named_in_format fmt) (map (node_of format.Two version) xs)
  floor_nodes_kept version [] = refl
  floor_nodes_kept version (x ∷ xs) =
      ap₂ (λ (n : PlainNode) ns. (record { version = version x.0; path = x.0 }, n, not_stale) ∷ ns) (plain_node-in fmt (λ i. version (x.0 ++ i ∷ [])) (length x.0) x.1) (floor_nodes_kept version xs)

  floor_kept_of : (s : Standing) → floor_of fmt s ≡ standing_in fmt (floor_of format.Two s)
  floor_kept_of s = ap (λ ns. with_nodes ns (floor_of format.Two s)) (floor_nodes_kept (version_at s.floor s.nodes) (nodes (map_at s.floor s.nodes)))

  rebuilt_kept : (s : Standing) → rebuilt_standing fmt s ≡ standing_in fmt (rebuilt_standing format.Two s)
  rebuilt_kept s =
      let ms = map (λ w. map_at w s.nodes) (up_from (s.floor + 1) (s.head - s.floor)) in
      ap (λ t. built_standing fmt t ms) (floor_kept_of s) ∙ built_kept (floor_of format.Two s) ms

-- ---- the standing built anew depends on maps and versions of nodes alone
nodes_same : (fmt : Format) (v w : Path → ℕ) (xs : List (Path × Part)) → ((p : Path) → v p ≡ w p) → map (node_of fmt v) xs ≡ map (node_of fmt w) xs
nodes_same fmt v w [] same = refl
nodes_same fmt v w (x ∷ xs) same =
    ap₂ (λ (y : ℕ × PlainNode) ns. (record { version = y.0; path = x.0 }, y.1, not_stale) ∷ ns)
    (ap₂ (λ (a : ℕ) (n : PlainNode). (a, n)) (same x.0) (plain_node-same (is_counted fmt) (λ i. v (x.0 ++ i ∷ [])) (λ i. w (x.0 ++ i ∷ [])) (length x.0) x.1 (λ i some. same (x.0 ++ i ∷ []))))
    (nodes_same fmt v w xs same)

maps_same : (ns ks : List NamedNode) (ws : List ℕ) → ((w : ℕ) → map_at w ns ≡ map_at w ks) → map (λ w. map_at w ns) ws ≡ map (λ w. map_at w ks) ws
maps_same ns ks [] same = refl
maps_same ns ks (w ∷ ws) same = ap₂ (λ m ms. m ∷ ms) (same w) (maps_same ns ks ws same)

rebuilt_same : (fmt : Format) (s : Standing) (ns : List NamedNode) → ((w : ℕ) → map_at w ns ≡ map_at w s.nodes) → ((w : ℕ) (p : Path) → version_at w ns p ≡ version_at w s.nodes p) → rebuilt_standing fmt (with_nodes ns s) ≡ rebuilt_standing fmt s
rebuilt_same fmt s ns maps versions =
    ap₂ (λ t ms. built_standing fmt t ms)
    (ap₂ (λ m ks. record { base = s.base; floor = s.floor; head = s.floor; roots = root m ∷ drop (s.head - s.floor + 1) s.roots; nodes = ks }) (maps s.floor)
    (nodes_same fmt (version_at s.floor ns) (version_at s.floor s.nodes) (nodes (map_at s.floor ns)) (versions s.floor) ∙ ap (λ m. map (node_of fmt (version_at s.floor s.nodes)) (nodes m)) (maps s.floor)))
    (maps_same ns s.nodes (up_from (s.floor + 1) (s.head - s.floor)) maps)

-- ---- the standing with counts
names_kept : (fmt : Format) (ns : List NamedNode) → map (λ n. n.0) (map (named_in_format fmt) ns) ≡ map (λ n. n.0) ns
names_kept fmt [] = refl
names_kept fmt (n ∷ ns) = ap (λ names. n.0 ∷ names) (names_kept fmt ns)

module _ (fmt : Format) (s : Standing) (read : IsReadStanding s) (sound : IsSound fmt s) where
  nodes_are : map (named_in_format fmt) (with_counts s).nodes ≡ s.nodes
  nodes_are =
      let facts = (checkpoint-decided fmt s read).0 sound in
      sym (by_name_kept fmt (rebuilt_standing format.Two s).nodes) ∙ ap (λ (t : Standing). nodes_by_name t.nodes) (sym (rebuilt_kept fmt s)) ∙ facts.3

  maps_are : (w : ℕ) → map_at w (with_counts s).nodes ≡ map_at w s.nodes
  maps_are w = sym (map_kept fmt w (with_counts s).nodes) ∙ ap (map_at w) nodes_are

  versions_are : (w : ℕ) (p : Path) → version_at w (with_counts s).nodes p ≡ version_at w s.nodes p
  versions_are w p = sym (version_kept fmt w (with_counts s).nodes p) ∙ ap (λ ns. version_at w ns p) nodes_are

  pub counts_kept : standing_in fmt (with_counts s) ≡ s
  counts_kept = ap (λ ns. with_nodes ns s) nodes_are

  pub counts_read : IsReadStanding (with_counts s)
  counts_read = record {
    base_low = read.base_low;
    floor_low = read.floor_low;
    head_last = read.head_last;
    root_each = read.root_each;
    hashes = read.hashes;
    keys = subst AreEntries (ap leaf_entries (sym nodes_are) ∙ leaves_kept fmt (with_counts s).nodes) read.keys;
    rises = subst (λ names. IsTrue (are_rising names)) (ap (map (λ n. n.0)) (sym nodes_are) ∙ names_kept fmt (with_counts s).nodes) read.rises;
  }

  pub counts_sound : IsSound format.Two (with_counts s)
  counts_sound =
      let facts = (checkpoint-decided fmt s read).0 sound in
      let same = rebuilt_same format.Two s (with_counts s).nodes maps_are versions_are in
      (checkpoint-decided format.Two (with_counts s) counts_read).1 (
        versions_are s.floor [] ∙ facts.0,
        λ w low high. subst (λ m. len m ≤ 2 ^ 63) (sym (maps_are w)) (facts.1 w low high),
        ap (λ (t : Standing). t.roots) same ∙ ap (λ (t : Standing). t.roots) (sym (rebuilt_kept fmt s)) ∙ facts.2,
        ap (λ (t : Standing). nodes_by_name t.nodes) same,
      )
