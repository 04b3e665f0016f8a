-- What a format keeps of a standing has the same maps and versions.
use Rattle.std.specs.Prelude.{slice_index_or, IsTrue}
use Rattle.std.proofs.Common.{◌≡◌, refl, ℕ, ◌-◌, true, List, [], ◌∷◌, map, ap₂, ap, ◌∙◌, filter, ◌+◌, cond, sym, ◌++◌, length, ◌≤◌, ◌^◌, subst, false, nat_lt}
use Rattle.std.proofs.lemmas.List.{map-append}
use Rattle.std.specs.FinMap.{from_entries, entries, len}
use Rattle.std.specs.List.{cons_option, count_by, AllByRecursion, IsDistinct}
use Rattle.jf_path.specs.declared.node.PlainNode.{PlainNode}
use Rattle.jf_path.specs.declared.name.NodeName.{NodeName}
use Rattle.jf_path.specs.declared.node.PlainNode.TheVariants as node
use Rattle.jf_path.proofs.FilterLaws.{filter-map}
use Rattle.jf_hash.specs.Slots.{Part}
use Rattle.jf_hash.specs.Maps.{same_key, Map}
use Rattle.jf_hash.specs.Roots.{root}
use Rattle.jf_model.specs.Nodes.{plain_node, Path, under, is_fresh, fresh, stale, is_node}
use Rattle.jf_codec.specs.Counted.{in_format}
use Rattle.jf_codec.specs.declared.format.Format.{Format}
use Rattle.jf_codec.specs.declared.format.Format.TheVariants as format
use Rattle.jf_payload.specs.Counted.{commit_in}
use Rattle.jf_payload.specs.declared.records.Commit.{Commit}
use Rattle.jf_standing.specs.Named.{leaf_entry, NamedNode, leaf_entries, is_alive, alive_nodes_at, is_written, written_nodes_at, is_stale, stale_nodes_at, map_at, is_at, version_at}
use Rattle.jf_standing.specs.Sound.{is_counted, IsNodeOf, IsVersion, IsStep, IsSound}
use Rattle.jf_standing.specs.Standing.{Standing, down_from, versions_of, is_named, marked_node, unmarked_node, with_commit, with_floor}
use Rattle.jf_standing.specs.FormatLaws.{standing_in}
use Rattle.jf_standing.specs.Landing.{version_after, written_node, name_at_head, head_map, landing_of}
use Rattle.jf_standing.specs.Order.{in_order}
use Rattle.jf_standing.proofs.Counted.{plain_node-uncounted}
use Rattle.jf_standing.proofs.Counts.{count-cons}
use Rattle.jf_standing.proofs.Alive.{plain_node-same}

-- ---- nodes
leaf_same : (fmt : Format) (n : PlainNode) → leaf_entry (in_format fmt n) ≡ leaf_entry n
leaf_same format.One node.Null = refl
leaf_same format.One (node.Leaf key value) = refl
leaf_same format.One (node.Inner cs) = refl
leaf_same format.Two n = refl

-- a node of a map in a format is what the format keeps of the node with counts
pub plain_node-in : (fmt : Format) (v : ℕ → ℕ) (d : ℕ) (es : Part) → plain_node (is_counted fmt) v d es ≡ in_format fmt (plain_node true v d es)
plain_node-in format.One v d es = plain_node-uncounted v d es
plain_node-in format.Two v d es = refl

module _ (fmt : Format) where
  abbrev pub named_in_format : NamedNode → NamedNode
  named_in_format n = (n.0, in_format fmt n.1, n.2)

  pub leaves_kept : (ns : List NamedNode) → leaf_entries (map named_in_format ns) ≡ leaf_entries ns
  leaves_kept [] = refl
  leaves_kept (n ∷ ns) = ap₂ (λ o es. cons_option o es) (leaf_same fmt n.1) (leaves_kept ns)

  alive_kept : (w : ℕ) (ns : List NamedNode) → alive_nodes_at w (map named_in_format ns) ≡ map named_in_format (alive_nodes_at w ns)
  alive_kept w ns = filter-map (is_alive w) named_in_format ns

  written_kept : (w : ℕ) (ns : List NamedNode) → written_nodes_at w (map named_in_format ns) ≡ map named_in_format (written_nodes_at w ns)
  written_kept w ns = filter-map (is_written w) named_in_format ns

  stale_kept : (w : ℕ) (ns : List NamedNode) → stale_nodes_at w (map named_in_format ns) ≡ map named_in_format (stale_nodes_at w ns)
  stale_kept w ns = filter-map (is_stale w) named_in_format ns

  -- the maps are unchanged
  pub map_kept : (w : ℕ) (ns : List NamedNode) → map_at w (map named_in_format ns) ≡ map_at w ns
  unfolding map_at
  map_kept w ns = ap from_entries (ap leaf_entries (alive_kept w ns) ∙ leaves_kept (alive_nodes_at w ns))

  numbers_kept : (ns : List NamedNode) → map (λ n. n.0.version) (map named_in_format ns) ≡ map (λ n. n.0.version) ns
  numbers_kept [] = refl
  numbers_kept (n ∷ ns) = ap (λ vs. n.0.version ∷ vs) (numbers_kept ns)

  -- the versions of nodes are unchanged
  pub version_kept : (w : ℕ) (ns : List NamedNode) (p : Path) → version_at w (map named_in_format ns) p ≡ version_at w ns p
  version_kept w ns p =
      ap (λ xs. slice_index_or (map (λ n. n.0.version) (filter (is_at p) xs)) 0 0) (alive_kept w ns)
      ∙ ap (λ xs. slice_index_or (map (λ n. n.0.version) xs) 0 0) (filter-map (is_at p) named_in_format (alive_nodes_at w ns))
      ∙ ap (λ vs. slice_index_or vs 0 0) (numbers_kept (filter (is_at p) (alive_nodes_at w ns)))

  count_kept : (p : Path) (ns : List NamedNode) → count_by (is_at p) (map named_in_format ns) ≡ count_by (is_at p) ns
  count_kept p [] = refl
  count_kept p (n ∷ ns) = count-cons (is_at p) (named_in_format n) (map named_in_format ns) ∙ ap (λ c. cond (is_at p n) 1 0 + c) (count_kept p ns) ∙ sym (count-cons (is_at p) n ns)

  all_kept : (P : NamedNode → Type 0) (ns : List NamedNode) → AllByRecursion (λ n. P (named_in_format n)) ns → AllByRecursion P (map named_in_format ns)
  all_kept P [] all = tt
  all_kept P (n ∷ ns) all = (all.0, all_kept P ns all.1)

  stands_kept : (test : Path → ℕ) (before after : List NamedNode) → after ≡ map named_in_format before → ((p : Path) → count_by (is_at p) before ≡ test p) → (p : Path) → count_by (is_at p) after ≡ test p
  stands_kept test before after is stand p = ap (count_by (is_at p)) is ∙ count_kept p before ∙ stand p

  -- ---- soundness
  node_kept : (w : ℕ) (ns : List NamedNode) (n : NamedNode) → IsNodeOf format.Two w ns n → IsNodeOf fmt w (map named_in_format ns) (named_in_format n)
  node_kept w ns n is =
      ap (in_format fmt) is
      ∙ sym (plain_node-in fmt (λ i. version_at w ns (n.0.path ++ i ∷ [])) (length n.0.path) (under 0 n.0.path (entries (map_at w ns))))
      ∙ plain_node-same (is_counted fmt) (λ i. version_at w ns (n.0.path ++ i ∷ [])) (λ i. version_at w (map named_in_format ns) (n.0.path ++ i ∷ [])) (length n.0.path) (under 0 n.0.path (entries (map_at w ns))) (λ i some. sym (version_kept w ns (n.0.path ++ i ∷ [])))
      ∙ ap (λ m. plain_node (is_counted fmt) (λ i. version_at w (map named_in_format ns) (n.0.path ++ i ∷ [])) (length n.0.path) (under 0 n.0.path (entries m))) (sym (map_kept w ns))

  nodes_kept : (w : ℕ) (ns xs : List NamedNode) → AllByRecursion (IsNodeOf format.Two w ns) xs → AllByRecursion (λ n. IsNodeOf fmt w (map named_in_format ns) (named_in_format n)) xs
  nodes_kept w ns [] all = tt
  nodes_kept w ns (x ∷ xs) all = (node_kept w ns x all.0, nodes_kept w ns xs all.1)

  is_version_kept : (w : ℕ) (ns : List NamedNode) (recorded : List ℕ) → IsVersion format.Two ns w recorded → IsVersion fmt (map named_in_format ns) w recorded
  is_version_kept w ns recorded v = record {
    one_leaf = subst (λ es. IsDistinct same_key (map (λ e. e.0) es)) (sym (ap leaf_entries (alive_kept w ns) ∙ leaves_kept (alive_nodes_at w ns))) v.one_leaf;
    nodes = subst (AllByRecursion (IsNodeOf fmt w (map named_in_format ns))) (sym (alive_kept w ns)) (all_kept (IsNodeOf fmt w (map named_in_format ns)) (alive_nodes_at w ns) (nodes_kept w ns (alive_nodes_at w ns) v.nodes));
    rooted = v.rooted ∙ ap root (sym (map_kept w ns));
    room = subst (λ m. len m ≤ 2 ^ 63) (sym (map_kept w ns)) v.room;
  }

  step_kept : (w : ℕ) (ns : List NamedNode) → IsStep ns w → IsStep (map named_in_format ns) w
  step_kept w ns step = record {
    fresh = λ p. stands_kept (λ p. cond (is_fresh (entries (map_at (w - 1) ns)) (entries (map_at w ns)) p) 1 0) (written_nodes_at w ns) (written_nodes_at w (map named_in_format ns)) (written_kept w ns) step.fresh p
        ∙ ap₂ (λ m k. cond (is_fresh (entries m) (entries k) p) 1 0) (sym (map_kept (w - 1) ns)) (sym (map_kept w ns));
    stale = λ p. stands_kept (λ p. cond (is_fresh (entries (map_at w ns)) (entries (map_at (w - 1) ns)) p) 1 0) (stale_nodes_at w ns) (stale_nodes_at w (map named_in_format ns)) (stale_kept w ns) step.stale p
        ∙ ap₂ (λ m k. cond (is_fresh (entries m) (entries k) p) 1 0) (sym (map_kept w ns)) (sym (map_kept (w - 1) ns));
    stood = subst (AllByRecursion (λ n. IsTrue (is_alive (w - 1) n))) (sym (stale_kept w ns)) (all_kept (λ n. IsTrue (is_alive (w - 1) n)) (stale_nodes_at w ns) step.stood);
  }

  pub sound_kept : (s : Standing) → IsSound format.Two s → IsSound fmt (standing_in fmt s)
  sound_kept s sound = record {
    base_low = sound.base_low;
    floor_low = sound.floor_low;
    head_last = sound.head_last;
    root_each = sound.root_each;
    floor_nodes = λ p. stands_kept (λ p. cond (is_node 0 p (entries (map_at s.floor s.nodes))) 1 0) (alive_nodes_at s.floor s.nodes) (alive_nodes_at s.floor (map named_in_format s.nodes)) (alive_kept s.floor s.nodes) sound.floor_nodes p
        ∙ ap (λ m. cond (is_node 0 p (entries m)) 1 0) (sym (map_kept s.floor s.nodes));
    floor_root = version_kept s.floor s.nodes [] ∙ sound.floor_root;
    versions = λ w low high. is_version_kept w s.nodes (slice_index_or s.roots (s.head - w) []) (sound.versions w low high);
    steps = λ w low high. step_kept w s.nodes (sound.steps w low high);
    written = all_kept _ s.nodes sound.written;
    gone = all_kept _ s.nodes sound.gone;
  }

  maps_kept : (ns : List NamedNode) (ws : List ℕ) → map (λ w. map_at w (map named_in_format ns)) ws ≡ map (λ w. map_at w ns) ws
  maps_kept ns [] = refl
  maps_kept ns (w ∷ ws) = ap₂ (λ m ms. m ∷ ms) (map_kept w ns) (maps_kept ns ws)

  pub versions_kept : (s : Standing) → versions_of (standing_in fmt s) ≡ versions_of s
  versions_kept s = ap (λ ms. record { base = s.base; floor = s.floor; head = s.head; roots = s.roots; maps = ms }) (maps_kept s.nodes (down_from s.head (s.head - s.floor + 1)))

  -- ---- landings
  after_kept : (s : Standing) (m : Map) (p : Path) → version_after (standing_in fmt s) m p ≡ version_after s m p
  after_kept s m p = ap₂ (λ k v. cond (is_fresh (entries k) (entries m) p) (s.head + 1) v) (map_kept s.head s.nodes) (version_kept s.head s.nodes p)

  abbrev as_kept : NodeName × PlainNode → NodeName × PlainNode
  as_kept x = (x.0, in_format fmt x.1)

  written_in : (s : Standing) (m : Map) (x : Path × Part) → written_node fmt (standing_in fmt s) m x ≡ as_kept (written_node format.Two s m x)
  written_in s m x =
      ap (λ n. (record { version = s.head + 1; path = x.0 }, n))
      (plain_node-same (is_counted fmt) (λ i. version_after (standing_in fmt s) m (x.0 ++ i ∷ [])) (λ i. version_after s m (x.0 ++ i ∷ [])) (length x.0) x.1 (λ i some. after_kept s m (x.0 ++ i ∷ []))
      ∙ plain_node-in fmt (λ i. version_after s m (x.0 ++ i ∷ [])) (length x.0) x.1)

  all_written_in : (s : Standing) (m : Map) (xs : List (Path × Part)) → map (written_node fmt (standing_in fmt s) m) xs ≡ map as_kept (map (written_node format.Two s m) xs)
  all_written_in s m [] = refl
  all_written_in s m (x ∷ xs) = ap₂ (λ y ys. y ∷ ys) (written_in s m x) (all_written_in s m xs)

  names_kept : (s : Standing) (xs : List (Path × Part)) → map (λ x. name_at_head (standing_in fmt s) x.0) xs ≡ map (λ x. name_at_head s x.0) xs
  names_kept s [] = refl
  names_kept s (x ∷ xs) = ap₂ (λ v names. record { version = v; path = x.0 } ∷ names) (version_kept s.head s.nodes x.0) (names_kept s xs)

  pub landing_kept : (s : Standing) (m : Map) → landing_of fmt (standing_in fmt s) m ≡ commit_in fmt (landing_of format.Two s m)
  landing_kept s m =
      let written = ap (λ k. map (written_node fmt (standing_in fmt s) m) (fresh k m)) (map_kept s.head s.nodes) ∙ all_written_in s m (fresh (head_map s) m) in
      let gone = ap (λ k. map (λ (x : Path × Part). name_at_head (standing_in fmt s) x.0) (stale k m)) (map_kept s.head s.nodes) ∙ names_kept s (stale (head_map s) m) in
      ap₂ (λ xs names. record { version = s.head + 1; root = root m; fresh = xs; stale = names }) written (ap in_order gone)

  -- ---- landings and floors on what a format keeps
  mark_kept : (c : Commit) (n : NamedNode) → marked_node (commit_in fmt c) (named_in_format n) ≡ named_in_format (marked_node c n)
  mark_kept c n = elim (is_named n.0 c.stale) as (λ b. cond b (n.0, in_format fmt n.1, c.version) (named_in_format n) ≡ named_in_format (cond b (n.0, n.1, c.version) n)) [ true ↦ refl | false ↦ refl ]

  marks_kept : (c : Commit) (ns : List NamedNode) → map (marked_node (commit_in fmt c)) (map named_in_format ns) ≡ map named_in_format (map (marked_node c) ns)
  marks_kept c [] = refl
  marks_kept c (n ∷ ns) = ap₂ (λ x xs. x ∷ xs) (mark_kept c n) (marks_kept c ns)

  unmarks_kept : (xs : List (NodeName × PlainNode)) → map unmarked_node (map as_kept xs) ≡ map named_in_format (map unmarked_node xs)
  unmarks_kept [] = refl
  unmarks_kept (x ∷ xs) = ap (λ ns. named_in_format (unmarked_node x) ∷ ns) (unmarks_kept xs)

  pub commit_kept : (s : Standing) (c : Commit) → with_commit (commit_in fmt c) (standing_in fmt s) ≡ standing_in fmt (with_commit c s)
  commit_kept s c =
      ap (λ ns. record { base = s.base; floor = s.floor; head = c.version; roots = c.root ∷ s.roots; nodes = ns })
      (ap₂ (λ xs ys. xs ++ ys) (marks_kept c s.nodes) (unmarks_kept c.fresh) ∙ sym (map-append named_in_format (map (marked_node c) s.nodes) (map unmarked_node c.fresh)))

  pub floor_kept : (s : Standing) (floor : ℕ) → with_floor floor (standing_in fmt s) ≡ standing_in fmt (with_floor floor s)
  floor_kept s floor = ap (λ ns. record { base = s.base; floor = floor; head = s.head; roots = s.roots; nodes = ns }) (filter-map (λ n. nat_lt floor n.2) named_in_format s.nodes)
