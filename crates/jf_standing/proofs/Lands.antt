-- A landing of a map on a sound standing leaves a sound standing.
use Rattle.std.specs.Prelude.{bytes_eq, slice_index_or}
use Rattle.std.proofs.Common.{◌+◌, ◌<◌, List, ◌≡◌, ℕ, ◌-◌, ◌≤◌, map, arith, ap, ◌∙◌, ◌==◌, Bool, true, false, ◌&&◌, cond, Contains, refl, sym, true≢false, suc, [], ◌∷◌, ◌^◌, ◌++◌, length, subst, ◌⊎◌, inl, inr, ap₂}
use Rattle.std.proofs.lemmas.Bool.{cases_lt}
use Rattle.std.specs.FinMap.{entries, len}
use Rattle.std.specs.List.{count_by, IsDistinct}
use Rattle.jf_path.proofs.ListLaws.{All-of, Contains-map}
use Rattle.jf_path.proofs.FilterLaws.{filter-Contains, filter-passes}
use Rattle.jf_path.proofs.NumberLaws.{other_number, number_tells}
use Rattle.jf_hash.specs.Maps.{Map, IsMap, same_key}
use Rattle.jf_hash.specs.Roots.{root}
use Rattle.jf_hash.specs.Slots.{Part}
use Rattle.jf_model.specs.Nodes.{Path, under, plain_node, is_fresh, stale, is_node}
use Rattle.jf_codec.specs.declared.format.Format.{Format}
use Rattle.jf_standing.specs.Named.{NamedNode, not_stale, alive_nodes_at, map_at, version_at, is_at, is_written, written_nodes_at, is_alive, is_stale, stale_nodes_at, leaf_entries}
use Rattle.jf_standing.specs.Standing.{Standing, marked_node, is_named, with_commit}
use Rattle.jf_standing.specs.Sound.{IsSound, StandAt, is_counted, IsVersion, IsStep}
use Rattle.jf_standing.specs.Landing.{head_map, landing_of, version_after, name_at_head, stale_names}
use Rattle.jf_standing.specs.Taking.{Continues}
use Rattle.jf_standing.proofs.Contents.{now, map-placed, contents, version-placed, apart-placed}
use Rattle.jf_standing.proofs.Marks.{alive-nodes_after_commit, map-nodes_after_commit, version-nodes_after_commit, marked-name, filter-unchanged, none_written, marked-node, leaf_entries-marked, marked-yes, marked-not}
use Rattle.jf_standing.proofs.Placed.{still, fresh-own, placed, placed-fresh, placed-stale}
use Rattle.jf_standing.proofs.Lists.{All-each_element, map-which}
use Rattle.jf_standing.proofs.Counts.{count-map, count-same, count-some}
use Rattle.jf_standing.proofs.Sinces.{alive-tells, alive-so, version-low}
use Rattle.jf_standing.proofs.Written.{names-stale}
use Rattle.jf_standing.proofs.Alive.{plain_node-same, version-of}
use Rattle.jf_standing.proofs.Unmoved.{at-so, alive-there}
use Rattle.jf_standing.proofs.Found.{test_so, nodes_after_commit-cases}
use Rattle.jf_standing.proofs.Freshness.{child-node, fresh-node, listed-fresh}
use Rattle.jf_standing.proofs.Unique.{few-alive}
use Rattle.jf_standing.proofs.Names.{named-tells, named-so, named-in_order}

module _ (fmt : Format) (s : Standing) (m : Map) (sound : IsSound fmt s) (keys : IsMap (head_map s)) (own_keys : IsMap m) (last : s.head + 1 < not_stale) where
  abbrev pub own : List NamedNode
  own = now fmt s m sound keys own_keys last

  -- ---- an earlier version
  alive_own : (w : ℕ) → w ≤ s.head → alive_nodes_at w own ≡ map (marked_node (landing_of fmt s m)) (alive_nodes_at w s.nodes)
  alive_own w high = alive-nodes_after_commit (landing_of fmt s m) w s.nodes (omega arith) (fresh-own fmt s m) (still fmt s m sound keys own_keys last w high)

  pub map_own : (w : ℕ) → w ≤ s.head → map_at w own ≡ map_at w s.nodes
  map_own w high = map-nodes_after_commit (landing_of fmt s m) w s.nodes (omega arith) (fresh-own fmt s m) (still fmt s m sound keys own_keys last w high)

  pub version_own : (w : ℕ) (p : Path) → w ≤ s.head → version_at w own p ≡ version_at w s.nodes p
  version_own w p high = version-nodes_after_commit (landing_of fmt s m) w s.nodes p (omega arith) (fresh-own fmt s m) (still fmt s m sound keys own_keys last w high)

  -- marking nodes changes no count at a path
  count_marked : (p : Path) (ns : List NamedNode) → count_by (is_at p) (map (marked_node (landing_of fmt s m)) ns) ≡ count_by (is_at p) ns
  count_marked p ns = count-map (is_at p) (marked_node (landing_of fmt s m)) ns ∙ count-same (λ n. is_at p (marked_node (landing_of fmt s m) n)) (is_at p) ns (All-each_element _ ns (λ n has. ap (λ k. bytes_eq k.path p) (marked-name (landing_of fmt s m) n)))

  written_own : (w : ℕ) → w ≤ s.head → written_nodes_at w own ≡ map (marked_node (landing_of fmt s m)) (written_nodes_at w s.nodes)
  written_own w high = filter-unchanged (is_written w) (landing_of fmt s m) s.nodes (none_written (landing_of fmt s m) w (landing_of fmt s m).fresh (omega arith) (fresh-own fmt s m)) (All-each_element _ s.nodes (λ n has. ap (λ k. k.version == w) (marked-name (landing_of fmt s m) n)))

  stale_same : (w : ℕ) → w ≤ s.head → (n : NamedNode) → Contains s.nodes n → is_stale w (marked_node (landing_of fmt s m) n) ≡ is_stale w n
  stale_same w high n has = elim (is_named n.0 (landing_of fmt s m).stale) as (λ b. is_named n.0 (landing_of fmt s m).stale ≡ b → is_stale w (cond b (n.0, n.1, s.head + 1) n) ≡ is_stale w n) [
    | true ↦ λ named.
        let alive = alive-tells s.head n (parts (is_alive s.head n) _ (sym (names-stale fmt s m sound keys n has) ∙ named)) in
        other_number (s.head + 1) w (λ is. omega arith) ∙ sym (other_number n.2 w (λ is. let up = alive.1 in omega arith))
    | false ↦ λ free. refl
  ] refl
    where
      parts : (a b : Bool) → (a && b) ≡ true → a ≡ true
      parts true b h = refl
      parts false b h = absurd (true≢false (sym h))

  stale_own : (w : ℕ) → w ≤ s.head → stale_nodes_at w own ≡ map (marked_node (landing_of fmt s m)) (stale_nodes_at w s.nodes)
  stale_own w high = filter-unchanged (is_stale w) (landing_of fmt s m) s.nodes (All-each_element _ (landing_of fmt s m).fresh (λ x has. other_number not_stale w (λ is. omega arith))) (All-each_element _ s.nodes (stale_same w high))

  stands_own : (test : Path → Bool) (ns ms : List NamedNode) → ms ≡ map (marked_node (landing_of fmt s m)) ns → StandAt test ns → StandAt test ms
  stands_own test ns ms is stand p = ap (count_by (is_at p)) is ∙ count_marked p ns ∙ stand p

  root_own : (w : ℕ) → w ≤ s.head → slice_index_or (root m ∷ s.roots) (s.head + 1 - w) [] ≡ slice_index_or s.roots (s.head - w) []
  root_own w high = ap (λ i. slice_index_or (root m ∷ s.roots) i []) (let e : s.head + 1 - w ≡ suc (s.head - w) = omega arith in e)

  old_version : (w : ℕ) → s.floor ≤ w → w ≤ s.head → IsVersion fmt own w (slice_index_or (root m ∷ s.roots) (s.head + 1 - w) [])
  old_version w low high =
      let v = sound.versions w low high in
      record {
        one_leaf = subst (λ es. IsDistinct same_key (map (λ (e : List ℕ × List ℕ). e.0) es)) (sym (ap leaf_entries (alive_own w high) ∙ leaf_entries-marked (landing_of fmt s m) (alive_nodes_at w s.nodes))) v.one_leaf;
        nodes = All-each_element _ (alive_nodes_at w own) (λ n has.
            let k = map-which (marked_node (landing_of fmt s m)) (alive_nodes_at w s.nodes) n (subst (λ ns. Contains ns n) (alive_own w high) has) in
            let at : k.0.0.path ≡ n.0.path = ap (λ z. z.path) (sym (marked-name (landing_of fmt s m) k.0)) ∙ ap (λ (z : NamedNode). z.0.path) k.2 in
            sym (ap (λ (z : NamedNode). z.1) k.2) ∙ marked-node (landing_of fmt s m) k.0
            ∙ All-of _ (alive_nodes_at w s.nodes) k.0 v.nodes k.1
            ∙ ap (λ p. plain_node (is_counted fmt) (λ i. version_at w s.nodes (p ++ i ∷ [])) (length p) (under 0 p (entries (map_at w s.nodes)))) at
            ∙ sym (plain_node-same (is_counted fmt) (λ i. version_at w own (n.0.path ++ i ∷ [])) (λ i. version_at w s.nodes (n.0.path ++ i ∷ [])) (length n.0.path) (under 0 n.0.path (entries (map_at w s.nodes))) (λ i some. version_own w (n.0.path ++ i ∷ []) high))
            ∙ ap (λ mm. plain_node (is_counted fmt) (λ i. version_at w own (n.0.path ++ i ∷ [])) (length n.0.path) (under 0 n.0.path (entries mm))) (sym (map_own w high)));
        rooted = root_own w high ∙ v.rooted ∙ ap root (sym (map_own w high));
        room = subst (λ mm. len mm ≤ 2 ^ 63) (sym (map_own w high)) v.room;
      }

  old_step : (w : ℕ) → s.floor < w → w ≤ s.head → IsStep own w
  old_step w low high =
      let step = sound.steps w low high in
      let before = map_own (w - 1) (omega arith) in
      let here = map_own w high in
      record {
        fresh = subst (λ a. StandAt (is_fresh (entries a) (entries (map_at w own))) (written_nodes_at w own)) (sym before) (subst (λ b. StandAt (is_fresh (entries (map_at (w - 1) s.nodes)) (entries b)) (written_nodes_at w own)) (sym here) (stands_own _ (written_nodes_at w s.nodes) (written_nodes_at w own) (written_own w high) step.fresh));
        stale = subst (λ a. StandAt (is_fresh (entries (map_at w own)) (entries a)) (stale_nodes_at w own)) (sym before) (subst (λ b. StandAt (is_fresh (entries b) (entries (map_at (w - 1) s.nodes))) (stale_nodes_at w own)) (sym here) (stands_own _ (stale_nodes_at w s.nodes) (stale_nodes_at w own) (stale_own w high) step.stale));
        stood = All-each_element _ (stale_nodes_at w own) (λ n has.
            let k = map-which (marked_node (landing_of fmt s m)) (stale_nodes_at w s.nodes) n (subst (λ ns. Contains ns n) (stale_own w high) has) in
            let stood = All-of _ (stale_nodes_at w s.nodes) k.0 step.stood k.1 in
            let same = All-of _ s.nodes k.0 (still fmt s m sound keys own_keys last (w - 1) (omega arith)) (filter-Contains (is_stale w) s.nodes k.0 k.1) in
            ap (is_alive (w - 1)) (sym k.2) ∙ same ∙ stood);
      }

  -- ---- the new version
  map_new : map_at (s.head + 1) own ≡ m
  map_new = map-placed fmt s m sound keys own_keys last

  new_version : len m ≤ 2 ^ 63 → IsVersion fmt own (s.head + 1) (slice_index_or (root m ∷ s.roots) (s.head + 1 - (s.head + 1)) [])
  new_version room = record {
    one_leaf = apart-placed fmt s m sound keys own_keys last;
    nodes = All-each_element _ (alive_nodes_at (s.head + 1) own) (λ n has.
        let p = n.0.path in
        let node = test_so _ _ (placed fmt s m sound keys own_keys last p) (count-some (is_at p) (alive_nodes_at (s.head + 1) own) n has (at-so p n refl)) in
        contents fmt s m sound keys own_keys last n has
        ∙ sym (plain_node-same (is_counted fmt) (λ i. version_at (s.head + 1) own (p ++ i ∷ [])) (λ i. version_after s m (p ++ i ∷ [])) (length p) (under 0 p (entries m)) (λ i some. version-placed fmt s m sound keys own_keys last (p ++ i ∷ []) (child-node (entries m) p i node some)))
        ∙ ap (λ mm. plain_node (is_counted fmt) (λ i. version_at (s.head + 1) own (p ++ i ∷ [])) (length p) (under 0 p (entries mm))) (sym map_new));
    rooted = ap (λ i. slice_index_or (root m ∷ s.roots) i []) (let e : s.head + 1 - (s.head + 1) ≡ 0 = omega arith in e) ∙ ap root (sym map_new);
    room = subst (λ mm. len mm ≤ 2 ^ 63) (sym map_new) room;
  }

  map_before : map_at (s.head + 1 - 1) own ≡ head_map s
  map_before = ap (λ w. map_at w own) (let e : s.head + 1 - 1 ≡ s.head = omega arith in e) ∙ map_own s.head (omega arith)

  new_step : IsStep own (s.head + 1)
  new_step = record {
    fresh = subst (λ a. StandAt (is_fresh (entries a) (entries (map_at (s.head + 1) own))) (written_nodes_at (s.head + 1) own)) (sym map_before) (subst (λ b. StandAt (is_fresh (entries (head_map s)) (entries b)) (written_nodes_at (s.head + 1) own)) (sym map_new) (placed-fresh fmt s m sound keys own_keys last));
    stale = subst (λ a. StandAt (is_fresh (entries (map_at (s.head + 1) own)) (entries a)) (stale_nodes_at (s.head + 1) own)) (sym map_before) (subst (λ b. StandAt (is_fresh (entries b) (entries (head_map s))) (stale_nodes_at (s.head + 1) own)) (sym map_new) (placed-stale fmt s m sound keys own_keys last));
    stood = All-each_element _ (stale_nodes_at (s.head + 1) own) (λ n has.
        let at = number_tells n.2 (s.head + 1) (filter-passes (is_stale (s.head + 1)) own n has) in
        nodes_after_commit-cases (landing_of fmt s m) s.nodes n (filter-Contains (is_stale (s.head + 1)) own n has)
        (λ k stood same. alive-so (s.head + 1 - 1) n (let low = version-low fmt s sound k stood in let v = ap (λ z. z.version) (sym (marked-name (landing_of fmt s m) k) ∙ ap (λ (z : NamedNode). z.0) same) in omega arith) (omega arith))
        (λ x mine same. absurd (let since = ap (λ (z : NamedNode). z.2) same in omega arith)));
  }

  -- ---- all versions
  pub lands : len m ≤ 2 ^ 63 → IsSound fmt (with_commit (landing_of fmt s m) s)
  lands room = record {
    base_low = sound.base_low;
    floor_low = let low = sound.floor_low in omega arith;
    head_last = last;
    root_each = let each = sound.root_each in let low = sound.floor_low in let base = sound.base_low in omega arith;
    floor_nodes = subst (λ mm. StandAt (λ p. is_node 0 p (entries mm)) (alive_nodes_at s.floor own)) (sym (map_own s.floor sound.floor_low)) (stands_own _ (alive_nodes_at s.floor s.nodes) (alive_nodes_at s.floor own) (alive_own s.floor sound.floor_low) sound.floor_nodes);
    floor_root = version_own s.floor [] sound.floor_low ∙ sound.floor_root;
    versions = λ w low high. elim (cases_lt s.head w) [
      | inl new ↦ subst (λ v. IsVersion fmt own v (slice_index_or (root m ∷ s.roots) (s.head + 1 - v) [])) (let e : s.head + 1 ≡ w = omega arith in e) (new_version room)
      | inr old ↦ old_version w low old
    ];
    steps = λ w low high. elim (cases_lt s.head w) [
      | inl new ↦ subst (IsStep own) (let e : s.head + 1 ≡ w = omega arith in e) new_step
      | inr old ↦ old_step w low old
    ];
    written = All-each_element _ own (λ n has. nodes_after_commit-cases (landing_of fmt s m) s.nodes n has
        (λ k stood same. let low = version-low fmt s sound k stood in let v = ap (λ z. z.version) (sym (marked-name (landing_of fmt s m) k) ∙ ap (λ (z : NamedNode). z.0) same) in omega arith)
        (λ x mine same. let at = All-of (λ x. x.0.version ≡ s.head + 1) (landing_of fmt s m).fresh x (fresh-own fmt s m) mine in let v = ap (λ (z : NamedNode). z.0.version) same in omega arith));
    gone = All-each_element _ own (λ n has. nodes_after_commit-cases (landing_of fmt s m) s.nodes n has
        (λ k stood same. elim (is_named k.0 (landing_of fmt s m).stale) as (λ b. is_named k.0 (landing_of fmt s m).stale ≡ b → (n.2 ≡ not_stale) ⊎ ((s.floor < n.2) × (n.2 ≤ s.head + 1))) [
          | true ↦ λ named. let at = ap (λ (z : NamedNode). z.2) (sym (marked-yes (landing_of fmt s m) k named) ∙ same) in let low = sound.floor_low in inr (omega arith, omega arith)
          | false ↦ λ free. let at = ap (λ (z : NamedNode). z.2) (sym (marked-not (landing_of fmt s m) k free) ∙ same) in elim (All-of _ s.nodes k sound.gone stood) [ inl none ↦ inl (omega arith) | inr late ↦ let up = late.0 in let down = late.1 in inr (omega arith, omega arith) ]
        ] refl)
        (λ x mine same. inl (sym (ap (λ (z : NamedNode). z.2) same))));
  }

  -- the landing continues from the head
  pub continues : Continues s (landing_of fmt s m)
  continues = record {
    next = refl;
    fresh_own = fresh-own fmt s m;
    stale_known = All-each_element _ (landing_of fmt s m).stale (λ name has.
        let x = map-which (λ (x : Path × Part). name_at_head s x.0) (stale (head_map s) m) name (named-tells name (stale_names s m) (sym (named-in_order name (stale_names s m)) ∙ named-so name (landing_of fmt s m).stale has)) in
        let k = alive-there fmt s sound s.head sound.floor_low (omega arith) x.0.0 (fresh-node (entries m) (entries (head_map s)) x.0.0 (listed-fresh m (head_map s) x.0 x.1).0) in
        let v = version-of s.head s.nodes x.0.0 k.0 (few-alive fmt s sound s.head sound.floor_low (omega arith) x.0.0) k.1 k.2 in
        let it : k.0.0 ≡ name = sym (ap₂ (λ v p. record { version = v; path = p }) v (sym k.2)) ∙ x.2 in
        named-so name (map (λ n. n.0) s.nodes) (subst (Contains (map (λ n. n.0) s.nodes)) it (Contains-map (λ (n : NamedNode). n.0) s.nodes k.0 (filter-Contains (is_alive s.head) s.nodes k.0 k.1))));
  }

  pub map-lands : map_at (s.head + 1) (with_commit (landing_of fmt s m) s).nodes ≡ m
  map-lands = map_new
