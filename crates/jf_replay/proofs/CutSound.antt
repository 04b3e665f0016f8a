-- A sound standing was sound at each earlier head from its floor on.
use Rattle.std.specs.Prelude.{slice_index_or}
use Rattle.std.proofs.Common.{◌≡◌, ℕ, zero, suc, ◌+◌, ◌-◌, ◌<◌, ◌≤◌, ◌^◌, Bool, true, false, cond, nat_le, List, [], ◌∷◌, ◌++◌, map, filter, drop, length, Contains, refl, sym, ap, ap₂, ◌∙◌, subst, arith, inl, inr, ◌⊎◌}
use Rattle.std.proofs.lemmas.List.{length-drop}
use Rattle.std.specs.FinMap.{from_entries, entries, len}
use Rattle.std.specs.List.{IsDistinct, count_by, cons_option}
use Rattle.jf_path.proofs.ListLaws.{All-of}
use Rattle.jf_path.proofs.FilterLaws.{filter-map, filter-Contains, filter-passes}
use Rattle.jf_path.proofs.NumberLaws.{le_tells}
use Rattle.jf_hash.specs.Maps.{same_key}
use Rattle.jf_hash.specs.Roots.{root}
use Rattle.jf_model.specs.Nodes.{Path, under, is_node, is_fresh, plain_node}
use Rattle.jf_codec.specs.declared.format.Format.{Format}
use Rattle.jf_standing.specs.Named.{NamedNode, not_stale, is_alive, is_at, alive_nodes_at, written_nodes_at, stale_nodes_at, version_at, leaf_entry, leaf_entries, map_at}
use Rattle.jf_standing.specs.Standing.{Standing}
use Rattle.jf_standing.specs.Sound.{IsSound, is_counted, IsVersion, IsStep, StandAt}
use Rattle.jf_standing.proofs.Counts.{count-map}
use Rattle.jf_standing.proofs.Lists.{All-each_element, map-which}
use Rattle.jf_standing.proofs.Sinces.{versions-before, alive-so, alive-tells}
use Rattle.jf_replay.specs.Cuts.{is_written_by, named_by, nodes_by, standing_by}
use Rattle.jf_replay.proofs.CutNodes.{alive-nodes_by, written-nodes_by, stale-nodes_by}

leaf_entries-named_by : (w : ℕ) (ns : List NamedNode) → leaf_entries (map (named_by w) ns) ≡ leaf_entries ns
leaf_entries-named_by w [] = refl
leaf_entries-named_by w (n ∷ ns) = ap (λ t. cons_option (leaf_entry n.1) t) (leaf_entries-named_by w ns)

versions_named_by : (w : ℕ) (ns : List NamedNode) → map (λ (n : NamedNode). n.0.version) (map (named_by w) ns) ≡ map (λ n. n.0.version) ns
versions_named_by w [] = refl
versions_named_by w (n ∷ ns) = ap (λ t. n.0.version ∷ t) (versions_named_by w ns)

module _ (w : ℕ) (ns : List NamedNode) (last : w < not_stale) (x : ℕ) (low : x ≤ w) where
  -- an earlier version has the same map
  pub map-nodes_by : map_at x (nodes_by w ns) ≡ map_at x ns
  unfolding map_at
  map-nodes_by = ap from_entries (ap leaf_entries (alive-nodes_by w ns last x low) ∙ leaf_entries-named_by w (alive_nodes_at x ns))

  -- and its nodes have the same versions
  pub version-nodes_by : (p : Path) → version_at x (nodes_by w ns) p ≡ version_at x ns p
  version-nodes_by p = ap (λ vs. slice_index_or vs 0 0) (
      ap (λ xs. map (λ (n : NamedNode). n.0.version) (filter (is_at p) xs)) (alive-nodes_by w ns last x low)
      ∙ ap (map (λ (n : NamedNode). n.0.version)) (filter-map (is_at p) (named_by w) (alive_nodes_at x ns))
      ∙ versions_named_by w (filter (is_at p) (alive_nodes_at x ns)))

stand-named_by : (test : Path → Bool) (w : ℕ) (ns ms : List NamedNode) → ms ≡ map (named_by w) ns → StandAt test ns → StandAt test ms
stand-named_by test w ns ms is stand p = ap (count_by (is_at p)) is ∙ count-map (is_at p) (named_by w) ns ∙ stand p

slice-drop : (xs : List (List ℕ)) (k i : ℕ) → slice_index_or (drop k xs) i [] ≡ slice_index_or xs (k + i) []
slice-drop xs zero i = ap (λ j. slice_index_or xs j []) (let e : i ≡ 0 + i = omega arith in e)
slice-drop [] (suc k) i = refl
slice-drop (x ∷ xs) (suc k) i = slice-drop xs k i ∙ ap (λ j. slice_index_or (x ∷ xs) j []) (let e : suc (k + i) ≡ suc k + i = omega arith in e)

module _ (fmt : Format) (s : Standing) (sound : IsSound fmt s) (w : ℕ) (from : s.floor ≤ w) (upto : w ≤ s.head) where
  abbrev pub cut_nodes : List NamedNode
  cut_nodes = nodes_by w s.nodes

  last : w < not_stale
  last = let end = sound.head_last in omega arith

  same_version : (x : ℕ) → x ≤ w → (r q : List ℕ) → r ≡ q → IsVersion fmt s.nodes x r → IsVersion fmt cut_nodes x q
  same_version x low r q same v =
      let is = alive-nodes_by w s.nodes last x low in
      let m = map-nodes_by w s.nodes last x low in
      record {
        one_leaf = subst (λ es. IsDistinct same_key (map (λ (e : List ℕ × List ℕ). e.0) es)) (sym (ap leaf_entries is ∙ leaf_entries-named_by w (alive_nodes_at x s.nodes))) v.one_leaf;
        nodes = All-each_element _ (alive_nodes_at x cut_nodes) (λ n has.
            let k = map-which (named_by w) (alive_nodes_at x s.nodes) n (subst (λ ns. Contains ns n) is has) in
            let p = n.0.path in
            let at : k.0.0.path ≡ p = ap (λ (z : NamedNode). z.0.path) k.2 in
            sym (ap (λ (z : NamedNode). z.1) k.2)
            ∙ All-of _ (alive_nodes_at x s.nodes) k.0 v.nodes k.1
            ∙ ap (λ q. plain_node (is_counted fmt) (λ i. version_at x s.nodes (q ++ i ∷ [])) (length q) (under 0 q (entries (map_at x s.nodes)))) at
            ∙ ap (λ (g : ℕ → ℕ). plain_node (is_counted fmt) g (length p) (under 0 p (entries (map_at x s.nodes)))) (let e : (λ (i : ℕ). version_at x s.nodes (p ++ i ∷ [])) ≡ (λ i. version_at x cut_nodes (p ++ i ∷ [])) = λ j i. sym (version-nodes_by w s.nodes last x low (p ++ i ∷ [])) j in e)
            ∙ ap (λ mm. plain_node (is_counted fmt) (λ i. version_at x cut_nodes (p ++ i ∷ [])) (length p) (under 0 p (entries mm))) (sym m));
        rooted = sym same ∙ v.rooted ∙ ap root (sym m);
        room = subst (λ mm. len mm ≤ 2 ^ 63) (sym m) v.room;
      }

  same_step : (x : ℕ) → s.floor < x → x ≤ w → IsStep s.nodes x → IsStep cut_nodes x
  same_step x late low step =
      let here = map-nodes_by w s.nodes last x low in
      let before = map-nodes_by w s.nodes last (x - 1) (omega arith) in
      let stale = stale-nodes_by w s.nodes last x low (versions-before fmt s sound) in
      record {
        fresh = λ p. stand-named_by (is_fresh (entries (map_at (x - 1) s.nodes)) (entries (map_at x s.nodes))) w (written_nodes_at x s.nodes) (written_nodes_at x cut_nodes) (written-nodes_by w s.nodes last x low) step.fresh p ∙ ap (λ b. cond b 1 0) (sym (ap₂ (λ a b. is_fresh (entries a) (entries b) p) before here));
        stale = λ p. stand-named_by (is_fresh (entries (map_at x s.nodes)) (entries (map_at (x - 1) s.nodes))) w (stale_nodes_at x s.nodes) (stale_nodes_at x cut_nodes) stale step.stale p ∙ ap (λ b. cond b 1 0) (sym (ap₂ (λ a b. is_fresh (entries b) (entries a) p) before here));
        stood = All-each_element _ (stale_nodes_at x cut_nodes) (λ n has.
            let k = map-which (named_by w) (stale_nodes_at x s.nodes) n (subst (λ ns. Contains ns n) stale has) in
            let alive = All-of _ (stale_nodes_at x s.nodes) k.0 step.stood k.1 in
            subst (λ z. is_alive (x - 1) z ≡ true) k.2 (still_alive k.0 (x - 1) (omega arith) alive));
      }
    where
      still_alive : (k : NamedNode) (y : ℕ) → y < w → is_alive y k ≡ true → is_alive y (named_by w k) ≡ true
      still_alive k y earlier alive = let is = alive-tells y k alive in alive-so y (named_by w k) is.0 (later (nat_le k.2 w) is.1)
        where
          later : (b : Bool) → y < k.2 → y < cond b k.2 not_stale
          later true lt = lt
          later false lt = let end = last in omega arith

  since_by : (k : NamedNode) → (k.2 ≡ not_stale) ⊎ ((s.floor < k.2) × (k.2 ≤ s.head)) → ((named_by w k).2 ≡ not_stale) ⊎ ((s.floor < (named_by w k).2) × ((named_by w k).2 ≤ w))
  since_by k gone = elim (nat_le k.2 w) as (λ b. nat_le k.2 w ≡ b → (cond b k.2 not_stale ≡ not_stale) ⊎ ((s.floor < cond b k.2 not_stale) × (cond b k.2 not_stale ≤ w))) [
    | false ↦ λ is. inl refl
    | true ↦ λ is. elim gone [ inl none ↦ inl none | inr late ↦ inr (late.0, le_tells k.2 w is) ]
  ] refl

  -- the standing as it was at w is sound
  pub sound-by : IsSound fmt (standing_by w s)
  sound-by =
      let high = sound.head_last in
      let each = sound.root_each in
      let base = sound.base_low in
      record {
        base_low = base;
        floor_low = from;
        head_last = last;
        root_each = omega (arith, length-drop (s.head - w) s.roots);
        floor_nodes = λ p. stand-named_by (λ p. is_node 0 p (entries (map_at s.floor s.nodes))) w (alive_nodes_at s.floor s.nodes) (alive_nodes_at s.floor cut_nodes) (alive-nodes_by w s.nodes last s.floor from) sound.floor_nodes p ∙ ap (λ m. cond (is_node 0 p (entries m)) 1 0) (sym (map-nodes_by w s.nodes last s.floor from));
        floor_root = version-nodes_by w s.nodes last s.floor from [] ∙ sound.floor_root;
        versions = λ x low high. same_version x high _ _ (ap (λ i. slice_index_or s.roots i []) (let e : s.head - x ≡ s.head - w + (w - x) = omega arith in e) ∙ sym (slice-drop s.roots (s.head - w) (w - x))) (sound.versions x low (omega arith));
        steps = λ x late high. same_step x late high (sound.steps x late (omega arith));
        written = All-each_element _ cut_nodes (λ n has.
            let k = map-which (named_by w) (filter (is_written_by w) s.nodes) n has in
            subst (λ (z : NamedNode). z.0.version ≤ w) k.2 (le_tells k.0.0.version w (filter-passes (is_written_by w) s.nodes k.0 k.1)));
        gone = All-each_element _ cut_nodes (λ n has.
            let k = map-which (named_by w) (filter (is_written_by w) s.nodes) n has in
            subst (λ (z : NamedNode). (z.2 ≡ not_stale) ⊎ ((s.floor < z.2) × (z.2 ≤ w))) k.2 (since_by k.0 (All-of _ s.nodes k.0 sound.gone (filter-Contains (is_written_by w) s.nodes k.0 k.1))));
      }
