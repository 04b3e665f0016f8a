-- The maps, versions and soundness of a standing don't depend on the order of its nodes.
use Rattle.std.proofs.Common.{◌≡◌, ℕ, ◌+◌, ◌-◌, ◌<◌, ◌≤◌, ◌^◌, Bool, ◌&&◌, cond, inl, inr, List, [], ◌∷◌, ◌++◌, map, filter, length, Contains, Some, None, refl, sym, ap, ap₂, ◌∙◌, subst, arith}
use Rattle.std.proofs.lemmas.Bool.{cases_lt}
use Rattle.std.proofs.lemmas.List.Sums.{length-filter}
use Rattle.std.proofs.lemmas.List.Sorted.{sum_by-IsPermutation, Contains-permutation, IsPermutation-sym}
use Rattle.std.specs.Prelude.{slice_index_or}
use Rattle.std.specs.List.{IsDistinct, count_by}
use Rattle.std.specs.List.Sorted.{IsPermutation}
use Rattle.std.specs.FinMap as fin
use Rattle.std.specs.FinMap.{entries, from_entries, find, len}
use Rattle.std.specs.Cmp.Lexicographic.{nat_list_cmp_total}
use Rattle.jf_path.specs.Keys.{key_cmp}
use Rattle.jf_hash.proofs.KeyOrder.{same_key-exact}
use Rattle.jf_hash.proofs.MapLaws.{same_map}
use Rattle.jf_hash.specs.Maps.{same_key}
use Rattle.jf_hash.specs.Roots.{root}
use Rattle.jf_model.specs.Nodes.{Path, under, is_node, is_fresh, plain_node}
use Rattle.jf_codec.specs.declared.format.Format.{Format}
use Rattle.jf_path.proofs.ListLaws.{All-of}
use Rattle.jf_path.proofs.FilterLaws.{Contains-filter, filter-Contains, filter-passes}
use Rattle.jf_standing.specs.Named.{NamedNode, is_alive, is_written, is_stale, is_at, alive_nodes_at, stale_nodes_at, version_at, leaf_entries, map_at}
use Rattle.jf_standing.specs.Standing.{Standing, versions_of, with_nodes}
use Rattle.jf_standing.specs.Sound.{is_counted, IsVersion, IsStep, IsSound}
use Rattle.jf_standing.proofs.Lists.{All-each_element}
use Rattle.jf_standing.proofs.Counts.{count-filter, count-which}
use Rattle.jf_standing.proofs.Unmoved.{at-tells}
use Rattle.jf_standing.proofs.Alive.{version-of}
use Rattle.jf_standing.proofs.Unique.{few-alive}
use Rattle.jf_standing.proofs.Ordered.{find-Contains}
use Rattle.jf_standing.proofs.Leaves.{leaf-which, leaf-so}
use Rattle.jf_standing.proofs.LeafMaps.{keys_apart, found_some}
use Rattle.jf_standing.proofs.Distinct.{distinct-find, one-leaf}
use Rattle.jf_standing.proofs.VersionsOf.{same_down}

-- ---- lists with the same elements

module _ {X : Type 0} (xs ys : List X) (moved : IsPermutation xs ys) where
  pub count-moved : (p : X → Bool) → count_by p ys ≡ count_by p xs
  count-moved p = sum_by-IsPermutation (λ x. cond (p x) 1 0) xs ys moved

  pub count-moved_filter : (p q : X → Bool) → count_by p (filter q ys) ≡ count_by p (filter q xs)
  count-moved_filter p q = count-filter p q ys ∙ count-moved (λ x. q x && p x) ∙ sym (count-filter p q xs)

  pub moved-there : (q : X → Bool) (x : X) → Contains (filter q xs) x → Contains (filter q ys) x
  moved-there q x has = Contains-filter q ys x (Contains-permutation xs ys x moved (filter-Contains q xs x has)) (filter-passes q xs x has)

  pub moved-back : (q : X → Bool) (x : X) → Contains (filter q ys) x → Contains (filter q xs) x
  moved-back q x has = Contains-filter q xs x (Contains-permutation ys xs x (IsPermutation-sym xs ys moved) (filter-Contains q ys x has)) (filter-passes q ys x has)

-- an empty list of nodes gives the version 0
no_version : (ns : List NamedNode) → length ns ≡ 0 → slice_index_or (map (λ n. n.0.version) ns) 0 0 ≡ 0
no_version [] none = refl
no_version (n ∷ ns) none = absurd (omega (arith, none))

version_none : (w : ℕ) (ns : List NamedNode) (p : Path) → count_by (is_at p) (alive_nodes_at w ns) ≡ 0 → version_at w ns p ≡ 0
version_none w ns p none = no_version (filter (is_at p) (alive_nodes_at w ns)) (length-filter (is_at p) (alive_nodes_at w ns) ∙ none)

module _ (fmt : Format) (s : Standing) (ns : List NamedNode) (sound : IsSound fmt s) (moved : IsPermutation s.nodes ns) where
  module _ (w : ℕ) (low : s.floor ≤ w) (high : w ≤ s.head) where
    few_moved : (p : Path) → count_by (is_at p) (alive_nodes_at w ns) ≤ 1
    few_moved p = omega (arith, few-alive fmt s sound w low high p, count-moved_filter s.nodes ns moved (is_at p) (is_alive w))

    there : (n : NamedNode) → Contains (alive_nodes_at w s.nodes) n → Contains (alive_nodes_at w ns) n
    there n has = moved-there s.nodes ns moved (is_alive w) n has

    back : (n : NamedNode) → Contains (alive_nodes_at w ns) n → Contains (alive_nodes_at w s.nodes) n
    back n has = moved-back s.nodes ns moved (is_alive w) n has

    apart_moved : IsDistinct same_key (map (λ (e : List ℕ × List ℕ). e.0) (leaf_entries (alive_nodes_at w ns)))
    apart_moved = keys_apart (alive_nodes_at w ns) few_moved (λ a b e f ha hb is_a is_b same. ap (λ (z : NamedNode). z.0.path) (one-leaf (alive_nodes_at w s.nodes) a b e f (sound.versions w low high).one_leaf (back a ha) (back b hb) is_a is_b same))

    leaf_there : (e : List ℕ × List ℕ) → Contains (leaf_entries (alive_nodes_at w s.nodes)) e → Contains (leaf_entries (alive_nodes_at w ns)) e
    leaf_there e has = let n = leaf-which (alive_nodes_at w s.nodes) e has in leaf-so (alive_nodes_at w ns) n.0 e (there n.0 n.1) n.2

    leaf_back : (e : List ℕ × List ℕ) → Contains (leaf_entries (alive_nodes_at w ns)) e → Contains (leaf_entries (alive_nodes_at w s.nodes)) e
    leaf_back e has = let n = leaf-which (alive_nodes_at w ns) e has in leaf-so (alive_nodes_at w s.nodes) n.0 e (back n.0 n.1) n.2

    -- the map is unchanged
    pub map-moved : map_at w ns ≡ map_at w s.nodes
    unfolding map_at
    map-moved = same_map (from_entries (leaf_entries (alive_nodes_at w ns))) (from_entries (leaf_entries (alive_nodes_at w s.nodes))) (λ q.
        let new = leaf_entries (alive_nodes_at w ns) in
        let old = leaf_entries (alive_nodes_at w s.nodes) in
        fin.get-from_entries nat_list_cmp_total new q
        ∙ (elim (find key_cmp q old) as (λ r. find key_cmp q old ≡ r → find key_cmp q new ≡ r) [
          | Some v ↦ λ is. distinct-find new (q, v) apart_moved (leaf_there (q, v) (find-Contains key_cmp nat_list_cmp_total same_key-exact q v old is))
          | None ↦ λ is. elim (find key_cmp q new) as (λ r. find key_cmp q new ≡ r → r ≡ None) [
            | Some v ↦ λ is'. absurd (found_some old (q, v) (leaf_back (q, v) (find-Contains key_cmp nat_list_cmp_total same_key-exact q v new is')) is)
            | None ↦ λ is'. refl
          ] refl
        ] refl)
        ∙ sym (fin.get-from_entries nat_list_cmp_total old q))

    -- the version at each path is unchanged
    pub version-moved : (p : Path) → version_at w ns p ≡ version_at w s.nodes p
    version-moved p =
        let same = count-moved_filter s.nodes ns moved (is_at p) (is_alive w) in
        elim (cases_lt 0 (count_by (is_at p) (alive_nodes_at w s.nodes))) [
          | inl some ↦
              let n = count-which (is_at p) (alive_nodes_at w s.nodes) some in
              let at = at-tells p n.0 n.2 in
              version-of w ns p n.0 (few_moved p) (there n.0 n.1) at ∙ sym (version-of w s.nodes p n.0 (few-alive fmt s sound w low high p) n.1 at)
          | inr none ↦ version_none w ns p (omega (arith, none, same)) ∙ sym (version_none w s.nodes p (omega (arith, none)))
        ]

    version_sound : IsVersion fmt ns w (slice_index_or s.roots (s.head - w) [])
    version_sound =
        let v = sound.versions w low high in
        record {
          one_leaf = apart_moved;
          nodes = All-each_element _ (alive_nodes_at w ns) (λ n has.
              All-of _ (alive_nodes_at w s.nodes) n v.nodes (back n has)
              ∙ ap (λ (g : ℕ → ℕ). plain_node (is_counted fmt) g (length n.0.path) (under 0 n.0.path (entries (map_at w s.nodes)))) (let e : (λ (i : ℕ). version_at w s.nodes (n.0.path ++ i ∷ [])) ≡ (λ i. version_at w ns (n.0.path ++ i ∷ [])) = λ j i. sym (version-moved (n.0.path ++ i ∷ [])) j in e)
              ∙ ap (λ m. plain_node (is_counted fmt) (λ i. version_at w ns (n.0.path ++ i ∷ [])) (length n.0.path) (under 0 n.0.path (entries m))) (sym map-moved));
          rooted = v.rooted ∙ ap root (sym map-moved);
          room = subst (λ m. len m ≤ 2 ^ 63) (sym map-moved) v.room;
        }

  step_sound : (w : ℕ) → s.floor < w → w ≤ s.head → IsStep ns w
  step_sound w late high =
      let step = sound.steps w late high in
      let here = map-moved w (omega arith) high in
      let before = map-moved (w - 1) (omega arith) (omega arith) in
      record {
        fresh = λ p. count-moved_filter s.nodes ns moved (is_at p) (is_written w) ∙ step.fresh p ∙ ap (λ b. cond b 1 0) (sym (ap₂ (λ a b. is_fresh (entries a) (entries b) p) before here));
        stale = λ p. count-moved_filter s.nodes ns moved (is_at p) (is_stale w) ∙ step.stale p ∙ ap (λ b. cond b 1 0) (sym (ap₂ (λ a b. is_fresh (entries b) (entries a) p) before here));
        stood = All-each_element _ (stale_nodes_at w ns) (λ n has. All-of _ (stale_nodes_at w s.nodes) n step.stood (moved-back s.nodes ns moved (is_stale w) n has));
      }

  -- a sound standing with its nodes reordered is sound
  pub moved-sound : IsSound fmt (with_nodes ns s)
  moved-sound = record {
    base_low = sound.base_low;
    floor_low = sound.floor_low;
    head_last = sound.head_last;
    root_each = sound.root_each;
    floor_nodes = λ p. count-moved_filter s.nodes ns moved (is_at p) (is_alive s.floor) ∙ sound.floor_nodes p ∙ ap (λ m. cond (is_node 0 p (entries m)) 1 0) (sym (map-moved s.floor (omega arith) sound.floor_low));
    floor_root = version-moved s.floor (omega arith) sound.floor_low [] ∙ sound.floor_root;
    versions = λ w low high. version_sound w low high;
    steps = step_sound;
    written = All-each_element _ ns (λ n has. All-of _ s.nodes n sound.written (Contains-permutation ns s.nodes n (IsPermutation-sym s.nodes ns moved) has));
    gone = All-each_element _ ns (λ n has. All-of _ s.nodes n sound.gone (Contains-permutation ns s.nodes n (IsPermutation-sym s.nodes ns moved) has));
  }

  -- a standing with its nodes reordered has the same versions
  pub moved-versions : versions_of (with_nodes ns s) ≡ versions_of s
  moved-versions =
      let low = sound.floor_low in
      ap (λ ms. record { base = s.base; floor = s.floor; head = s.head; roots = s.roots; maps = ms })
      (same_down (λ w. map_at w ns) (λ w. map_at w s.nodes) s.head (s.head - s.floor + 1) (λ w up high. map-moved w (omega arith) high))
