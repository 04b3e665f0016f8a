-- After a landing of a map on a sound standing, the nodes alive are those of the new map.
use Rattle.std.proofs.Common.{◌≡◌, false, Contains, ◌+◌, ◌<◌, List, Bool, true, ◌&&◌, refl, sym, ap, ◌∙◌, subst, arith, true≢false, cond, [], ◌∷◌, ◌++◌, length, ℕ, map}
use Rattle.std.specs.FinMap.{entries}
use Rattle.std.specs.List.{IsDistinct}
use Rattle.jf_path.proofs.FilterLaws.{Contains-filter, filter-Contains, filter-passes}
use Rattle.jf_path.proofs.ListLaws.{All-of}
use Rattle.jf_hash.specs.Maps.{Map, IsMap, same_key}
use Rattle.jf_hash.specs.Slots.{Part}
use Rattle.jf_model.specs.Nodes.{is_fresh, Path, fresh, under, is_node, plain_node}
use Rattle.jf_codec.specs.declared.format.Format.{Format}
use Rattle.jf_standing.specs.Named.{NamedNode, alive_nodes_at, not_stale, is_alive, is_at, version_at, map_at, leaf_entries}
use Rattle.jf_standing.specs.Standing.{Standing, is_named, unmarked_node}
use Rattle.jf_standing.specs.Landing.{head_map, written_node, version_after}
use Rattle.jf_standing.specs.Sound.{IsSound, is_counted}
use Rattle.jf_standing.proofs.Marks.{nodes_after_commit, marked-yes, marked-not}
use Rattle.jf_standing.proofs.Placed.{landing, placed}
use Rattle.jf_standing.proofs.Lists.{map-which, one-true}
use Rattle.jf_standing.proofs.Sinces.{alive-tells, alive-so, alive-not, version-low}
use Rattle.jf_standing.proofs.Found.{nodes_after_commit-cases, test_so}
use Rattle.jf_standing.proofs.Written.{names-stale}
use Rattle.jf_standing.proofs.Counts.{count-some, count-which}
use Rattle.jf_standing.proofs.Stands.{stands}
use Rattle.jf_standing.proofs.Unmoved.{at-so, at-tells}
use Rattle.jf_standing.proofs.Freshness.{stale-node, kept-both, listed-fresh, kept-step, same-step, child-node}
use Rattle.jf_standing.proofs.Alive.{version-of, plain_node-same}
use Rattle.jf_standing.proofs.Unique.{few-alive, few-stand}
use Rattle.jf_standing.proofs.Steps.{parts_at}
use Rattle.jf_standing.proofs.LeafMaps.{HasNodes, leaves-map, leaves-apart}

-- a node that stood before the landing and isn't named by it
pub record StandsUnnamed (s : Standing) (m : Map) (n : NamedNode) : Type 0 where
  pub stood : Contains s.nodes n
  pub alive : Contains (alive_nodes_at s.head s.nodes) n
  pub stays : is_fresh (entries m) (entries (head_map s)) n.0.path ≡ false

module _ (fmt : Format) (s : Standing) (m : Map) (sound : IsSound fmt s) (keys : IsMap (head_map s)) (own_keys : IsMap m) (last : s.head + 1 < not_stale) where
  abbrev pub now : List NamedNode
  now = nodes_after_commit (landing fmt s m sound keys own_keys last) s.nodes

  -- a node alive after the landing was kept, or is written by the landing
  pub alive-cases : {P : Type 0} (n : NamedNode) → Contains (alive_nodes_at (s.head + 1) now) n → (StandsUnnamed s m n → P) → ((x : Path × Part) → Contains (fresh (head_map s) m) x → unmarked_node (written_node fmt s m x) ≡ n → P) → P
  alive-cases {P} n has kept written =
      let c = landing fmt s m sound keys own_keys last in
      let n_alive = filter-passes (is_alive (s.head + 1)) now n has in
      nodes_after_commit-cases c s.nodes n (filter-Contains (is_alive (s.head + 1)) now n has)
      (λ k stood same. elim (is_named k.0 c.stale) as (λ b. is_named k.0 c.stale ≡ b → P) [
        | true ↦ λ named. absurd (true≢false (sym n_alive ∙ ap (is_alive (s.head + 1)) (sym same ∙ marked-yes c k named) ∙ alive-not (s.head + 1) (k.0, k.1, s.head + 1) (omega arith)))
        | false ↦ λ free.
            let is_k : k ≡ n = sym (marked-not c k free) ∙ same in
            let up = (alive-tells (s.head + 1) n n_alive).1 in
            let here = subst (λ z. Contains s.nodes z) is_k stood in
            let alive = alive-so s.head n (version-low fmt s sound n here) (omega arith) in
            kept (record {
              stood = here;
              alive = Contains-filter (is_alive s.head) s.nodes n here alive;
              stays = rest (is_alive s.head n) (is_fresh (entries m) (entries (head_map s)) n.0.path) alive (sym (names-stale fmt s m sound keys n here) ∙ ap (λ (z : NamedNode). is_named z.0 c.stale) (sym is_k) ∙ free);
            })
      ] refl)
      (λ y own same.
      let x = map-which (written_node fmt s m) (fresh (head_map s) m) y own in
      written x.0 x.1 (ap unmarked_node x.2 ∙ same))
    where
      rest : (a b : Bool) → a ≡ true → (a && b) ≡ false → b ≡ false
      rest true b is h = h
      rest false b is h = absurd (true≢false (sym is))

  -- a kept node is a node of both maps, with the same part
  kept_part : (n : NamedNode) → StandsUnnamed s m n → (is_node 0 n.0.path (entries m) ≡ true) × (under 0 n.0.path (entries m) ≡ under 0 n.0.path (entries (head_map s))) × (is_node 0 n.0.path (entries (head_map s)) ≡ true)
  kept_part n kept =
      let node = test_so _ _ (stands fmt s sound s.head sound.floor_low (omega arith) n.0.path) (count-some (is_at n.0.path) (alive_nodes_at s.head s.nodes) n kept.alive (at-so n.0.path n refl)) in
      let both = stale-node (entries m) (entries (head_map s)) n.0.path node kept.stays in
      (both.0, both.1, node)

  -- the version at the path of a node of the new map
  pub version-placed : (q : Path) → is_node 0 q (entries m) ≡ true → version_at (s.head + 1) now q ≡ version_after s m q
  version-placed q node =
      let n = count-which (is_at q) (alive_nodes_at (s.head + 1) now) (omega (arith, placed fmt s m sound keys own_keys last q, one-true _ node)) in
      let at = at-tells q n.0 n.2 in
      version-of (s.head + 1) now q n.0 (few-stand (is_node 0 q (entries m)) _ (placed fmt s m sound keys own_keys last q)) n.1 at
      ∙ alive-cases n.0 n.1
      (λ kept.
      let part = kept_part n.0 kept in
      let stays : is_fresh (entries (head_map s)) (entries m) q ≡ false = ap (λ p. is_fresh (entries (head_map s)) (entries m) p) (sym at) ∙ kept-both (entries (head_map s)) (entries m) n.0.0.path part.2 (sym part.1) kept.stays in
      sym (version-of s.head s.nodes q n.0 (few-alive fmt s sound s.head sound.floor_low (omega arith) q) kept.alive at) ∙ ap (λ b. cond b (s.head + 1) (version_at s.head s.nodes q)) (sym stays))
      (λ x has same.
      let fresh_q : is_fresh (entries (head_map s)) (entries m) q ≡ true = ap (λ p. is_fresh (entries (head_map s)) (entries m) p) (sym (ap (λ (z : NamedNode). z.0.path) same ∙ at)) ∙ (listed-fresh (head_map s) m x has).0 in
      sym (ap (λ (z : NamedNode). z.0.version) same) ∙ ap (λ b. cond b (s.head + 1) (version_at s.head s.nodes q)) (sym fresh_q))

  -- each node alive after the landing is the node of the new map at its path
  pub contents : (n : NamedNode) → Contains (alive_nodes_at (s.head + 1) now) n → n.1 ≡ plain_node (is_counted fmt) (λ i. version_after s m (n.0.path ++ i ∷ [])) (length n.0.path) (under 0 n.0.path (entries m))
  contents n has = alive-cases n has
      (λ kept.
      let p = n.0.path in
      let part = kept_part n kept in
      All-of _ (alive_nodes_at s.head s.nodes) n (sound.versions s.head sound.floor_low (omega arith)).nodes kept.alive
      ∙ ap (plain_node (is_counted fmt) (λ i. version_at s.head s.nodes (p ++ i ∷ [])) (length p)) (sym part.1)
      ∙ plain_node-same (is_counted fmt) (λ i. version_at s.head s.nodes (p ++ i ∷ [])) (λ i. version_after s m (p ++ i ∷ [])) (length p) (under 0 p (entries m)) (λ i some.
      let there = child-node (entries (head_map s)) p i part.2 (ap (λ es. parts_at (length p) i es) (sym part.1) ∙ some) in
      ap (λ b. cond b (s.head + 1) (version_at s.head s.nodes (p ++ i ∷ []))) (sym (kept-step (entries (head_map s)) (entries m) p i there (same-step (entries (head_map s)) (entries m) p i (sym part.1))))))
      (λ x here same.
      let is = listed-fresh (head_map s) m x here in
      let at : x.0 ≡ n.0.path = ap (λ (z : NamedNode). z.0.path) same in
      sym (ap (λ (z : NamedNode). z.1) same) ∙ ap (plain_node (is_counted fmt) (λ i. version_after s m (x.0 ++ i ∷ [])) (length x.0)) is.1
      ∙ ap (λ p. plain_node (is_counted fmt) (λ i. version_after s m (p ++ i ∷ [])) (length p) (under 0 p (entries m))) at)

  has_nodes : HasNodes (is_counted fmt) m (alive_nodes_at (s.head + 1) now)
  has_nodes n has = ((λ i. version_after s m (n.0.path ++ i ∷ [])), contents n has)

  -- the map after the landing is the map that was landed
  pub map-placed : map_at (s.head + 1) now ≡ m
  unfolding map_at
  map-placed = leaves-map (is_counted fmt) m (alive_nodes_at (s.head + 1) now) own_keys (placed fmt s m sound keys own_keys last) has_nodes

  pub apart-placed : IsDistinct same_key (map (λ (e : List ℕ × List ℕ). e.0) (leaf_entries (alive_nodes_at (s.head + 1) now)))
  apart-placed = leaves-apart (is_counted fmt) m (alive_nodes_at (s.head + 1) now) own_keys (placed fmt s m sound keys own_keys last) has_nodes
