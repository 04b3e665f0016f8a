-- A landing that leaves a sound standing changes nothing of the versions before it.
use Rattle.std.proofs.Common.{◌≡◌, true, ℕ, ◌+◌, List, length, Contains, ap, ◌∙◌, arith, ◌≤◌, sym, Bool, false, ◌&&◌, map, refl, subst, ap₂}
use Rattle.std.proofs.lemmas.Slice.Eq.{bytes_eq-Decides}
use Rattle.std.specs.FinMap.{entries}
use Rattle.std.specs.List.{count_by, AllByRecursion}
use Rattle.jf_path.proofs.ListLaws.{All-of}
use Rattle.jf_path.proofs.FilterLaws.{Contains-filter, filter-Contains, filter-passes}
use Rattle.jf_path.proofs.BoolLaws.{left_true, right_true}
use Rattle.jf_model.specs.Nodes.{Path, under, is_node}
use Rattle.jf_codec.specs.declared.format.Format.{Format}
use Rattle.jf_payload.specs.declared.records.Commit.{Commit}
use Rattle.jf_standing.specs.Named.{NamedNode, is_at, alive_nodes_at, map_at, is_alive}
use Rattle.jf_standing.specs.Sound.{is_counted, IsVersion, IsSound}
use Rattle.jf_standing.specs.Standing.{Standing, marked_node, with_commit, unmarked_node}
use Rattle.jf_standing.specs.Taking.{Continues}
use Rattle.jf_standing.proofs.Steps.{parts_at, has_child, has_child-plain}
use Rattle.jf_standing.proofs.Lists.{one-true, one, All-each_element}
use Rattle.jf_standing.proofs.Counts.{count-which, count-append, count-filter, count-map, count-same, count-squeeze}
use Rattle.jf_standing.proofs.Stands.{stands}
use Rattle.jf_standing.proofs.Closure.{same_nodes}
use Rattle.jf_standing.proofs.Marks.{marked-name, marked-node, alive-marked, nodes_after_commit, Contains-nodes_after_commit}

-- the path of a node that stands at a path
pub at-tells : (p : Path) (n : NamedNode) → is_at p n ≡ true → n.0.path ≡ p
at-tells p n is = (bytes_eq-Decides n.0.path p).0 is

pub at-so : (p : Path) (n : NamedNode) → n.0.path ≡ p → is_at p n ≡ true
at-so p n is = (bytes_eq-Decides n.0.path p).1 is

-- a node alive at a version names exactly the children that it has in the map
pub node-tells : (fmt : Format) (ns : List NamedNode) (w : ℕ) (r : List ℕ) → IsVersion fmt ns w r → (n : NamedNode) → Contains (alive_nodes_at w ns) n → (q : Path) → n.0.path ≡ q → (i : ℕ) → has_child i n.1 ≡ parts_at (0 + length q) i (under 0 q (entries (map_at w ns)))
node-tells fmt ns w r version n has q at i =
    ap (has_child i) (All-of _ (alive_nodes_at w ns) n version.nodes has) ∙ has_child-plain (is_counted fmt) _ (length n.0.path) (under 0 n.0.path (entries (map_at w ns))) i
    ∙ ap (λ p. parts_at (length p) i (under 0 p (entries (map_at w ns)))) at ∙ ap (λ k. parts_at k i (under 0 q (entries (map_at w ns)))) (let e : length q ≡ 0 + length q = omega arith in e)

-- if the map has a node at a path, a node is alive there
pub alive-there : (fmt : Format) (s : Standing) → IsSound fmt s → (w : ℕ) → s.floor ≤ w → w ≤ s.head → (q : Path) → is_node 0 q (entries (map_at w s.nodes)) ≡ true → (n : NamedNode) × Contains (alive_nodes_at w s.nodes) n × (n.0.path ≡ q)
alive-there fmt s sound w low high q node =
    let counted = stands fmt s sound w low high q in
    let which = count-which (is_at q) (alive_nodes_at w s.nodes) (omega (arith, counted, one-true (is_node 0 q (entries (map_at w s.nodes))) node)) in
    (which.0, which.1, at-tells q which.0 which.2)

module _ (fmt : Format) (s : Standing) (c : Commit) (sound : IsSound fmt s) (goes : Continues s c) (behind_sound : IsSound fmt (with_commit c s)) where
  -- at each earlier version, the nodes of the map after the landing are nodes of the map before it
  old_nodes : (w : ℕ) → s.floor ≤ w → w ≤ s.head → (p : Path) → is_node 0 p (entries (map_at w (nodes_after_commit c s.nodes))) ≡ true → is_node 0 p (entries (map_at w s.nodes)) ≡ true
  old_nodes w low high = same_nodes (entries (map_at w s.nodes)) (entries (map_at w (nodes_after_commit c s.nodes))) (λ q i here there below.
      let n = alive-there fmt s sound w low high q here in
      let stood = filter-Contains (is_alive w) s.nodes n.0 n.1 in
      let alive = alive-marked c w n.0 (let next = goes.next in omega arith) (filter-passes (is_alive w) s.nodes n.0 n.1) in
      let stands_yet = Contains-filter (is_alive w) (nodes_after_commit c s.nodes) (marked_node c n.0) (Contains-nodes_after_commit c s.nodes n.0 stood) alive in
      let next = goes.next in
      sym (node-tells fmt s.nodes w _ (sound.versions w low high) n.0 n.1 q n.2 i)
      ∙ ap (has_child i) (sym (marked-node c n.0))
      ∙ node-tells fmt (nodes_after_commit c s.nodes) w _ (behind_sound.versions w low (omega arith)) (marked_node c n.0) stands_yet q (ap (λ m. m.path) (marked-name c n.0) ∙ n.2) i
      ∙ below)

  few_after : (w : ℕ) → s.floor ≤ w → w ≤ s.head → (p : Path) → count_by (λ n. is_alive w (marked_node c n) && is_at p n) s.nodes ≤ count_by (λ n. is_alive w n && is_at p n) s.nodes
  few_after w low high p =
      let next = goes.next in
      let there = stands fmt (with_commit c s) behind_sound w low (omega arith) p in
      let here = stands fmt s sound w low high p in
      let kept = count-map (λ n. is_alive w n && is_at p n) (marked_node c) s.nodes in
      let same = count-same (λ n. is_alive w (marked_node c n) && is_at p (marked_node c n)) (λ n. is_alive w (marked_node c n) && is_at p n) s.nodes (All-each_element _ s.nodes (λ n has. ap (λ x. is_alive w (marked_node c n) && is_at p (x, n.1, 0)) (marked-name c n))) in
      omega (
        arith,
        there,
        here,
        kept,
        same,
        count-filter (is_at p) (is_alive w) (nodes_after_commit c s.nodes),
        count-filter (is_at p) (is_alive w) s.nodes,
        count-append (λ n. is_alive w n && is_at p n) (map (marked_node c) s.nodes) (map unmarked_node c.fresh),
        implied (is_node 0 p (entries (map_at w (nodes_after_commit c s.nodes)))) (is_node 0 p (entries (map_at w s.nodes))) (old_nodes w low high p),
      )
    where
      implied : (a b : Bool) → (a ≡ true → b ≡ true) → one a ≤ one b
      implied true b h = subst (λ c. 1 ≤ one c) (sym (h refl)) (omega arith)
      implied false b h = omega arith

  -- the landing changes no node's being alive at an earlier version
  pub unmoved : (w : ℕ) → s.floor ≤ w → w ≤ s.head → AllByRecursion (λ n. is_alive w (marked_node c n) ≡ is_alive w n) s.nodes
  unmoved w low high = All-each_element _ s.nodes (λ n has.
      let p = n.0.path in
      let next = goes.next in
      let at = at-so p n refl in
      let squeezed = count-squeeze (λ n. is_alive w n && is_at p n) (λ n. is_alive w (marked_node c n) && is_at p n) s.nodes
      (All-each_element _ s.nodes (λ m there is. ap₂ (λ a b. a && b) (alive-marked c w m (omega arith) (left_true _ _ is)) (right_true (is_alive w m) _ is)))
      (few_after w low high p) in
      sym (alone (is_alive w (marked_node c n)) (is_at p n) at) ∙ All-of _ s.nodes n squeezed has ∙ alone (is_alive w n) (is_at p n) at)
    where
      alone : (a b : Bool) → b ≡ true → (a && b) ≡ a
      alone true b is = is
      alone false b is = refl
