-- A landing that leaves a sound standing has written exactly what a landing of the map after it writes.
use Rattle.std.specs.Prelude.{IsTrue}
use Rattle.std.proofs.Common.{◌≡◌, ◌-◌, inl, inr, List, map, Contains, ℕ, ◌≤◌, Bool, true, false, cond, refl, arith, ap, ◌∙◌, subst, sym, ◌+◌, true≢false, [], ◌∷◌, ◌++◌, length, ap₂}
use Rattle.std.proofs.lemmas.List.Elements.{Contains-append_cases, Contains-append_right}
use Rattle.std.specs.FinMap.{entries}
use Rattle.std.specs.List.{count_by}
use Rattle.jf_path.specs.declared.name.NodeName.{NodeName}
use Rattle.jf_path.specs.declared.node.PlainNode.{PlainNode}
use Rattle.jf_path.specs.Names.{name_cmp, are_rising}
use Rattle.jf_path.specs.NameLaws.{name_cmp_total}
use Rattle.jf_path.proofs.FilterLaws.{Contains-filter, filter-Contains, filter-passes}
use Rattle.jf_path.proofs.ListLaws.{All-of, Contains-map}
use Rattle.jf_path.proofs.NumberLaws.{same_number, number_tells}
use Rattle.jf_hash.specs.Maps.{Map, IsMap}
use Rattle.jf_model.specs.Nodes.{is_fresh, Path, is_node, under, fresh}
use Rattle.jf_codec.specs.declared.format.Format.{Format}
use Rattle.jf_payload.specs.declared.records.Commit.{Commit}
use Rattle.jf_walk.proofs.FreshOrder.{sorted-fresh}
use Rattle.jf_standing.specs.Named.{NamedNode, map_at, written_nodes_at, stale_nodes_at, is_at, alive_nodes_at, is_alive, is_written, version_at}
use Rattle.jf_standing.specs.Standing.{marked_node, unmarked_node, Standing, with_commit, is_named}
use Rattle.jf_standing.specs.Sound.{IsSound, IsStep, StandAt, is_counted}
use Rattle.jf_standing.specs.Taking.{Continues}
use Rattle.jf_standing.specs.Landing.{head_map, version_after, written_node}
use Rattle.jf_standing.proofs.Lists.{map-which, one-true}
use Rattle.jf_standing.proofs.Marks.{nodes_after_commit, map-nodes_after_commit, marked-name, marked-yes, marked-not}
use Rattle.jf_standing.proofs.Unmoved.{unmoved, at-tells, at-so, alive-there}
use Rattle.jf_standing.proofs.Unique.{few-alive}
use Rattle.jf_standing.proofs.Sinces.{alive-so, version-low, alive-tells, alive-not}
use Rattle.jf_standing.proofs.Counts.{count-some, count-which}
use Rattle.jf_standing.proofs.Alive.{version-of, plain_node-same}
use Rattle.jf_standing.proofs.Ordered.{same_sorted}
use Rattle.jf_standing.proofs.Names.{same_name-exact, are_rising-sorted}
use Rattle.jf_standing.proofs.Freshness.{fresh-node, child-node, fresh-listed, listed-fresh, sorted-written}

-- a node after a landing stood before, or is written by the landing
pub nodes_after_commit-cases : {P : Type 0} (c : Commit) (ns : List NamedNode) (n : NamedNode) → Contains (nodes_after_commit c ns) n → ((m : NamedNode) → Contains ns m → marked_node c m ≡ n → P) → ((x : NodeName × PlainNode) → Contains c.fresh x → unmarked_node x ≡ n → P) → P
nodes_after_commit-cases c ns n has stood own = elim (Contains-append_cases (map (marked_node c) ns) (map unmarked_node c.fresh) n has) [
  | inl left ↦ let m = map-which (marked_node c) ns n left in stood m.0 m.1 m.2
  | inr right ↦ let x = map-which unmarked_node c.fresh n right in own x.0 x.1 x.2
]

pub test_so : (test : Bool) (n : ℕ) → n ≡ cond test 1 0 → 1 ≤ n → test ≡ true
test_so true n is some = refl
test_so false n is some = absurd (omega (arith, is, some))

module _ (fmt : Format) (s : Standing) (c : Commit) (sound : IsSound fmt s) (goes : Continues s c) (behind_sound : IsSound fmt (with_commit c s)) where
  -- the map after the landing
  abbrev pub landed_map : Map
  landed_map = map_at c.version (nodes_after_commit c s.nodes)

  step : IsStep (nodes_after_commit c s.nodes) c.version
  step = behind_sound.steps c.version (let next = goes.next in let low = sound.floor_low in omega arith) (omega arith)

  pub map_before : map_at (c.version - 1) (nodes_after_commit c s.nodes) ≡ head_map s
  map_before =
      ap (λ v. map_at v (nodes_after_commit c s.nodes)) (let next = goes.next in let e : c.version - 1 ≡ s.head = omega arith in e)
      ∙ map-nodes_after_commit c s.head s.nodes (let next = goes.next in omega arith) goes.fresh_own (unmoved fmt s c sound goes behind_sound s.head sound.floor_low (omega arith))

  pub fresh_stand : StandAt (is_fresh (entries (head_map s)) (entries landed_map)) (written_nodes_at c.version (nodes_after_commit c s.nodes))
  fresh_stand = subst (λ m. StandAt (is_fresh (entries m) (entries landed_map)) (written_nodes_at c.version (nodes_after_commit c s.nodes))) map_before step.fresh

  pub stale_stand : StandAt (is_fresh (entries landed_map) (entries (head_map s))) (stale_nodes_at c.version (nodes_after_commit c s.nodes))
  stale_stand = subst (λ m. StandAt (is_fresh (entries landed_map) (entries m)) (stale_nodes_at c.version (nodes_after_commit c s.nodes))) map_before step.stale

  pub few : (q : Path) → count_by (is_at q) (alive_nodes_at c.version (nodes_after_commit c s.nodes)) ≤ 1
  few q = few-alive fmt (with_commit c s) behind_sound c.version (let next = goes.next in let low = sound.floor_low in omega arith) (omega arith) q

  pub few_before : (q : Path) → count_by (is_at q) (alive_nodes_at s.head s.nodes) ≤ 1
  few_before q = few-alive fmt s sound s.head sound.floor_low (omega arith) q

  -- a node that the landing writes is alive after it
  written_alive : (n : NamedNode) → Contains (nodes_after_commit c s.nodes) n → n.0.version ≡ c.version → Contains (alive_nodes_at c.version (nodes_after_commit c s.nodes)) n
  written_alive n has at = nodes_after_commit-cases c s.nodes n has
      (λ m stood is. absurd (let low = version-low fmt s sound m stood in let same = ap (λ (k : NodeName). k.version) (sym (marked-name c m) ∙ ap (λ (k : NamedNode). k.0) is) in let next = goes.next in omega arith))
      (λ x own is. Contains-filter (is_alive c.version) (nodes_after_commit c s.nodes) n has (ap (is_alive c.version) (sym is) ∙ alive-so c.version (unmarked_node x) (let v = ap (λ (k : NamedNode). k.0.version) is in omega arith) behind_sound.head_last))

  pub version_found : (q : Path) → is_node 0 q (entries landed_map) ≡ true → version_at c.version (nodes_after_commit c s.nodes) q ≡ version_after s landed_map q
  version_found q node =
      let next = goes.next in
      let low = sound.floor_low in
      let n = alive-there fmt (with_commit c s) behind_sound c.version (omega arith) (omega arith) q node in
      let n_in = filter-Contains (is_alive c.version) (nodes_after_commit c s.nodes) n.0 n.1 in
      let n_alive = filter-passes (is_alive c.version) (nodes_after_commit c s.nodes) n.0 n.1 in
      elim (is_fresh (entries (head_map s)) (entries landed_map) q) as (λ b. is_fresh (entries (head_map s)) (entries landed_map) q ≡ b → version_at c.version (nodes_after_commit c s.nodes) q ≡ cond b (s.head + 1) (version_at s.head s.nodes q)) [
        | true ↦ λ is.
            let m = count-which (is_at q) (written_nodes_at c.version (nodes_after_commit c s.nodes)) (omega (arith, fresh_stand q, one-true _ is)) in
            let m_in = filter-Contains (is_written c.version) (nodes_after_commit c s.nodes) m.0 m.1 in
            let m_at = number_tells m.0.0.version c.version (filter-passes (is_written c.version) (nodes_after_commit c s.nodes) m.0 m.1) in
            version-of c.version (nodes_after_commit c s.nodes) q m.0 (few q) (written_alive m.0 m_in m_at) (at-tells q m.0 m.2) ∙ m_at ∙ next
        | false ↦ λ is. version-of c.version (nodes_after_commit c s.nodes) q n.0 (few q) n.1 n.2 ∙ nodes_after_commit-cases c s.nodes n.0 n_in
            (λ m stood same. elim (is_named m.0 c.stale) as (λ b. is_named m.0 c.stale ≡ b → n.0.0.version ≡ version_at s.head s.nodes q) [
              | true ↦ λ named. absurd (true≢false (sym n_alive ∙ ap (is_alive c.version) (sym same ∙ marked-yes c m named) ∙ alive-not c.version (m.0, m.1, c.version) (omega arith)))
              | false ↦ λ free.
                  let is_m : n.0 ≡ m = sym same ∙ marked-not c m free in
                  let tells = alive-tells c.version m (ap (is_alive c.version) (sym is_m) ∙ n_alive) in
                  let alive = Contains-filter (is_alive s.head) s.nodes m stood (alive-so s.head m (version-low fmt s sound m stood) (let up = tells.1 in omega arith)) in
                  ap (λ (k : NamedNode). k.0.version) is_m ∙ sym (version-of s.head s.nodes q m (few_before q) alive (ap (λ (k : NamedNode). k.0.path) (sym is_m) ∙ n.2))
            ] refl)
            (λ x own same. absurd (
            let v : n.0.0.version ≡ c.version = ap (λ (k : NamedNode). k.0.version) (sym same) ∙ All-of (λ x. x.0.version ≡ c.version) c.fresh x goes.fresh_own own in
            let there = Contains-filter (is_written c.version) (nodes_after_commit c s.nodes) n.0 n_in (same_number n.0.0.version c.version v) in
            true≢false (sym (test_so _ _ (fresh_stand q) (count-some (is_at q) (written_nodes_at c.version (nodes_after_commit c s.nodes)) n.0 there (at-so q n.0 n.2))) ∙ is)))
      ] refl

  -- each node that the landing writes is the one that a landing of the map after it writes there
  pub fresh_found : (x : NodeName × PlainNode) → Contains c.fresh x → (is_fresh (entries (head_map s)) (entries landed_map) x.0.path ≡ true) × (x ≡ written_node fmt s landed_map (x.0.path, under 0 x.0.path (entries landed_map)))
  fresh_found x has =
      let p = x.0.path in
      let next = goes.next in
      let low = sound.floor_low in
      let v = All-of (λ x. x.0.version ≡ c.version) c.fresh x goes.fresh_own has in
      let stood = Contains-append_right (map (marked_node c) s.nodes) (map unmarked_node c.fresh) (unmarked_node x) (Contains-map unmarked_node c.fresh x has) in
      let there = Contains-filter (is_written c.version) (nodes_after_commit c s.nodes) (unmarked_node x) stood (same_number x.0.version c.version v) in
      let is = test_so _ _ (fresh_stand p) (count-some (is_at p) (written_nodes_at c.version (nodes_after_commit c s.nodes)) (unmarked_node x) there (at-so p (unmarked_node x) refl)) in
      let node = fresh-node (entries (head_map s)) (entries landed_map) p is in
      let content = All-of _ (alive_nodes_at c.version (nodes_after_commit c s.nodes)) (unmarked_node x) (behind_sound.versions c.version (omega arith) (omega arith)).nodes (written_alive (unmarked_node x) stood v) in (
        is,
        ap₂ (λ k y. (record { version = k; path = p }, y)) (v ∙ next)
            (content ∙ plain_node-same (is_counted fmt) (λ i. version_at c.version (nodes_after_commit c s.nodes) (p ++ i ∷ [])) (λ i. version_after s landed_map (p ++ i ∷ [])) (length p) (under 0 p (entries landed_map)) (λ i some. version_found (p ++ i ∷ []) (child-node (entries landed_map) p i node some))),
      )

  module _ (own_keys : IsMap landed_map) (fresh_rise : IsTrue (are_rising (map (λ x. x.0) c.fresh))) where
    pub fresh_equal : c.fresh ≡ map (written_node fmt s landed_map) (fresh (head_map s) landed_map)
    fresh_equal = same_sorted name_cmp name_cmp_total same_name-exact c.fresh (map (written_node fmt s landed_map) (fresh (head_map s) landed_map))
        (are_rising-sorted c.fresh fresh_rise)
        (sorted-written fmt s landed_map (fresh (head_map s) landed_map) (sorted-fresh (head_map s) landed_map))
        (λ x has.
        let found = fresh_found x has in
        subst (λ y. Contains (map (written_node fmt s landed_map) (fresh (head_map s) landed_map)) y) (sym found.1) (Contains-map (written_node fmt s landed_map) (fresh (head_map s) landed_map) _ (fresh-listed (head_map s) landed_map x.0.path own_keys found.0)))
        (λ y has.
        let x = map-which (written_node fmt s landed_map) (fresh (head_map s) landed_map) y has in
        let is = listed-fresh (head_map s) landed_map x.0 x.1 in
        let n = count-which (is_at x.0.0) (written_nodes_at c.version (nodes_after_commit c s.nodes)) (omega (arith, fresh_stand x.0.0, one-true _ is.0)) in
        let n_in = filter-Contains (is_written c.version) (nodes_after_commit c s.nodes) n.0 n.1 in
        let n_at = number_tells n.0.0.version c.version (filter-passes (is_written c.version) (nodes_after_commit c s.nodes) n.0 n.1) in
        nodes_after_commit-cases c s.nodes n.0 n_in
        (λ m stood same. absurd (let up = version-low fmt s sound m stood in let v = ap (λ (k : NodeName). k.version) (sym (marked-name c m) ∙ ap (λ (k : NamedNode). k.0) same) in let next = goes.next in omega arith))
        (λ z own same.
        let at : z.0.path ≡ x.0.0 = ap (λ (k : NamedNode). k.0.path) same ∙ at-tells x.0.0 n.0 n.2 in
        let z_is : z ≡ y = (fresh_found z own).1 ∙ ap (λ p. written_node fmt s landed_map (p, under 0 p (entries landed_map))) at ∙ ap (λ part. written_node fmt s landed_map (x.0.0, part)) (sym is.1) ∙ x.2 in
        subst (λ e. Contains c.fresh e) z_is own))
