-- A landing that leaves a sound standing is a landing of the map after it.
use Rattle.std.specs.Prelude.{slice_index_or}
use Rattle.std.proofs.Common.{◌≡◌, ◌-◌, true, Contains, refl, sym, ap, ◌∙◌, arith, false, inl, inr, [], ◌∷◌, map, ap₂, subst}
use Rattle.std.specs.FinMap.{entries}
use Rattle.jf_path.specs.declared.name.NodeName.{NodeName}
use Rattle.jf_path.proofs.ListLaws.{All-of, Contains-map}
use Rattle.jf_path.proofs.FilterLaws.{Contains-filter, filter-Contains, filter-passes}
use Rattle.jf_path.proofs.BoolLaws.{same_test}
use Rattle.jf_path.proofs.NumberLaws.{same_number, number_tells}
use Rattle.jf_hash.specs.Maps.{Map, IsMap}
use Rattle.jf_hash.specs.Roots.{root}
use Rattle.jf_hash.specs.Slots.{Part}
use Rattle.jf_model.specs.Nodes.{is_fresh, Path, stale}
use Rattle.jf_codec.specs.declared.format.Format.{Format}
use Rattle.jf_payload.specs.declared.records.Commit.{Commit}
use Rattle.jf_standing.specs.Standing.{Standing, with_commit, is_named, marked_node}
use Rattle.jf_standing.specs.Sound.{IsSound}
use Rattle.jf_standing.specs.Taking.{Continues}
use Rattle.jf_standing.specs.Named.{NamedNode, is_alive, is_stale, is_at, stale_nodes_at}
use Rattle.jf_standing.specs.Landing.{head_map, name_at_head, stale_names, landing_of, IsInOrder}
use Rattle.jf_standing.proofs.Found.{landed_map, test_so, stale_stand, nodes_after_commit-cases, few_before, fresh_equal}
use Rattle.jf_standing.proofs.Counts.{count-some, count-which}
use Rattle.jf_standing.proofs.Sinces.{alive-so, version-low}
use Rattle.jf_standing.proofs.Marks.{marked-name, marked-yes, nodes_after_commit, Contains-nodes_after_commit, marked-not}
use Rattle.jf_standing.proofs.Unmoved.{at-so, unmoved, at-tells}
use Rattle.jf_standing.proofs.Lists.{one-true, map-which}
use Rattle.jf_standing.proofs.Alive.{version-of}
use Rattle.jf_standing.proofs.Names.{named-tells, named-so, same_names}
use Rattle.jf_standing.proofs.Freshness.{fresh-listed, listed-fresh}

module _ (fmt : Format) (s : Standing) (c : Commit) (sound : IsSound fmt s) (goes : Continues s c) (behind_sound : IsSound fmt (with_commit c s)) where
  abbrev pub after_map : Map
  after_map = landed_map fmt s c sound goes behind_sound

  -- a node that the landing names was alive, and is stale in the map after it
  pub named_was : (n : NamedNode) → Contains s.nodes n → is_named n.0 c.stale ≡ true → (is_alive s.head n ≡ true) × (is_fresh (entries after_map) (entries (head_map s)) n.0.path ≡ true)
  named_was n has named =
      let next = goes.next in
      let is = marked-yes c n named in
      let low = version-low fmt s sound n has in
      let alive : is_alive s.head (marked_node c n) ≡ true = ap (is_alive s.head) is ∙ alive-so s.head (n.0, n.1, c.version) low (omega arith) in
      let there = Contains-filter (is_stale c.version) (nodes_after_commit c s.nodes) (marked_node c n) (Contains-nodes_after_commit c s.nodes n has) (ap (is_stale c.version) is ∙ same_number c.version c.version refl) in (
        sym (All-of _ s.nodes n (unmoved fmt s c sound goes behind_sound s.head sound.floor_low (omega arith)) has) ∙ alive,
        test_so _ _ (stale_stand fmt s c sound goes behind_sound n.0.path) (count-some (is_at n.0.path) (stale_nodes_at c.version (nodes_after_commit c s.nodes)) (marked_node c n) there (at-so n.0.path (marked_node c n) (ap (λ m. m.path) (marked-name c n)))),
      )

  -- a node that is stale in the map after the landing is named
  stale_is : (p : Path) → is_fresh (entries after_map) (entries (head_map s)) p ≡ true → is_named (name_at_head s p) c.stale ≡ true
  stale_is p is =
      let next = goes.next in
      let last = behind_sound.head_last in
      let n = count-which (is_at p) (stale_nodes_at c.version (nodes_after_commit c s.nodes)) (omega (arith, stale_stand fmt s c sound goes behind_sound p, one-true _ is)) in
      let n_in = filter-Contains (is_stale c.version) (nodes_after_commit c s.nodes) n.0 n.1 in
      let n_stale = number_tells n.0.2 c.version (filter-passes (is_stale c.version) (nodes_after_commit c s.nodes) n.0 n.1) in
      nodes_after_commit-cases c s.nodes n.0 n_in
      (λ m stood same. elim (is_named m.0 c.stale) as (λ b. is_named m.0 c.stale ≡ b → is_named (name_at_head s p) c.stale ≡ true) [
        | true ↦ λ named.
            let alive = (named_was m stood named).0 in
            let at : m.0.path ≡ p = ap (λ k. k.path) (sym (marked-name c m)) ∙ ap (λ (k : NamedNode). k.0.path) same ∙ at-tells p n.0 n.2 in
            let v = version-of s.head s.nodes p m (few_before fmt s c sound goes behind_sound p) (Contains-filter (is_alive s.head) s.nodes m stood alive) at in
            ap (λ k. is_named k c.stale) (ap₂ (λ k q. record { version = k; path = q }) v (sym at)) ∙ named
        | false ↦ λ free. absurd (
            let since : m.2 ≡ c.version = ap (λ (k : NamedNode). k.2) (sym (marked-not c m free) ∙ same) ∙ n_stale in
            elim (All-of _ s.nodes m sound.gone stood) [ inl none ↦ omega arith | inr late ↦ let up = late.1 in omega arith ])
      ] refl)
      (λ x own same. absurd (let since = ap (λ (k : NamedNode). k.2) same ∙ n_stale in omega arith))

  module _ (keys : IsMap (head_map s)) where
    named_same : (name : NodeName) → is_named name c.stale ≡ is_named name (stale_names s after_map)
    named_same name = same_test (is_named name c.stale) (is_named name (stale_names s after_map))
        (λ is.
        let known = named-tells name (map (λ n. n.0) s.nodes) (All-of _ c.stale name goes.stale_known (named-tells name c.stale is)) in
        let n = map-which (λ (n : NamedNode). n.0) s.nodes name known in
        let was = named_was n.0 n.1 (ap (λ k. is_named k c.stale) n.2 ∙ is) in
        let v = version-of s.head s.nodes n.0.0.path n.0 (few_before fmt s c sound goes behind_sound n.0.0.path) (Contains-filter (is_alive s.head) s.nodes n.0 n.1 was.0) refl in
        let it : name_at_head s n.0.0.path ≡ name = ap (λ k. record { version = k; path = n.0.0.path }) v ∙ n.2 in
        named-so name (stale_names s after_map) (subst (λ k. Contains (stale_names s after_map) k) it (Contains-map (λ (x : Path × Part). name_at_head s x.0) (stale (head_map s) after_map) _ (fresh-listed after_map (head_map s) n.0.0.path keys was.1))))
        (λ is.
        let x = map-which (λ (x : Path × Part). name_at_head s x.0) (stale (head_map s) after_map) name (named-tells name (stale_names s after_map) is) in
        sym (ap (λ k. is_named k c.stale) x.2) ∙ stale_is x.0.0 (listed-fresh after_map (head_map s) x.0 x.1).0)

    -- the landing is a landing of the map after it
    pub landing-found : IsMap after_map → IsInOrder c → c ≡ landing_of fmt s after_map
    landing-found own_keys order =
        let next = goes.next in
        let rooted = (behind_sound.versions c.version (let low = sound.floor_low in omega arith) (omega arith)).rooted in
        let none : c.version - c.version ≡ 0 = omega arith in
        let r : c.root ≡ root after_map = sym (ap (λ i. slice_index_or (c.root ∷ s.roots) i []) none) ∙ rooted in
        let f = fresh_equal fmt s c sound goes behind_sound own_keys order.fresh in
        let st = same_names c.stale (stale_names s after_map) order.stale named_same in
        λ i. record { version = next i; root = r i; fresh = f i; stale = st i }
