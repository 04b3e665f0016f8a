-- The named nodes of a sound standing have a spelling.
use Rattle.std.proofs.Common.{◌≡◌, ℕ, ◌-◌, ◌≤◌, true, inl, inr, Contains, arith, ◌<◌, ◌^◌, false, cond, refl, List, [], ◌∷◌, ◌++◌, length, sym, subst}
use Rattle.std.specs.FinMap.{entries}
use Rattle.std.specs.List.{count_by, AllByRecursion}
use Rattle.jf_path.specs.Keys.{IsKey, IsBytes}
use Rattle.jf_path.specs.Names.{IsName}
use Rattle.jf_path.proofs.ListLaws.{All-of}
use Rattle.jf_path.proofs.FilterLaws.{Contains-filter}
use Rattle.jf_model.specs.Nodes.{is_node}
use Rattle.jf_codec.specs.declared.format.Format.{Format}
use Rattle.jf_codec.specs.Spelling.{IsNode}
use Rattle.jf_walk.proofs.NodePaths.{IsPath-is_node}
use Rattle.jf_standing.specs.Named.{NamedNode, is_alive, is_at, alive_nodes_at, map_at, version_at, leaf_entries, AreEntries}
use Rattle.jf_standing.specs.Standing.{Standing}
use Rattle.jf_standing.specs.Sound.{IsSound, IsNodeOf}
use Rattle.jf_standing.proofs.Sinces.{alive-so, version-low, version-before}
use Rattle.jf_standing.proofs.Counts.{count-some}
use Rattle.jf_standing.proofs.Stands.{stands}
use Rattle.jf_standing.proofs.Unmoved.{at-so}
use Rattle.jf_standing.proofs.Lists.{All-each_element}
use Rattle.jf_standing.proofs.Leaves.{IsMap-map_at}
use Rattle.jf_standing.proofs.Checkpoints.{version-at_most}
use Rattle.jf_standing.proofs.Valid.{node-valid}

module _ (fmt : Format) (s : Standing) (sound : IsSound fmt s) where
  -- each node is alive at some version
  alive_somewhere : (n : NamedNode) → Contains s.nodes n → (w : ℕ) × (s.floor ≤ w) × (w ≤ s.head) × (is_alive w n ≡ true)
  alive_somewhere n has =
      let before = version-before fmt s sound n has in
      let low = version-low fmt s sound n has in
      let floor_low = sound.floor_low in
      let last = sound.head_last in
      elim (All-of _ s.nodes n sound.gone has) [
        | inl none ↦ (s.head, floor_low, omega arith, alive-so s.head n low (omega arith))
        | inr late ↦ let up = late.0 in let down = late.1 in (n.2 - 1, omega arith, omega arith, alive-so (n.2 - 1) n (omega arith) (omega arith))
      ]

  -- the version since which a node is stale has 64 bits
  since_fits : (n : NamedNode) → Contains s.nodes n → n.2 < 2 ^ 64
  since_fits n has =
      let last = sound.head_last in
      elim (All-of _ s.nodes n sound.gone has) [ inl none ↦ omega arith | inr late ↦ let down = late.1 in omega arith ]

  -- a node that is alive stands at a path of the map
  alive_node : (w : ℕ) → s.floor ≤ w → w ≤ s.head → (n : NamedNode) → Contains (alive_nodes_at w s.nodes) n → is_node 0 n.0.path (entries (map_at w s.nodes)) ≡ true
  alive_node w low high n has =
      let some = count-some (is_at n.0.path) (alive_nodes_at w s.nodes) n has (at-so n.0.path n refl) in
      elim (is_node 0 n.0.path (entries (map_at w s.nodes))) as (λ b. count_by (is_at n.0.path) (alive_nodes_at w s.nodes) ≡ cond b 1 0 → b ≡ true) [
        | true ↦ λ counted. refl
        | false ↦ λ counted. absurd (omega (arith, some, counted))
      ] (stands fmt s sound w low high n.0.path)

  pub nodes-valid : AreEntries (leaf_entries s.nodes) → ((w : ℕ) → s.floor ≤ w → w ≤ s.head → AllByRecursion (λ (e : List ℕ × List ℕ). length e.1 ≤ 4096) (entries (map_at w s.nodes)))
      → AllByRecursion (λ n. IsName n.0 × IsNode fmt n.1 × (n.2 < 2 ^ 64)) s.nodes
  nodes-valid keys short = All-each_element _ s.nodes (λ n has.
      let a = alive_somewhere n has in
      let w = a.0 in
      let p = n.0.path in
      let here = Contains-filter (is_alive w) s.nodes n has a.3 in
      let is : IsNodeOf fmt w s.nodes n = All-of (IsNodeOf fmt w s.nodes) (alive_nodes_at w s.nodes) n (sound.versions w a.1 a.2).nodes here in
      let room = (sound.versions w a.1 a.2).room in
      let last = sound.head_last in
      let high = a.2 in
      let low = version-low fmt s sound n has in
      let entries_are = IsMap-map_at w s.nodes keys in
      let all = All-each_element (λ (e : List ℕ × List ℕ). IsKey e.0 × IsBytes e.1 × (length e.1 ≤ 4096)) (entries (map_at w s.nodes)) (λ e there. let k = All-of _ (entries (map_at w s.nodes)) e entries_are there in (k.0, k.1, All-of _ (entries (map_at w s.nodes)) e (short w a.1 a.2) there)) in (
        record { version = omega arith; path = IsPath-is_node (map_at w s.nodes) p entries_are (alive_node w a.1 a.2 n here) },
        subst (IsNode fmt) (sym is) (node-valid fmt (map_at w s.nodes) (λ i. version_at w s.nodes (p ++ i ∷ [])) p all (omega arith) (λ i. omega (arith, version-at_most w s.nodes (p ++ i ∷ [])))),
        since_fits n has,
      ))
