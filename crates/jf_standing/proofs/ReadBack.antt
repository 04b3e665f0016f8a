-- The batch that is read off a sound landing leads to the map after it.
use Rattle.std.proofs.Common.{ℕ, List, ◌≡◌, true, false, map, Contains, Some, refl, sym, ap, ◌∙◌, arith, true≢false, ◌<◌, inl, inr, None, filter, ◌++◌}
use Rattle.std.proofs.lemmas.List.Elements.{Contains-append_right}
use Rattle.std.specs.Cmp.Lexicographic.{nat_list_cmp_total}
use Rattle.std.specs.FinMap.{find, from_entries}
use Rattle.std.specs.FinMap as fin
use Rattle.jf_path.specs.Keys.{key_cmp}
use Rattle.jf_path.proofs.FilterLaws.{Contains-filter, filter-Contains, filter-passes}
use Rattle.jf_path.proofs.ListLaws.{Contains-map, All-of}
use Rattle.jf_hash.specs.Maps.{apply}
use Rattle.jf_hash.proofs.KeyOrder.{same_key-exact}
use Rattle.jf_hash.proofs.MapLaws.{value_after, same_map, get-apply-sorted}
use Rattle.jf_codec.specs.declared.format.Format.{Format}
use Rattle.jf_payload.specs.declared.records.Commit.{Commit}
use Rattle.jf_standing.specs.Named.{alive_nodes_at, leaf_entries, NamedNode, is_alive, leaf_entry, map_at}
use Rattle.jf_standing.specs.Standing.{Standing, with_commit, is_named, unmarked_node, marked_node}
use Rattle.jf_standing.specs.Sound.{IsSound}
use Rattle.jf_standing.specs.Taking.{Continues}
use Rattle.jf_standing.specs.Landing.{fresh_leaves, stale_leaves, batch_of, head_map}
use Rattle.jf_standing.proofs.Marks.{nodes_after_commit, marked-yes, marked-not, Contains-nodes_after_commit}
use Rattle.jf_standing.proofs.Sinces.{alive-tells, alive-so, alive-not, version-low}
use Rattle.jf_standing.proofs.Found.{nodes_after_commit-cases}
use Rattle.jf_standing.proofs.Leaves.{leaf-which, leaf-so}
use Rattle.jf_standing.proofs.Lists.{map-which}
use Rattle.jf_standing.proofs.Distinct.{distinct-find, one-leaf}
use Rattle.jf_standing.proofs.Ordered.{find-Contains}
use Rattle.jf_standing.proofs.LeafMaps.{found_some}
use Rattle.jf_standing.proofs.Landed.{named_was}
use Rattle.jf_standing.proofs.Batches.{said-put, said-removal, said-nothing, sorted-by_key, puts_of, removals_of}

module _ (fmt : Format) (s : Standing) (c : Commit) (sound : IsSound fmt s) (goes : Continues s c) (behind_sound : IsSound fmt (with_commit c s)) where
  abbrev new_leaves : List (List ℕ × List ℕ)
  new_leaves = leaf_entries (alive_nodes_at c.version (nodes_after_commit c s.nodes))

  abbrev old_leaves : List (List ℕ × List ℕ)
  old_leaves = leaf_entries (alive_nodes_at s.head s.nodes)

  -- a leaf after the landing is written by it, or stood before and isn't named
  leaf_cases : {P : Type 0} (e : List ℕ × List ℕ) → Contains new_leaves e → (Contains (fresh_leaves c) e → P) → ((k : NamedNode) → Contains s.nodes k → is_named k.0 c.stale ≡ false → Contains (alive_nodes_at s.head s.nodes) k → leaf_entry k.1 ≡ Some e → P) → P
  leaf_cases {P} e has fresh old =
      let n = leaf-which (alive_nodes_at c.version (nodes_after_commit c s.nodes)) e has in
      let alive = filter-passes (is_alive c.version) (nodes_after_commit c s.nodes) n.0 n.1 in
      nodes_after_commit-cases c s.nodes n.0 (filter-Contains (is_alive c.version) (nodes_after_commit c s.nodes) n.0 n.1)
      (λ k stood same. elim (is_named k.0 c.stale) as (λ b. is_named k.0 c.stale ≡ b → P) [
        | true ↦ λ named. absurd (true≢false (sym alive ∙ ap (is_alive c.version) (sym same ∙ marked-yes c k named) ∙ alive-not c.version (k.0, k.1, c.version) (omega arith)))
        | false ↦ λ free.
            let is_k : n.0 ≡ k = sym same ∙ marked-not c k free in
            let up = (alive-tells c.version k (ap (is_alive c.version) (sym is_k) ∙ alive)).1 in
            let next = goes.next in
            old k stood free (Contains-filter (is_alive s.head) s.nodes k stood (alive-so s.head k (version-low fmt s sound k stood) (omega arith))) (ap (λ (z : NamedNode). leaf_entry z.1) (sym is_k) ∙ n.2)
      ] refl)
      (λ x own same. fresh (leaf-so (map unmarked_node c.fresh) (unmarked_node x) e (Contains-map unmarked_node c.fresh x own) (ap (λ (z : NamedNode). leaf_entry z.1) same ∙ n.2)))

  -- a leaf that the landing writes is a leaf after it
  fresh_there : (e : List ℕ × List ℕ) → Contains (fresh_leaves c) e → Contains new_leaves e
  fresh_there e has =
      let n = leaf-which (map unmarked_node c.fresh) e has in
      let x = map-which unmarked_node c.fresh n.0 n.1 in
      let v = All-of (λ x. x.0.version ≡ c.version) c.fresh x.0 goes.fresh_own x.1 in
      let alive : is_alive c.version n.0 ≡ true = ap (is_alive c.version) (sym x.2) ∙ alive-so c.version (unmarked_node x.0) (omega arith) behind_sound.head_last in
      leaf-so (alive_nodes_at c.version (nodes_after_commit c s.nodes)) n.0 e (Contains-filter (is_alive c.version) (nodes_after_commit c s.nodes) n.0 (Contains-append_right (map (marked_node c) s.nodes) (map unmarked_node c.fresh) n.0 n.1) alive) n.2

  -- a leaf that stood before and isn't named is a leaf after the landing
  old_there : (k : NamedNode) (e : List ℕ × List ℕ) → Contains (alive_nodes_at s.head s.nodes) k → is_named k.0 c.stale ≡ false → leaf_entry k.1 ≡ Some e → Contains new_leaves e
  old_there k e has free is =
      let stood = filter-Contains (is_alive s.head) s.nodes k has in
      let tells = alive-tells s.head k (filter-passes (is_alive s.head) s.nodes k has) in
      let same = marked-not c k free in
      let next = goes.next in
      let last = behind_sound.head_last in
      let up : c.version < k.2 = elim (All-of _ s.nodes k sound.gone stood) [ inl none ↦ omega arith | inr late ↦ absurd (let a = late.1 in let b = tells.1 in omega arith) ] in
      leaf-so (alive_nodes_at c.version (nodes_after_commit c s.nodes)) (marked_node c k) e
      (Contains-filter (is_alive c.version) (nodes_after_commit c s.nodes) (marked_node c k) (Contains-nodes_after_commit c s.nodes k stood) (ap (is_alive c.version) same ∙ alive-so c.version k (let low = tells.0 in omega arith) up))
      (ap (λ (z : NamedNode). leaf_entry z.1) same ∙ is)

  found : (q : List ℕ) (v : List ℕ) → Contains new_leaves (q, v) → find key_cmp q new_leaves ≡ Some v
  found q v has = distinct-find new_leaves (q, v) (behind_sound.versions c.version (let next = goes.next in let low = sound.floor_low in omega arith) (omega arith)).one_leaf has

  absent : (q : List ℕ) → ((v : List ℕ) → Contains new_leaves (q, v) → ⊥) → find key_cmp q new_leaves ≡ None
  absent q none = elim (find key_cmp q new_leaves) as (λ r. find key_cmp q new_leaves ≡ r → r ≡ None) [
    | Some v ↦ λ is. absurd (none v (find-Contains key_cmp nat_list_cmp_total same_key-exact q v new_leaves is))
    | None ↦ λ is. refl
  ] refl

  not_fresh : (q v : List ℕ) → find key_cmp q (fresh_leaves c) ≡ None → Contains (fresh_leaves c) (q, v) → ⊥
  not_fresh q v none has = found_some (fresh_leaves c) (q, v) has none

  said : (q : List ℕ) → find key_cmp q new_leaves ≡ value_after (find key_cmp q (batch_of s c)) (find key_cmp q old_leaves)
  said q = elim (find key_cmp q (fresh_leaves c)) as (λ r. find key_cmp q (fresh_leaves c) ≡ r → find key_cmp q new_leaves ≡ value_after (find key_cmp q (batch_of s c)) (find key_cmp q old_leaves)) [
    | Some v ↦ λ is. found q v (fresh_there (q, v) (find-Contains key_cmp nat_list_cmp_total same_key-exact q v (fresh_leaves c) is)) ∙ ap (λ o. value_after o (find key_cmp q old_leaves)) (sym (said-put q v (fresh_leaves c) (stale_leaves s c) is))
    | None ↦ λ is. elim (find key_cmp q (stale_leaves s c)) as (λ r. find key_cmp q (stale_leaves s c) ≡ r → find key_cmp q new_leaves ≡ value_after (find key_cmp q (batch_of s c)) (find key_cmp q old_leaves)) [
      | Some w ↦ λ gone.
          let n = leaf-which (filter (λ n. is_named n.0 c.stale) s.nodes) (q, w) (find-Contains key_cmp nat_list_cmp_total same_key-exact q w (stale_leaves s c) gone) in
          let stood = filter-Contains (λ n. is_named n.0 c.stale) s.nodes n.0 n.1 in
          let named = filter-passes (λ n. is_named n.0 c.stale) s.nodes n.0 n.1 in
          let alive = Contains-filter (is_alive s.head) s.nodes n.0 stood (named_was fmt s c sound goes behind_sound n.0 stood named).0 in
          absent q (λ v there. leaf_cases (q, v) there (not_fresh q v is) (λ k in_s free here leaf.
          let same = one-leaf (alive_nodes_at s.head s.nodes) n.0 k (q, w) (q, v) (sound.versions s.head sound.floor_low (omega arith)).one_leaf alive here n.2 leaf refl in
          true≢false (sym named ∙ ap (λ (z : NamedNode). is_named z.0 c.stale) same ∙ free)))
          ∙ ap (λ o. value_after o (find key_cmp q old_leaves)) (sym (said-removal q w (fresh_leaves c) (stale_leaves s c) is gone))
      | None ↦ λ stays.
          (elim (find key_cmp q old_leaves) as (λ r. find key_cmp q old_leaves ≡ r → find key_cmp q new_leaves ≡ r) [
            | Some v ↦ λ was.
                let k = leaf-which (alive_nodes_at s.head s.nodes) (q, v) (find-Contains key_cmp nat_list_cmp_total same_key-exact q v old_leaves was) in
                found q v (elim (is_named k.0.0 c.stale) as (λ b. is_named k.0.0 c.stale ≡ b → Contains new_leaves (q, v)) [
                  | true ↦ λ named. absurd (found_some (stale_leaves s c) (q, v) (leaf-so (filter (λ n. is_named n.0 c.stale) s.nodes) k.0 (q, v) (Contains-filter (λ n. is_named n.0 c.stale) s.nodes k.0 (filter-Contains (is_alive s.head) s.nodes k.0 k.1) named) k.2) stays)
                  | false ↦ λ free. old_there k.0 (q, v) k.1 free k.2
                ] refl)
            | None ↦ λ was. absent q (λ v there. leaf_cases (q, v) there (not_fresh q v is) (λ k in_s free here leaf. found_some old_leaves (q, v) (leaf-so (alive_nodes_at s.head s.nodes) k (q, v) here leaf) was))
          ] refl)
          ∙ ap (λ o. value_after o (find key_cmp q old_leaves)) (sym (said-nothing q (fresh_leaves c) (stale_leaves s c) is stays))
    ] refl
  ] refl

  -- the map after the landing is the head's map with the batch applied
  pub map-read : map_at c.version (nodes_after_commit c s.nodes) ≡ apply (head_map s) (batch_of s c)
  unfolding map_at
  map-read = same_map (from_entries new_leaves) (apply (from_entries old_leaves) (batch_of s c)) (λ q.
      fin.get-from_entries nat_list_cmp_total new_leaves q ∙ said q
      ∙ ap (value_after (find key_cmp q (batch_of s c))) (sym (fin.get-from_entries nat_list_cmp_total old_leaves q))
      ∙ sym (get-apply-sorted (from_entries old_leaves) (batch_of s c) q (sorted-by_key (puts_of (fresh_leaves c) ++ removals_of (stale_leaves s c)))))
