-- The changes that are read off a sound landing, by the names of its stale nodes, lead to the same map as its batch.
use Rattle.std.proofs.Common.{ℕ, List, ◌≡◌, map, Contains, Some, None, refl, sym, ap, ◌∙◌, arith, ◌++◌, [], ◌∷◌, filter, true, subst, inl, inr, length}
use Rattle.std.proofs.lemmas.List.Elements.{Contains-append_left, Contains-append_right, Contains-append_cases}
use Rattle.std.specs.FinMap.{find, entries}
use Rattle.std.specs.FinMap as fin
use Rattle.std.specs.Cmp.Lexicographic.{nat_list_cmp_total}
use Rattle.jf_path.specs.Keys.{key_cmp}
use Rattle.jf_path.specs.declared.name.NodeName.{NodeName}
use Rattle.jf_path.proofs.FilterLaws.{Contains-filter, filter-Contains, filter-passes}
use Rattle.jf_path.proofs.ListLaws.{All-of, Contains-first, Contains-later}
use Rattle.jf_hash.specs.Maps.{Map, apply}
use Rattle.jf_hash.specs.Slots.{Part}
use Rattle.jf_hash.proofs.KeyOrder.{same_key-exact}
use Rattle.jf_hash.proofs.MapLaws.{value_after, same_map, get-apply-sorted}
use Rattle.jf_model.specs.Nodes.{under, is_node, plain_node}
use Rattle.jf_codec.specs.declared.format.Format.{Format}
use Rattle.jf_payload.specs.declared.records.Commit.{Commit}
use Rattle.jf_standing.specs.Named.{NamedNode, alive_nodes_at, is_alive, is_at, leaf_entry, version_at}
use Rattle.jf_standing.specs.Standing.{Standing, with_commit, is_named}
use Rattle.jf_standing.specs.Sound.{IsSound, is_counted}
use Rattle.jf_standing.specs.Taking.{Continues}
use Rattle.jf_standing.specs.Landing.{fresh_leaves, stale_leaves, batch_of, head_map}
use Rattle.jf_standing.proofs.Leaves.{leaf-which, leaf-so}
use Rattle.jf_standing.proofs.LeafPaths.{leaf-plain, plain-leaf}
use Rattle.jf_standing.proofs.LeafMaps.{found_some}
use Rattle.jf_standing.proofs.Lists.{map-which, none_in_nothing, Contains-cases}
use Rattle.jf_standing.proofs.Landed.{named_was}
use Rattle.jf_standing.proofs.Names.{named-tells, named-so}
use Rattle.jf_standing.proofs.Ordered.{find-Contains}
use Rattle.jf_standing.proofs.Batches.{said-put, said-removal, said-nothing, sorted-by_key, puts_of, removals_of}
use Rattle.jf_standing.proofs.Stands.{stands}
use Rattle.jf_standing.proofs.Counts.{count-some}
use Rattle.jf_standing.proofs.Unmoved.{at-so}
use Rattle.jf_standing.proofs.Found.{test_so}
use Rattle.jf_standing.proofs.Unique.{few-alive}
use Rattle.jf_standing.proofs.Alive.{version-of}
use Rattle.jf_replay.specs.Changes.{sole, leaves_at, changes_of}

-- ---- leaves by name
-- the entry of a leaf of a name is among those at the names
pub leaves_at-so : (m : Map) (names : List NodeName) (name : NodeName) (e : List ℕ × List ℕ) → Contains names name → under 0 name.path (entries m) ≡ e ∷ [] → Contains (leaves_at m names) e
leaves_at-so m [] name e has is = absurd (none_in_nothing name has)
leaves_at-so m (x ∷ names) name e has is = Contains-cases name x names has
    (λ same. Contains-append_left (sole (under 0 x.path (entries m))) (leaves_at m names) e (subst (λ (p : Part). Contains (sole p) e) (sym (ap (λ (y : NodeName). under 0 y.path (entries m)) same ∙ is)) (Contains-first e [])))
    (λ later. Contains-append_right (sole (under 0 x.path (entries m))) (leaves_at m names) e (leaves_at-so m names name e later is))

-- each of these entries is alone under the path of a name
pub leaves_at-which : (m : Map) (names : List NodeName) (e : List ℕ × List ℕ) → Contains (leaves_at m names) e → (name : NodeName) × Contains names name × (under 0 name.path (entries m) ≡ e ∷ [])
leaves_at-which m [] e has = absurd (none_in_nothing e has)
leaves_at-which m (x ∷ names) e has = elim (Contains-append_cases (sole (under 0 x.path (entries m))) (leaves_at m names) e has) [
  | inl here ↦ (x, Contains-first x names, sole-which (under 0 x.path (entries m)) here)
  | inr more ↦ let found = leaves_at-which m names e more in (found.0, Contains-later found.0 x names found.1, found.2)
]
  where
    sole-which : (p : Part) → Contains (sole p) e → p ≡ e ∷ []
    sole-which [] has = absurd (none_in_nothing e has)
    sole-which (f ∷ []) has = Contains-cases e f [] has (λ same. ap (λ g. g ∷ []) same) (λ later. absurd (none_in_nothing e later))
    sole-which (f ∷ g ∷ es) has = absurd (none_in_nothing e has)

-- ---- a sound landing
module _ (fmt : Format) (s : Standing) (c : Commit) (sound : IsSound fmt s) (goes : Continues s c) (after : IsSound fmt (with_commit c s)) where
  -- a node that stands and is named by the landing is alive at the head
  named_alive : (n : NamedNode) → Contains s.nodes n → Contains c.stale n.0 → Contains (alive_nodes_at s.head s.nodes) n
  named_alive n stood named = Contains-filter (is_alive s.head) s.nodes n stood (named_was fmt s c sound goes after n stood (named-so n.0 c.stale named)).0

  -- a name that the landing marks stale is that of a node that stands
  stood : (name : NodeName) → Contains c.stale name → (n : NamedNode) × Contains s.nodes n × (n.0 ≡ name)
  stood name has = map-which (λ (n : NamedNode). n.0) s.nodes name (named-tells name (map (λ (n : NamedNode). n.0) s.nodes) (All-of _ c.stale name goes.stale_known has))

  -- a node alive at the head is the node of the head's map at its path
  node_of_head : (n : NamedNode) → Contains (alive_nodes_at s.head s.nodes) n → n.1 ≡ plain_node (is_counted fmt) (λ i. version_at s.head s.nodes (n.0.path ++ i ∷ [])) (length n.0.path) (under 0 n.0.path (entries (head_map s)))
  node_of_head n alive = All-of _ (alive_nodes_at s.head s.nodes) n (sound.versions s.head sound.floor_low (omega arith)).nodes alive

  stale_listed : (e : List ℕ × List ℕ) → Contains (stale_leaves s c) e → Contains (leaves_at (head_map s) c.stale) e
  stale_listed e has =
      let test = λ (n : NamedNode). is_named n.0 c.stale in
      let n = leaf-which (filter test s.nodes) e has in
      let named = named-tells n.0.0 c.stale (filter-passes test s.nodes n.0 n.1) in
      let alive = named_alive n.0 (filter-Contains test s.nodes n.0 n.1) named in
      leaves_at-so (head_map s) c.stale n.0.0 e named (leaf-plain (is_counted fmt) _ (length n.0.0.path) (under 0 n.0.0.path (entries (head_map s))) e (ap leaf_entry (sym (node_of_head n.0 alive)) ∙ n.2))

  listed_stale : (e : List ℕ × List ℕ) → Contains (leaves_at (head_map s) c.stale) e → Contains (stale_leaves s c) e
  listed_stale e has =
      let test = λ (n : NamedNode). is_named n.0 c.stale in
      let name = leaves_at-which (head_map s) c.stale e has in
      let n = stood name.0 name.1 in
      let named = subst (λ k. Contains c.stale k) (sym n.2) name.1 in
      let alive = named_alive n.0 n.1 named in
      leaf-so (filter test s.nodes) n.0 e (Contains-filter test s.nodes n.0 n.1 (named-so n.0.0 c.stale named))
      (ap leaf_entry (node_of_head n.0 alive) ∙ plain-leaf (is_counted fmt) _ (length n.0.0.path) (under 0 n.0.0.path (entries (head_map s))) e (ap (λ (k : NodeName). under 0 k.path (entries (head_map s))) n.2 ∙ name.2))

  -- the change of each key is that of the batch that is read off the landing
  said : (q : List ℕ) → find key_cmp q (changes_of (head_map s) c) ≡ find key_cmp q (batch_of s c)
  said q =
      let fs = fresh_leaves c in
      let ls = leaves_at (head_map s) c.stale in
      let ss = stale_leaves s c in
      elim (find key_cmp q fs) as (λ r. find key_cmp q fs ≡ r → find key_cmp q (changes_of (head_map s) c) ≡ find key_cmp q (batch_of s c)) [
        | Some v ↦ λ is. said-put q v fs ls is ∙ sym (said-put q v fs ss is)
        | None ↦ λ is. elim (find key_cmp q ls) as (λ r. find key_cmp q ls ≡ r → find key_cmp q (changes_of (head_map s) c) ≡ find key_cmp q (batch_of s c)) [
          | Some v ↦ λ gone. said-removal q v fs ls is gone ∙ (elim (find key_cmp q ss) as (λ r. find key_cmp q ss ≡ r → Some None ≡ find key_cmp q (batch_of s c)) [
            | Some w ↦ λ named. sym (said-removal q w fs ss is named)
            | None ↦ λ none. absurd (found_some ss (q, v) (listed_stale (q, v) (find-Contains key_cmp nat_list_cmp_total same_key-exact q v ls gone)) none)
          ] refl)
          | None ↦ λ stays. said-nothing q fs ls is stays ∙ (elim (find key_cmp q ss) as (λ r. find key_cmp q ss ≡ r → None ≡ find key_cmp q (batch_of s c)) [
            | Some w ↦ λ named. absurd (found_some ls (q, w) (stale_listed (q, w) (find-Contains key_cmp nat_list_cmp_total same_key-exact q w ss named)) stays)
            | None ↦ λ none. sym (said-nothing q fs ss is none)
          ] refl)
        ] refl
      ] refl

  -- the changes lead to the same map
  pub apply-changes_of : apply (head_map s) (changes_of (head_map s) c) ≡ apply (head_map s) (batch_of s c)
  apply-changes_of = same_map (apply (head_map s) (changes_of (head_map s) c)) (apply (head_map s) (batch_of s c)) (λ q.
      get-apply-sorted (head_map s) (changes_of (head_map s) c) q (sorted-by_key (puts_of (fresh_leaves c) ++ removals_of (leaves_at (head_map s) c.stale)))
      ∙ ap (λ o. value_after o (fin.get (head_map s) q)) (said q)
      ∙ sym (get-apply-sorted (head_map s) (batch_of s c) q (sorted-by_key (puts_of (fresh_leaves c) ++ removals_of (stale_leaves s c)))))

  -- the name of a stale node is that of the node alive at the head at its path
  pub stale-at_head : (name : NodeName) → Contains c.stale name → (is_node 0 name.path (entries (head_map s)) ≡ true) × (version_at s.head s.nodes name.path ≡ name.version)
  stale-at_head name has =
      let n = stood name has in
      let alive = named_alive n.0 n.1 (subst (λ k. Contains c.stale k) (sym n.2) has) in
      let at : n.0.0.path ≡ name.path = ap (λ k. k.path) n.2 in (
        test_so _ _ (stands fmt s sound s.head sound.floor_low (omega arith) name.path) (count-some (is_at name.path) (alive_nodes_at s.head s.nodes) n.0 alive (at-so name.path n.0 at)),
        version-of s.head s.nodes name.path n.0 (few-alive fmt s sound s.head sound.floor_low (omega arith) name.path) alive at ∙ ap (λ k. k.version) n.2,
      )
