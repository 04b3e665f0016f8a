-- The entries of the leaves of a list, and the map that they make.
use Rattle.std.proofs.Common.{◌≡◌, ℕ, List, [], ◌∷◌, Contains, Some, None, refl, ap, ◌∙◌, sym, subst}
use Rattle.std.specs.Cmp.Lexicographic.{nat_list_cmp_total}
use Rattle.std.specs.FinMap.{entries, from_entries}
use Rattle.std.specs.FinMap as fin
use Rattle.std.specs.List.{cons_option}
use Rattle.jf_path.specs.Keys.{key_cmp, IsKey, IsBytes}
use Rattle.jf_path.proofs.ListLaws.{Contains-first, Contains-later, All-of}
use Rattle.jf_path.proofs.FilterLaws.{filter-Contains}
use Rattle.jf_hash.specs.Maps.{Map, IsMap}
use Rattle.jf_hash.proofs.KeyOrder.{same_key-exact}
use Rattle.jf_standing.specs.Named.{NamedNode, leaf_entry, leaf_entries, is_alive, alive_nodes_at, AreEntries, map_at}
use Rattle.jf_standing.proofs.Lists.{Contains-cases, none_in_nothing, All-each_element}
use Rattle.jf_standing.proofs.Ordered.{find-Contains, Contains-find}

-- each of the entries is that of a leaf
pub leaf-which : (ns : List NamedNode) (e : List ℕ × List ℕ) → Contains (leaf_entries ns) e → (n : NamedNode) × Contains ns n × (leaf_entry n.1 ≡ Some e)
leaf-which [] e has = absurd (none_in_nothing e has)
leaf-which (n ∷ ns) e has =
    elim (leaf_entry n.1) as (λ o. leaf_entry n.1 ≡ o → Contains (cons_option o (leaf_entries ns)) e → (m : NamedNode) × Contains (n ∷ ns) m × (leaf_entry m.1 ≡ Some e)) [
      | None ↦ λ is there. let m = leaf-which ns e there in (m.0, Contains-later m.0 n ns m.1, m.2)
      | Some f ↦ λ is there. Contains-cases e f (leaf_entries ns) there
          (λ same. (n, Contains-first n ns, is ∙ ap Some same))
          (λ later. let m = leaf-which ns e later in (m.0, Contains-later m.0 n ns m.1, m.2))
    ] refl has

-- the entry of each leaf is among the entries
pub leaf-so : (ns : List NamedNode) (n : NamedNode) (e : List ℕ × List ℕ) → Contains ns n → leaf_entry n.1 ≡ Some e → Contains (leaf_entries ns) e
leaf-so [] n e has is = absurd (none_in_nothing n has)
leaf-so (m ∷ ns) n e has is = Contains-cases n m ns has
    (λ same. subst (λ o. Contains (cons_option o (leaf_entries ns)) e) (sym (ap (λ (k : NamedNode). leaf_entry k.1) same ∙ is)) (Contains-first e (leaf_entries ns)))
    (λ later. elim (leaf_entry m.1) as (λ o. Contains (cons_option o (leaf_entries ns)) e) [
      | None ↦ leaf-so ns n e later is
      | Some f ↦ Contains-later e f (leaf_entries ns) (leaf-so ns n e later is)
    ])

-- the entries of a map are among those that it is made of
pub from_entries-Contains : (es : List (List ℕ × List ℕ)) (e : List ℕ × List ℕ) → Contains (entries (from_entries {R = key_cmp} es)) e → Contains es e
from_entries-Contains es e has =
    let m : Map = from_entries es in
    find-Contains key_cmp nat_list_cmp_total same_key-exact e.0 e.1 es
    (sym (fin.get-from_entries nat_list_cmp_total es e.0) ∙ fin.get-entries m e.0 ∙ Contains-find key_cmp nat_list_cmp_total same_key-exact (entries m) e (fin.entries_sorted m) has)

-- the map at a version has keys and values if the leaves have
pub IsMap-map_at : (w : ℕ) (ns : List NamedNode) → AreEntries (leaf_entries ns) → IsMap (map_at w ns)
unfolding map_at
IsMap-map_at w ns sound = All-each_element _ (entries (from_entries (leaf_entries (alive_nodes_at w ns)))) (λ e has.
    let n = leaf-which (alive_nodes_at w ns) e (from_entries-Contains (leaf_entries (alive_nodes_at w ns)) e has) in
    All-of (λ f. IsKey f.0 × IsBytes f.1) (leaf_entries ns) e sound (leaf-so ns n.0 e (filter-Contains (is_alive w) ns n.0 n.1) n.2))
