-- The landing that an update of a snapshot writes is that of the standing, if the snapshot has the nodes' versions.
use Rattle.std.specs.Prelude.{IsTrue}
use Rattle.std.proofs.Common.{◌≡◌, ℕ, ◌+◌, true, false, cond, List, [], ◌∷◌, ◌++◌, map, length, refl, sym, ap, ◌∙◌, subst, ◌≤◌, arith}
use Rattle.std.proofs.lemmas.List.Sorted.{list_any-IsPermutation}
use Rattle.std.specs.FinMap.{entries, len}
use Rattle.std.specs.FinMap as fin
use Rattle.std.specs.List.Sorted.{IsPermutation}
use Rattle.std.specs.Ordering.{eq_by_cmp}
use Rattle.jf_path.specs.declared.name.NodeName.{NodeName}
use Rattle.jf_path.specs.declared.node.PlainNode.{PlainNode}
use Rattle.jf_path.specs.Names.{name_cmp, are_rising}
use Rattle.jf_path.proofs.ListLaws.{map_alike}
use Rattle.jf_hash.specs.Maps.{Map, Batch, apply}
use Rattle.jf_hash.specs.Slots.{Part}
use Rattle.jf_model.specs.Nodes.{Path, is_node, is_fresh, plain_node, fresh, stale}
use Rattle.jf_model.proofs.ChangeLaws.{entries-apply}
use Rattle.jf_codec.specs.declared.format.Format.{Format}
use Rattle.jf_walk.proofs.PartChanges.{length-applied}
use Rattle.jf_standing.specs.Named.{version_at}
use Rattle.jf_standing.specs.Standing.{Standing}
use Rattle.jf_standing.specs.Sound.{is_counted}
use Rattle.jf_standing.specs.Landing.{head_map, version_after, written_node, landing_of, name_at_head, stale_names}
use Rattle.jf_standing.proofs.Lists.{All-each_element}
use Rattle.jf_standing.proofs.Alive.{plain_node-same}
use Rattle.jf_standing.proofs.Steps.{parts_at}
use Rattle.jf_standing.proofs.Freshness.{fresh-node, stale-node, child-node, listed-fresh}
use Rattle.jf_standing.proofs.Names.{same_names}

module _ (fmt : Format) (s : Standing) (m : Map) (before after : Path → ℕ)
    (was : (p : Path) → is_node 0 p (entries (head_map s)) ≡ true → before p ≡ version_at s.head s.nodes p)
    (is : (p : Path) → is_node 0 p (entries m) ≡ true → after p ≡ cond (is_fresh (entries (head_map s)) (entries m) p) (s.head + 1) (before p)) where
  version_is : (p : Path) → is_node 0 p (entries m) ≡ true → after p ≡ version_after s m p
  version_is p node = is p node ∙ (elim (is_fresh (entries (head_map s)) (entries m) p) as (λ b. is_fresh (entries (head_map s)) (entries m) p ≡ b → cond b (s.head + 1) (before p) ≡ cond b (s.head + 1) (version_at s.head s.nodes p)) [
    | true ↦ λ new. refl
    | false ↦ λ old. was p (stale-node (entries (head_map s)) (entries m) p node old).0
  ] refl)

  pub fresh-update : map (λ (x : Path × Part). (record { version = s.head + 1; path = x.0 }, plain_node (is_counted fmt) (λ i. after (x.0 ++ i ∷ [])) (length x.0) x.1)) (fresh (head_map s) m) ≡ (landing_of fmt s m).fresh
  fresh-update = map_alike _ (written_node fmt s m) (fresh (head_map s) m) (All-each_element _ (fresh (head_map s) m) (λ x has.
      let listed = listed-fresh (head_map s) m x has in
      let node = fresh-node (entries (head_map s)) (entries m) x.0 listed.0 in
      let name : NodeName = record { version = s.head + 1; path = x.0 } in
      ap (λ (n : PlainNode). (name, n)) (plain_node-same (is_counted fmt) (λ i. after (x.0 ++ i ∷ [])) (λ i. version_after s m (x.0 ++ i ∷ [])) (length x.0) x.1 (λ i some.
      version_is (x.0 ++ i ∷ []) (child-node (entries m) x.0 i node (ap (λ es. parts_at (length x.0) i es) (sym listed.1) ∙ some))))))

module _ (fmt : Format) (s : Standing) (m : Map) (before : Path → ℕ) where
  pub stale-update : (names : List NodeName) → ((p : Path) → is_node 0 p (entries (head_map s)) ≡ true → before p ≡ version_at s.head s.nodes p) → IsPermutation (map (λ (x : Path × Part). record { version = before x.0; path = x.0 }) (stale (head_map s) m)) names → IsTrue (are_rising names) → names ≡ (landing_of fmt s m).stale
  stale-update names was moved rises =
      let same : map (λ (x : Path × Part). record { version = before x.0; path = x.0 }) (stale (head_map s) m) ≡ stale_names s m =
      map_alike _ (λ (x : Path × Part). name_at_head s x.0) (stale (head_map s) m) (All-each_element _ (stale (head_map s) m) (λ x has.
      ap (λ v. record { version = v; path = x.0 }) (was x.0 (fresh-node (entries m) (entries (head_map s)) x.0 (listed-fresh m (head_map s) x has).0)))) in
      same_names names (stale_names s m) rises (λ q. sym (list_any-IsPermutation (eq_by_cmp name_cmp q) (stale_names s m) names (subst (λ ns. IsPermutation ns names) same moved)))

-- ---- room
pub len-apply : (m : Map) (b : Batch) → len (apply m b) ≤ len m + length b
len-apply m b = omega (arith, length-applied (entries m) b, fin.len-entries m, fin.len-entries (apply m b), ap length (entries-apply m b))
