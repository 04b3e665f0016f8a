-- Names that rise still rise after a landing and under a floor.
use Rattle.std.specs.Prelude.{IsTrue}
use Rattle.std.proofs.Common.{◌&&◌, List, [], ◌∷◌, map, refl, ap₂, T, ◌++◌, ℕ, ◌≡◌, ap, sym, subst, ◌<◌, ◌∙◌, arith, nat_cmp, Bool, true, false, cond, filter, nat_lt, length, Contains}
use Rattle.std.proofs.lemmas.List.{map-append}
use Rattle.std.specs.Cmp.Lexicographic.{slice_cmp}
use Rattle.std.specs.FinMap.{is_sorted, entries}
use Rattle.std.specs.FinMap.Entries.{below_all}
use Rattle.std.specs.List.{AllByRecursion}
use Rattle.std.specs.Ordering.{ordering_then}
use Rattle.jf_path.specs.Names.{name_cmp, are_rising}
use Rattle.jf_path.specs.declared.name.NodeName.{NodeName}
use Rattle.jf_path.specs.declared.node.PlainNode.{PlainNode}
use Rattle.jf_path.specs.Keys.{IsKey, IsBytes}
use Rattle.jf_path.proofs.BoolLaws.{left_so, right_so, true_from_T, both_so}
use Rattle.jf_path.proofs.FilterLaws.{filter-map}
use Rattle.jf_path.proofs.OrderLaws.{is_lt-from_Less, nat_less}
use Rattle.jf_path.proofs.ListLaws.{All-of, Contains-first}
use Rattle.jf_hash.specs.Maps.{Map, IsMap}
use Rattle.jf_model.specs.Nodes.{fresh}
use Rattle.jf_codec.specs.declared.format.Format.{Format}
use Rattle.jf_payload.specs.declared.records.Commit.{Commit}
use Rattle.jf_walk.proofs.FreshOrder.{sorted-fresh}
use Rattle.jf_standing.specs.Named.{NamedNode, leaf_entry}
use Rattle.jf_standing.specs.Building.{apart}
use Rattle.jf_standing.specs.Standing.{Standing, marked_node, unmarked_node, with_commit, with_floor}
use Rattle.jf_standing.specs.Sound.{IsSound, is_counted}
use Rattle.jf_standing.specs.Landing.{IsInOrder, head_map, written_node, stale_names, landing_of, fresh_leaves}
use Rattle.jf_standing.specs.Taking.{Continues}
use Rattle.jf_standing.specs.Order.{by_name, bare}
use Rattle.jf_standing.specs.Next.{IsReadCommit}
use Rattle.jf_standing.proofs.Names.{are_rising-sorted, sorted-by_name}
use Rattle.jf_standing.proofs.Lists.{All-each_element, map-which}
use Rattle.jf_standing.proofs.Marks.{marked-name}
use Rattle.jf_standing.proofs.Sinces.{version-low}
use Rattle.jf_standing.proofs.Leaves.{leaf-which}
use Rattle.jf_standing.proofs.LeafPaths.{leaf-plain, under-Contains}
use Rattle.jf_standing.proofs.Freshness.{sorted-written, listed-fresh}

module _ {X : Type 0} where
  -- sorted names rise
  pub sorted-are_rising : (es : List (NodeName × X)) → T (is_sorted name_cmp es) → IsTrue (are_rising (map (λ e. e.0) es))
  sorted-are_rising [] h = refl
  sorted-are_rising (e ∷ []) h = refl
  sorted-are_rising (e ∷ f ∷ es) h = ap₂ (λ a b. a && b) (true_from_T _ (left_so _ _ (left_so _ _ h))) (sorted-are_rising (f ∷ es) (right_so _ _ h))

  below_append : (k : NodeName) (xs ys : List (NodeName × X)) → T (below_all name_cmp k xs) → T (below_all name_cmp k ys) → T (below_all name_cmp k (xs ++ ys))
  below_append k [] ys h j = j
  below_append k (x ∷ xs) ys h j = both_so _ _ (left_so _ _ h) (below_append k xs ys (right_so _ _ h) j)

  sorted_append : (xs ys : List (NodeName × X)) → T (is_sorted name_cmp xs) → T (is_sorted name_cmp ys) → AllByRecursion (λ x. T (below_all name_cmp x.0 ys)) xs → T (is_sorted name_cmp (xs ++ ys))
  sorted_append [] ys h k a = k
  sorted_append (x ∷ xs) ys h k a = both_so _ _ (below_append x.0 xs ys (left_so _ _ h) a.0) (sorted_append xs ys (right_so _ _ h) k a.1)

-- nodes by name, as entries
abbrev pairs : List NamedNode → List (NodeName × (PlainNode × ℕ))
pairs ns = map apart ns

pair_names : (ns : List NamedNode) → map (λ e. e.0) (pairs ns) ≡ map (λ n. n.0) ns
pair_names [] = refl
pair_names (n ∷ ns) = ap (λ t. n.0 ∷ t) (pair_names ns)

pairs_sorted : (ns : List NamedNode) → IsTrue (are_rising (map (λ n. n.0) ns)) → T (is_sorted name_cmp (pairs ns))
pairs_sorted ns rises = are_rising-sorted (pairs ns) (subst (λ xs. IsTrue (are_rising xs)) (sym (pair_names ns)) rises)

pairs_rise : (ns : List NamedNode) → T (is_sorted name_cmp (pairs ns)) → IsTrue (are_rising (map (λ n. n.0) ns))
pairs_rise ns sorted = subst (λ xs. IsTrue (are_rising xs)) (pair_names ns) (sorted-are_rising (pairs ns) sorted)

-- names still rise after a landing
pub are_rising-after : (fmt : Format) (s : Standing) (c : Commit) → IsSound fmt s → IsTrue (are_rising (map (λ n. n.0) s.nodes)) → Continues s c → IsInOrder c → IsTrue (are_rising (map (λ n. n.0) (with_commit c s).nodes))
are_rising-after fmt s c sound rises goes order =
    pairs_rise (map (marked_node c) s.nodes ++ map unmarked_node c.fresh) (subst (λ es. T (is_sorted name_cmp es)) (sym (map-append apart (map (marked_node c) s.nodes) (map unmarked_node c.fresh))) (sorted_append (pairs (map (marked_node c) s.nodes)) (pairs (map unmarked_node c.fresh))
    (pairs_sorted (map (marked_node c) s.nodes) (subst (λ xs. IsTrue (are_rising xs)) (sym (names_marked s.nodes)) rises))
    (pairs_sorted (map unmarked_node c.fresh) (subst (λ xs. IsTrue (are_rising xs)) (sym (names_unmarked c.fresh)) order.fresh))
    (All-each_element _ (pairs (map (marked_node c) s.nodes)) (λ e has.
    let k = map-which apart (map (marked_node c) s.nodes) e has in
    let n = map-which (marked_node c) s.nodes k.0 k.1 in
    let low = version-low fmt s sound n.0 n.1 in
    let v : n.0.0.version ≡ e.0.version = ap (λ m. m.version) (sym (marked-name c n.0)) ∙ ap (λ (z : NamedNode). z.0.version) n.2 ∙ ap (λ (z : NodeName × (PlainNode × ℕ)). z.0.version) k.2 in
    let next = goes.next in
    all_above e.0 c.fresh goes.fresh_own (omega arith)))))
  where
    names_marked : (ns : List NamedNode) → map (λ (n : NamedNode). n.0) (map (marked_node c) ns) ≡ map (λ n. n.0) ns
    names_marked [] = refl
    names_marked (n ∷ ns) = ap₂ (λ x t. x ∷ t) (marked-name c n) (names_marked ns)

    names_unmarked : (xs : List (NodeName × PlainNode)) → map (λ (n : NamedNode). n.0) (map unmarked_node xs) ≡ map (λ x. x.0) xs
    names_unmarked [] = refl
    names_unmarked (x ∷ xs) = ap (λ t. x.0 ∷ t) (names_unmarked xs)

    all_above : (k : NodeName) (xs : List (NodeName × PlainNode)) → AllByRecursion (λ x. x.0.version ≡ c.version) xs → k.version < c.version → T (below_all name_cmp k (pairs (map unmarked_node xs)))
    all_above k [] own lt = tt
    all_above k (x ∷ xs) own lt = both_so _ _ (is_lt-from_Less _ (ap (λ r. ordering_then r (slice_cmp nat_cmp k.path x.0.path)) (nat_less k.version x.0.version (let at = own.0 in omega arith)))) (all_above k xs own.1 lt)

module _ {X : Type 0} where
  below_filter : (k : NodeName) (p : NodeName × X → Bool) (es : List (NodeName × X)) → T (below_all name_cmp k es) → T (below_all name_cmp k (filter p es))
  below_filter k p [] h = tt
  below_filter k p (e ∷ es) h = elim (p e) as (λ b. T (below_all name_cmp k (cond b (e ∷ filter p es) (filter p es)))) [ true ↦ both_so _ _ (left_so _ _ h) (below_filter k p es (right_so _ _ h)) | false ↦ below_filter k p es (right_so _ _ h) ]

  sorted_filter : (p : NodeName × X → Bool) (es : List (NodeName × X)) → T (is_sorted name_cmp es) → T (is_sorted name_cmp (filter p es))
  sorted_filter p [] h = tt
  sorted_filter p (e ∷ es) h = elim (p e) as (λ b. T (is_sorted name_cmp (cond b (e ∷ filter p es) (filter p es)))) [ true ↦ both_so _ _ (below_filter e.0 p es (left_so _ _ h)) (sorted_filter p es (right_so _ _ h)) | false ↦ sorted_filter p es (right_so _ _ h) ]

-- the names of nodes that a filter keeps still rise
pub rising-filter : (test : NamedNode → Bool) (ns : List NamedNode) → IsTrue (are_rising (map (λ n. n.0) ns)) → IsTrue (are_rising (map (λ n. n.0) (filter test ns)))
rising-filter test ns rises = pairs_rise (filter test ns) (subst (λ es. T (is_sorted name_cmp es)) (filter-map (λ (e : NodeName × (PlainNode × ℕ)). test (e.0, e.1.0, e.1.1)) apart ns) (sorted_filter (λ e. test (e.0, e.1.0, e.1.1)) (pairs ns) (pairs_sorted ns rises)))

-- and so do those of the nodes under a floor
pub are_rising-floored : (s : Standing) (floor : ℕ) → IsTrue (are_rising (map (λ n. n.0) s.nodes)) → IsTrue (are_rising (map (λ n. n.0) (with_floor floor s).nodes))
are_rising-floored s floor rises = rising-filter (λ n. nat_lt floor n.2) s.nodes rises

-- ---- the names that a landing of a map writes
pub landing-read : (fmt : Format) (s : Standing) (m : Map) → IsMap m → IsReadCommit (landing_of fmt s m)
landing-read fmt s m sound = (
  record {
    fresh = sorted-are_rising (map (written_node fmt s m) (fresh (head_map s) m)) (sorted-written fmt s m (fresh (head_map s) m) (sorted-fresh (head_map s) m));
    stale = sorted-are_rising (by_name (bare (stale_names s m))) (sorted-by_name (bare (stale_names s m)));
  },
  All-each_element _ (fresh_leaves (landing_of fmt s m)) (λ e has.
      let n = leaf-which (map unmarked_node (landing_of fmt s m).fresh) e has in
      let y = map-which unmarked_node (landing_of fmt s m).fresh n.0 n.1 in
      let x = map-which (written_node fmt s m) (fresh (head_map s) m) y.0 y.1 in
      let is = listed-fresh (head_map s) m x.0 x.1 in
      let leaf = ap (λ (z : NodeName × PlainNode). leaf_entry z.1) x.2 ∙ ap (λ (z : NamedNode). leaf_entry z.1) y.2 ∙ n.2 in
      let alone = leaf-plain (is_counted fmt) _ (length x.0.0) x.0.1 e leaf in
      All-of (λ f. IsKey f.0 × IsBytes f.1) (entries m) e sound (under-Contains 0 x.0.0 (entries m) e (subst (λ es. Contains es e) (sym alone ∙ is.1) (Contains-first e [])))),
)
