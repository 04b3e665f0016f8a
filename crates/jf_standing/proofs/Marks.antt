-- A landing changes the versions since which some nodes are stale, and nothing else of the nodes that stood before.
use Rattle.std.specs.Prelude.{slice_index_or}
use Rattle.std.proofs.Common.{◌≡◌, true, false, cond, refl, ap, ℕ, ◌<◌, List, ◌++◌, map, Contains, Bool, [], ◌∷◌, filter, ap₂, ◌∙◌, append-nil, arith}
use Rattle.std.proofs.lemmas.Bool.Decides.{nat_tests}
use Rattle.std.proofs.lemmas.List.Elements.{Contains-append_left, filter-append}
use Rattle.std.specs.FinMap.{from_entries}
use Rattle.std.specs.List.{AllByRecursion, cons_option}
use Rattle.jf_path.specs.declared.name.NodeName.{NodeName}
use Rattle.jf_path.specs.declared.node.PlainNode.{PlainNode}
use Rattle.jf_path.proofs.ListLaws.{Contains-map}
use Rattle.jf_path.proofs.FilterLaws.{filter-map, filter-same}
use Rattle.jf_model.specs.Nodes.{Path}
use Rattle.jf_payload.specs.declared.records.Commit.{Commit}
use Rattle.jf_standing.specs.Named.{NamedNode, is_alive, is_written, leaf_entry, leaf_entries, is_at, alive_nodes_at, map_at, version_at}
use Rattle.jf_standing.specs.Standing.{is_named, marked_node, unmarked_node}
use Rattle.jf_standing.proofs.Sinces.{alive-tells, alive-so, alive-not_yet}

-- ---- one node
pub marked-name : (c : Commit) (n : NamedNode) → (marked_node c n).0 ≡ n.0
marked-name c n = elim (is_named n.0 c.stale) as (λ b. (cond b (n.0, n.1, c.version) n).0 ≡ n.0) [ true ↦ refl | false ↦ refl ]

pub marked-node : (c : Commit) (n : NamedNode) → (marked_node c n).1 ≡ n.1
marked-node c n = elim (is_named n.0 c.stale) as (λ b. (cond b (n.0, n.1, c.version) n).1 ≡ n.1) [ true ↦ refl | false ↦ refl ]

pub marked-yes : (c : Commit) (n : NamedNode) → is_named n.0 c.stale ≡ true → marked_node c n ≡ (n.0, n.1, c.version)
marked-yes c n is = ap (λ b. cond b (n.0, n.1, c.version) n) is

pub marked-not : (c : Commit) (n : NamedNode) → is_named n.0 c.stale ≡ false → marked_node c n ≡ n
marked-not c n is = ap (λ b. cond b (n.0, n.1, c.version) n) is

-- a node alive at an earlier version is still alive there after the landing
pub alive-marked : (c : Commit) (w : ℕ) (n : NamedNode) → w < c.version → is_alive w n ≡ true → is_alive w (marked_node c n) ≡ true
alive-marked c w n low is = elim (is_named n.0 c.stale) as (λ b. is_alive w (cond b (n.0, n.1, c.version) n) ≡ true) [
  | true ↦ alive-so w (n.0, n.1, c.version) (alive-tells w n is).0 low
  | false ↦ is
]

-- ---- all nodes
-- the nodes after a landing
abbrev pub nodes_after_commit : Commit → List NamedNode → List NamedNode
nodes_after_commit c ns = map (marked_node c) ns ++ map unmarked_node c.fresh

-- a node that stood before stands after the landing, marked or not
pub Contains-nodes_after_commit : (c : Commit) (ns : List NamedNode) (n : NamedNode) → Contains ns n → Contains (nodes_after_commit c ns) (marked_node c n)
Contains-nodes_after_commit c ns n has = Contains-append_left (map (marked_node c) ns) (map unmarked_node c.fresh) (marked_node c n) (Contains-map (marked_node c) ns n has)

-- a filter that passes no node of the landing itself
pub filter-nodes_after_commit : (test : NamedNode → Bool) (c : Commit) (ns : List NamedNode) → AllByRecursion (λ x. test (unmarked_node x) ≡ false) c.fresh → filter test (nodes_after_commit c ns) ≡ map (marked_node c) (filter (λ n. test (marked_node c n)) ns)
filter-nodes_after_commit test c ns own =
    filter-append test (map (marked_node c) ns) (map unmarked_node c.fresh)
    ∙ ap₂ (λ a b. a ++ b) (filter-map test (marked_node c) ns) (none c.fresh own)
    ∙ append-nil (map (marked_node c) (filter (λ n. test (marked_node c n)) ns))
  where
    none : (xs : List (NodeName × PlainNode)) → AllByRecursion (λ x. test (unmarked_node x) ≡ false) xs → filter test (map unmarked_node xs) ≡ []
    none [] h = refl
    none (x ∷ xs) h = ap (λ b. cond b (unmarked_node x ∷ filter test (map unmarked_node xs)) (filter test (map unmarked_node xs))) h.0 ∙ none xs h.1

-- a filter that passes no node of the landing itself, and that marks don't change
pub filter-unchanged : (test : NamedNode → Bool) (c : Commit) (ns : List NamedNode) → AllByRecursion (λ x. test (unmarked_node x) ≡ false) c.fresh → AllByRecursion (λ n. test (marked_node c n) ≡ test n) ns → filter test (nodes_after_commit c ns) ≡ map (marked_node c) (filter test ns)
filter-unchanged test c ns own same = filter-nodes_after_commit test c ns own ∙ ap (map (marked_node c)) (filter-same (λ n. test (marked_node c n)) test ns same)

-- no node of the landing itself is alive at an earlier version
pub none_alive : (c : Commit) (w : ℕ) (xs : List (NodeName × PlainNode)) → w < c.version → AllByRecursion (λ x. x.0.version ≡ c.version) xs → AllByRecursion (λ x. is_alive w (unmarked_node x) ≡ false) xs
none_alive c w [] low own = tt
none_alive c w (x ∷ xs) low own = (alive-not_yet w (unmarked_node x) (let at = own.0 in omega arith), none_alive c w xs low own.1)

-- no node of the landing itself is written at an earlier version
pub none_written : (c : Commit) (w : ℕ) (xs : List (NodeName × PlainNode)) → w < c.version → AllByRecursion (λ x. x.0.version ≡ c.version) xs → AllByRecursion (λ x. is_written w (unmarked_node x) ≡ false) xs
none_written c w [] low own = tt
none_written c w (x ∷ xs) low own = (let at = own.0 in grind (arith, nat_tests), none_written c w xs low own.1)

-- ---- what marks leave unchanged
pub leaf_entries-marked : (c : Commit) (ns : List NamedNode) → leaf_entries (map (marked_node c) ns) ≡ leaf_entries ns
leaf_entries-marked c [] = refl
leaf_entries-marked c (n ∷ ns) =
    ap₂ (λ x t. cons_option (leaf_entry x) t) (marked-node c n) (leaf_entries-marked c ns)

versions-marked : (c : Commit) (ns : List NamedNode) → map (λ n. n.0.version) (map (marked_node c) ns) ≡ map (λ n. n.0.version) ns
versions-marked c [] = refl
versions-marked c (n ∷ ns) = ap₂ (λ x t. x.version ∷ t) (marked-name c n) (versions-marked c ns)

pub at-marked : (c : Commit) (p : Path) (ns : List NamedNode) → filter (is_at p) (map (marked_node c) ns) ≡ map (marked_node c) (filter (is_at p) ns)
at-marked c p ns = filter-map (is_at p) (marked_node c) ns ∙ ap (map (marked_node c)) (filter-same (λ n. is_at p (marked_node c n)) (is_at p) ns (names ns))
  where
    names : (ns : List NamedNode) → AllByRecursion (λ n. is_at p (marked_node c n) ≡ is_at p n) ns
    names [] = tt
    names (n ∷ ns) = (ap (λ x. is_at p (x, n.1, 0)) (marked-name c n), names ns)

-- if marks change no node's being alive at an earlier version, that version is unchanged
pub alive-nodes_after_commit : (c : Commit) (w : ℕ) (ns : List NamedNode) → w < c.version → AllByRecursion (λ x. x.0.version ≡ c.version) c.fresh → AllByRecursion (λ n. is_alive w (marked_node c n) ≡ is_alive w n) ns → alive_nodes_at w (nodes_after_commit c ns) ≡ map (marked_node c) (alive_nodes_at w ns)
alive-nodes_after_commit c w ns low own same = filter-unchanged (is_alive w) c ns (none_alive c w c.fresh low own) same

pub map-nodes_after_commit : (c : Commit) (w : ℕ) (ns : List NamedNode) → w < c.version → AllByRecursion (λ x. x.0.version ≡ c.version) c.fresh → AllByRecursion (λ n. is_alive w (marked_node c n) ≡ is_alive w n) ns → map_at w (nodes_after_commit c ns) ≡ map_at w ns
unfolding map_at
map-nodes_after_commit c w ns low own same = ap from_entries (ap leaf_entries (alive-nodes_after_commit c w ns low own same) ∙ leaf_entries-marked c (alive_nodes_at w ns))

pub version-nodes_after_commit : (c : Commit) (w : ℕ) (ns : List NamedNode) (p : Path) → w < c.version → AllByRecursion (λ x. x.0.version ≡ c.version) c.fresh → AllByRecursion (λ n. is_alive w (marked_node c n) ≡ is_alive w n) ns → version_at w (nodes_after_commit c ns) p ≡ version_at w ns p
version-nodes_after_commit c w ns p low own same =
    ap (λ xs. slice_index_or xs 0 0) (ap (λ xs. map (λ (n : NamedNode). n.0.version) (filter (is_at p) xs)) (alive-nodes_after_commit c w ns low own same) ∙ ap (map (λ (n : NamedNode). n.0.version)) (at-marked c p (alive_nodes_at w ns)) ∙ versions-marked c (filter (is_at p) (alive_nodes_at w ns)))
