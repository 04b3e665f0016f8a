-- Whether there is a node at a path, by the whole path; and what the list of nodes holds.
use Rattle.std.specs.Prelude.{[], ◌∷◌, ℕ, Bool, true, ◌&&◌, ◌≡◌, List, filter, false, cond, ◌+◌, map, zero, suc, flat_map, length}
use Rattle.std.proofs.Common.{refl, ap, ◌∙◌}
use Rattle.std.proofs.lemmas.Bool.{and_from}
use Rattle.std.specs.FinMap as fin
use Rattle.std.specs.List.{AllByRecursion}
use Rattle.jf_path.proofs.BoolLaws.{and_absorbed, and_true, left_true}
use Rattle.jf_path.proofs.ListLaws.{All-flat_map}
use Rattle.jf_hash.specs.Slots.{Part, with_nibble, all_nibbles}
use Rattle.jf_hash.proofs.RootLaws.{entries-empty}
use Rattle.jf_model.specs.Nodes.{Path, under, has_one, has_two, is_node, nodes_below, nodes, kept_nodes}
use Rattle.jf_model.specs.Versions.{new_store}

-- the path without its last step
abbrev pub up : Path → Path
up [] = []
up (i ∷ []) = []
up (i ∷ j ∷ p) = i ∷ up (j ∷ p)

-- there is a node at the top, and at a path with an entry below it and two below its parent
abbrev pub is_node_at : ℕ → Path → Part → Bool
is_node_at d [] es = true
is_node_at d (i ∷ p) es = has_two (under d (up (i ∷ p)) es) && has_one (under d (i ∷ p) es)

-- ---- more below than above is never
two_one : (es : Part) → has_two es ≡ true → has_one es ≡ true
two_one [] h = h
two_one (e ∷ es) h = refl

one_filter : (test : List ℕ × List ℕ → Bool) (es : Part) → has_one (filter test es) ≡ true → has_one es ≡ true
one_filter test [] h = h
one_filter test (e ∷ es) h = refl

two_filter : (test : List ℕ × List ℕ → Bool) (es : Part) → has_two (filter test es) ≡ true → has_two es ≡ true
two_filter test [] h = h
two_filter test (e ∷ es) h =
    elim (test e) as (λ b. has_two (cond b (e ∷ filter test es) (filter test es)) ≡ true → has_one es ≡ true) [
      | true ↦ λ one. one_filter test es one
      | false ↦ λ two. two_one es (two_filter test es two)
    ] h

two_under : (d : ℕ) (p : Path) (es : Part) → has_two (under d p es) ≡ true → has_two es ≡ true
unfolding under
two_under d [] es h = h
two_under d (i ∷ p) es h = two_filter _ es (two_under (d + 1) p (with_nibble d i es) h)

-- going down step by step finds a node exactly if the whole path has one
pub is_node-is_node_at : (d : ℕ) (p : Path) (es : Part) → is_node d p es ≡ is_node_at d p es
unfolding is_node under
is_node-is_node_at d [] es = refl
is_node-is_node_at d (i ∷ []) es = and_true (has_two es && has_one (with_nibble d i es))
is_node-is_node_at d (i ∷ j ∷ p) es =
    let part = with_nibble d i es in
    ap (λ b. (has_two es && has_one part) && b) (is_node-is_node_at (d + 1) (j ∷ p) part)
    ∙ and_absorbed (has_two es && has_one part) (is_node_at (d + 1) (j ∷ p) part) (λ h.
    let two = two_under (d + 1) (up (j ∷ p)) part (left_true _ _ h) in
    and_from (has_two es) (has_one part) (two_filter _ es two) (two_one part two))

-- ---- the list of nodes
-- a pair of the list names a node, with the entries under it
abbrev pub IsListed : ℕ → Part → Path × Part → Type 0
IsListed d es x = (x.1 ≡ under d x.0 es) × (is_node d x.0 es ≡ true)

below : (d i : ℕ) (es : Part) → has_two es ≡ true → has_one (with_nibble d i es) ≡ true → (xs : List (Path × Part))
    → AllByRecursion (IsListed (d + 1) (with_nibble d i es)) xs → AllByRecursion (IsListed d es) (map (λ x. (i ∷ x.0, x.1)) xs)
unfolding is_node under
below d i es two one [] h = tt
below d i es two one (x ∷ xs) h = ((h.0.0, and_from _ _ (and_from _ _ two one) h.0.1), below d i es two one xs h.1)

-- each pair of the list is a node with its part
pub nodes_below-IsListed : (n d : ℕ) (es : Part) → AllByRecursion (IsListed d es) (nodes_below n d es)
unfolding nodes_below is_node under
nodes_below-IsListed zero d es = ((refl, refl), tt)
nodes_below-IsListed (suc n) d es = (
  (refl, refl),
  elim (has_two es) as (λ b. has_two es ≡ b → AllByRecursion (IsListed d es) (cond b (flat_map (λ i. cond (has_one (with_nibble d i es)) (map (λ x. (i ∷ x.0, x.1)) (nodes_below n (d + 1) (with_nibble d i es))) []) all_nibbles) [])) [
    | true ↦ λ two. All-flat_map (IsListed d es) _ (λ i.
        elim (has_one (with_nibble d i es)) as (λ b. has_one (with_nibble d i es) ≡ b → AllByRecursion (IsListed d es) (cond b (map (λ x. (i ∷ x.0, x.1)) (nodes_below n (d + 1) (with_nibble d i es))) [])) [
          | true ↦ λ one. below d i es two one _ (nodes_below-IsListed n (d + 1) (with_nibble d i es))
          | false ↦ λ none. tt
        ] refl) all_nibbles
    | false ↦ λ few. tt
  ] refl,
)

-- ---- laws
pub nodes-none : nodes_below 64 0 [] ≡ ([], []) ∷ []
unfolding nodes_below
nodes-none = refl

pub nodes-empty : nodes fin.empty ≡ ([], []) ∷ []
unfolding nodes
nodes-empty = ap (nodes_below 64 0) entries-empty ∙ nodes-none

-- a new store keeps one node
pub kept_nodes-new_store : kept_nodes new_store ≡ 1
unfolding kept_nodes nodes
kept_nodes-new_store = ap (λ es. length (nodes_below 64 0 es)) entries-empty ∙ ap length nodes-none
