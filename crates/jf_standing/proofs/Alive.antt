-- The node that is alive at a path, of which there is at most one, and what a node depends on.
use Rattle.std.specs.Prelude.{slice_index_or}
use Rattle.std.proofs.Common.{◌≡◌, List, [], ◌∷◌, map, Contains, ap, ℕ, ◌≤◌, filter, Bool, true, refl}
use Rattle.std.specs.List.{count_by}
use Rattle.jf_path.proofs.ListLaws.{Contains-first}
use Rattle.jf_path.proofs.FilterLaws.{Contains-filter, filter-Contains, filter-passes}
use Rattle.jf_hash.specs.Slots.{Part}
use Rattle.jf_model.specs.Nodes.{Path, plain_node}
use Rattle.jf_walk.proofs.PlainLaws.{plain_node-versions}
use Rattle.jf_standing.specs.Named.{NamedNode, is_at, alive_nodes_at, version_at}
use Rattle.jf_standing.proofs.Lists.{none_in_nothing}
use Rattle.jf_standing.proofs.Counts.{count-one}
use Rattle.jf_standing.proofs.Unmoved.{at-so}
use Rattle.jf_standing.proofs.Steps.{parts_at}

first_version : (ns : List NamedNode) (n : NamedNode) → Contains ns n → ((m : NamedNode) → Contains ns m → m ≡ n) → slice_index_or (map (λ m. m.0.version) ns) 0 0 ≡ n.0.version
first_version [] n has one = absurd (none_in_nothing n has)
first_version (m ∷ ns) n has one = ap (λ (k : NamedNode). k.0.version) (one m (Contains-first m ns))

-- if at most one node is alive at a path, the version at that path is this node's
pub version-of : (w : ℕ) (ns : List NamedNode) (q : Path) (n : NamedNode) → count_by (is_at q) (alive_nodes_at w ns) ≤ 1 → Contains (alive_nodes_at w ns) n → n.0.path ≡ q → version_at w ns q ≡ n.0.version
version-of w ns q n few has at =
    let here = at-so q n at in
    first_version (filter (is_at q) (alive_nodes_at w ns)) n (Contains-filter (is_at q) (alive_nodes_at w ns) n has here)
    (λ m there. count-one (is_at q) (alive_nodes_at w ns) m n few (filter-Contains (is_at q) (alive_nodes_at w ns) m there) has (filter-passes (is_at q) (alive_nodes_at w ns) m there) here)

-- a node depends only on the versions of the children that it has
pub plain_node-same : (counted : Bool) (v w : ℕ → ℕ) (d : ℕ) (es : Part) → ((i : ℕ) → parts_at d i es ≡ true → v i ≡ w i) → plain_node counted v d es ≡ plain_node counted w d es
unfolding plain_node
plain_node-same counted v w d [] h = refl
plain_node-same counted v w d (e ∷ []) h = refl
plain_node-same counted v w d (e ∷ f ∷ es) h = plain_node-versions counted v w d (e ∷ f ∷ es) h
