-- A sound standing follows from the snapshots that hold it.
use Rattle.std.proofs.Common.{◌≡◌, ℕ, ◌+◌, ◌-◌, List, [], ◌∷◌, ◌++◌, map, reverse, drop, length, refl, sym, ap, ap₂, ◌∙◌, arith, true}
use Rattle.std.specs.FinMap.{entries}
use Rattle.jf_hash.specs.Maps.{Map}
use Rattle.jf_hash.specs.Roots.{root}
use Rattle.jf_path.specs.declared.node.PlainNode.{PlainNode}
use Rattle.jf_path.proofs.ListLaws.{map_alike}
use Rattle.jf_model.specs.Nodes.{Path, is_node, nodes, plain_node}
use Rattle.jf_codec.specs.declared.format.Format.TheVariants as format
use Rattle.jf_walk.proofs.NodesListed.{nodes-exact}
use Rattle.jf_node.specs.SnapshotValue.{SnapshotValue}
use Rattle.jf_diff.specs.Landings.{version_in}
use Rattle.jf_standing.specs.Named.{NamedNode, not_stale, map_at, version_at}
use Rattle.jf_standing.specs.Standing.{Standing}
use Rattle.jf_standing.specs.Building.{node_of, floor_standing, floor_of, built_standing, up_from, nodes_by_name}
use Rattle.jf_standing.proofs.Alive.{plain_node-same}
use Rattle.jf_standing.proofs.Checkpoints.{same-nodes}
use Rattle.jf_standing.proofs.Freshness.{child-node}
use Rattle.jf_standing.proofs.Lists.{All-each_element}
use Rattle.jf_standing.proofs.Steps.{parts_at}
use Rattle.jf_dir.specs.Holding.{standing_held, AreSnapshotsFrom, IsStandingHeld}

-- the named nodes of a map depend on the versions of its nodes alone
pub nodes-alike : (m : Map) (v w : Path → ℕ) → ((p : Path) → is_node 0 p (entries m) ≡ true → v p ≡ w p) → map (node_of format.Two v) (nodes m) ≡ map (node_of format.Two w) (nodes m)
nodes-alike m v w same = map_alike (node_of format.Two v) (node_of format.Two w) (nodes m) (All-each_element _ (nodes m) (λ x has.
    let is = (nodes-exact m x).0 has in
    let plain : plain_node true (λ i. v (x.0 ++ i ∷ [])) (length x.0) x.1 ≡ plain_node true (λ i. w (x.0 ++ i ∷ [])) (length x.0) x.1 =
    plain_node-same true (λ i. v (x.0 ++ i ∷ [])) (λ i. w (x.0 ++ i ∷ [])) (length x.0) x.1 (λ i some.
    same (x.0 ++ i ∷ []) (child-node (entries m) x.0 i is.2 (ap (λ es. parts_at (length x.0) i es) (sym is.1) ∙ some))) in
    ap₂ (λ (k : ℕ) (n : PlainNode). (record { version = k; path = x.0 }, n, not_stale)) (same x.0 is.2) plain))

-- the maps of snapshots are those of the standing
pub maps-held : (s : Standing) (w : ℕ) (xs : List SnapshotValue) → AreSnapshotsFrom s w xs → map (λ v. map_at v s.nodes) (up_from w (length xs)) ≡ map (λ y. y.map) xs
maps-held s w [] h = refl
maps-held s w (x ∷ xs) h = ap₂ (λ m ms. m ∷ ms) (sym h.0.map) (maps-held s (w + 1) xs h.1)

-- what is built from snapshots that hold a standing is that standing
pub held-is : (s : Standing) (b : ℕ) (rs : List (List ℕ)) (xs : List SnapshotValue) (cs : List ℕ) (n : ℕ) → IsStandingHeld s b rs xs cs n → standing_held b rs xs ≡ s
unfolding standing_held
held-is s b rs [] cs n h = absurd (let long = h.long in let low = h.sound.floor_low in omega arith)
held-is s b rs (x ∷ xs) cs n h =
    let long = h.long in
    let low = h.sound.floor_low in
    let first = h.snapshots.0 in
    let m = map_at s.floor s.nodes in
    let rest : length xs ≡ s.head - s.floor = omega arith in
    let top : x.version + length xs ≡ s.head = let v = first.version in omega arith in
    let dropped : length xs + 1 ≡ s.head - s.floor + 1 = omega arith in
    let rs_are = h.rooted in
    let base = h.base in
    let later : map (λ y. y.map) xs ≡ map (λ v. map_at v s.nodes) (up_from (s.floor + 1) (s.head - s.floor)) = sym (maps-held s (s.floor + 1) xs h.snapshots.1) ∙ ap (λ k. map (λ v. map_at v s.nodes) (up_from (s.floor + 1) k)) rest in
    let floor : floor_standing format.Two b x.version (root x.map ∷ drop (length xs + 1) (reverse rs)) x.map (version_in x) ≡ floor_of format.Two s =
    (λ i. floor_standing format.Two (sym base i) (first.version i) (root (first.map i) ∷ drop (dropped i) (sym rs_are i)) (first.map i) (version_in x))
    ∙ ap (λ (ns : List NamedNode). record { base = s.base; floor = s.floor; head = s.floor; roots = root m ∷ drop (s.head - s.floor + 1) s.roots; nodes = ns }) (nodes-alike m (version_in x) (version_at s.floor s.nodes) first.versions) in
    let listed = ap₂ (λ t ms. nodes_by_name (built_standing format.Two t ms).nodes) floor later ∙ same-nodes format.Two s h.read h.sound in
    λ i. record { base = sym base i; floor = first.version i; head = top i; roots = sym rs_are i; nodes = listed i }
