-- In a sound standing the nodes alive at a version stand at exactly the paths of the nodes of its map.
use Rattle.std.proofs.Common.{◌≡◌, ℕ, ◌+◌, ◌-◌, ◌<◌, ◌≤◌, Bool, true, false, ◌&&◌, ◌==◌, nat_le, nat_lt, arith, List, sym, ap₂, ◌∙◌, ap, not, refl, [], ◌∷◌, zero, suc, subst}
use Rattle.std.proofs.lemmas.Bool.Decides.{nat_tests}
use Rattle.std.specs.FinMap.{entries}
use Rattle.std.specs.List.{AllByRecursion, count_by}
use Rattle.jf_path.proofs.ListLaws.{All-weaker}
use Rattle.jf_path.proofs.BoolLaws.{same_test}
use Rattle.jf_hash.specs.Slots.{Part}
use Rattle.jf_model.specs.Nodes.{Path, same_part, under, is_node, is_fresh}
use Rattle.jf_codec.specs.declared.format.Format.{Format}
use Rattle.jf_walk.proofs.SameParts.{same_part-exact, same_part-refl}
use Rattle.jf_standing.specs.Named.{NamedNode, is_alive, is_written, is_stale, is_at, alive_nodes_at, written_nodes_at, stale_nodes_at, map_at}
use Rattle.jf_standing.specs.Sound.{StandAt, IsSound}
use Rattle.jf_standing.specs.Standing.{Standing}
use Rattle.jf_standing.proofs.Lists.{one}
use Rattle.jf_standing.proofs.Counts.{count-filter, count-balance}
use Rattle.jf_standing.proofs.Sinces.{versions-before}

-- ---- one version further, for one node
balance : (v s w : ℕ) (b : Bool) → v < s → 1 ≤ w → one ((nat_le v w && nat_lt w s) && b) + one ((s == w) && b) ≡ one ((nat_le v (w - 1) && nat_lt (w - 1) s) && b) + one ((v == w) && b)
balance v s w true before some = grind (arith, nat_tests)
balance v s w false before some = grind (arith, nat_tests)

-- at each path as many nodes are alive or went stale at w as were alive before or were written at w
pub step-balance : (ns : List NamedNode) (w : ℕ) (p : Path) → 1 ≤ w → AllByRecursion (λ n. n.0.version < n.2) ns
    → count_by (is_at p) (alive_nodes_at w ns) + count_by (is_at p) (stale_nodes_at w ns) ≡ count_by (is_at p) (alive_nodes_at (w - 1) ns) + count_by (is_at p) (written_nodes_at w ns)
step-balance ns w p some before =
    ap₂ (λ a b. a + b) (count-filter (is_at p) (is_alive w) ns) (count-filter (is_at p) (is_stale w) ns)
    ∙ count-balance (λ n. is_alive w n && is_at p n) (λ n. is_stale w n && is_at p n) (λ n. is_alive (w - 1) n && is_at p n) (λ n. is_written w n && is_at p n) ns
    (All-weaker (λ n. n.0.version < n.2) _ (λ n lt. balance n.0.version n.2 w (is_at p n) lt some) ns before)
    ∙ sym (ap₂ (λ a b. a + b) (count-filter (is_at p) (is_alive (w - 1)) ns) (count-filter (is_at p) (is_written w) ns))

-- ---- one path of two maps
pub same_part-turned : (es fs : Part) → same_part es fs ≡ same_part fs es
same_part-turned es fs = same_test (same_part es fs) (same_part fs es)
    (λ is. ap (λ x. same_part fs x) (same_part-exact es fs is) ∙ same_part-refl fs)
    (λ is. ap (λ x. same_part es x) (same_part-exact fs es is) ∙ same_part-refl es)

paths : (a b s : Bool) → one a + one (b && not (a && s)) ≡ one b + one (a && not (b && s))
paths true true true = refl
paths true true false = refl
paths true false s = refl
paths false true s = refl
paths false false s = refl

-- at each path as many nodes are in the new map or went stale as are in the old map or are fresh
pub path-balance : (old new : Part) (p : Path) → one (is_node 0 p new) + one (is_fresh new old p) ≡ one (is_node 0 p old) + one (is_fresh old new p)
unfolding is_node is_fresh
path-balance old new [] = refl
path-balance old new (i ∷ p) =
    let a = is_node 0 (i ∷ p) new in
    let b = is_node 0 (i ∷ p) old in
    ap (λ s. one a + one (b && not (a && s))) (same_part-turned (under 0 (i ∷ p) new) (under 0 (i ∷ p) old)) ∙ paths a b (same_part (under 0 (i ∷ p) old) (under 0 (i ∷ p) new))

-- ---- all versions
-- if the nodes of one map stand, and a step leads to another, then the nodes of that one stand
pub step-stands : (ns : List NamedNode) (w : ℕ) (old new : Part) → 1 ≤ w → AllByRecursion (λ n. n.0.version < n.2) ns
    → StandAt (λ p. is_node 0 p old) (alive_nodes_at (w - 1) ns) → StandAt (is_fresh old new) (written_nodes_at w ns) → StandAt (is_fresh new old) (stale_nodes_at w ns)
    → StandAt (λ p. is_node 0 p new) (alive_nodes_at w ns)
step-stands ns w old new some before stood fresh stale p =
    omega (arith, step-balance ns w p some before, path-balance old new p, stood p, fresh p, stale p)

stands_from : (fmt : Format) (s : Standing) → IsSound fmt s → (k w : ℕ) → w ≡ s.floor + k → w ≤ s.head → StandAt (λ p. is_node 0 p (entries (map_at w s.nodes))) (alive_nodes_at w s.nodes)
stands_from fmt s sound zero w at high = subst (λ v. StandAt (λ p. is_node 0 p (entries (map_at v s.nodes))) (alive_nodes_at v s.nodes)) (let e : s.floor ≡ w = omega arith in e) sound.floor_nodes
stands_from fmt s sound (suc k) w at high =
    let step = sound.steps w (omega arith) high in
    step-stands s.nodes w (entries (map_at (w - 1) s.nodes)) (entries (map_at w s.nodes)) (omega arith) (versions-before fmt s sound) (stands_from fmt s sound k (w - 1) (omega arith) (omega arith)) step.fresh step.stale

-- at each version from floor to head the nodes of its map stand
pub stands : (fmt : Format) (s : Standing) → IsSound fmt s → (w : ℕ) → s.floor ≤ w → w ≤ s.head → StandAt (λ p. is_node 0 p (entries (map_at w s.nodes))) (alive_nodes_at w s.nodes)
stands fmt s sound w low high = stands_from fmt s sound (w - s.floor) w (omega arith) high
