-- How large the file of a checkpoint is, whatever its generation and the counts in its nodes.
use Rattle.std.specs.Prelude.{flat_map, reverse}
use Rattle.std.proofs.Common.{◌≡◌, ℕ, ◌+◌, List, [], ◌∷◌, length, map, sym, ◌∙◌, arith, refl}
use Rattle.std.proofs.lemmas.List.{length-append}
use Rattle.jf_path.specs.Numbers.{two_bytes}
use Rattle.jf_path.specs.declared.children.Child.{Child}
use Rattle.jf_path.specs.declared.node.PlainNode.{PlainNode}
use Rattle.jf_path.specs.declared.node.PlainNode.TheVariants as node
use Rattle.jf_frame.specs.Framing.{body}
use Rattle.jf_frame.proofs.Spelling.{length-eight, length-body}
use Rattle.jf_codec.specs.declared.format.Format.{Format}
use Rattle.jf_codec.specs.declared.format.Format.TheVariants as format
use Rattle.jf_codec.specs.Spelling.{node_bytes, child_bytes}
use Rattle.jf_codec.specs.Counted.{in_format, uncounted_child}
use Rattle.jf_payload.specs.Spelling.{live_bytes, record_bytes, checkpoint_kind}
use Rattle.jf_payload.specs.declared.records.Record.TheVariants as «record»
use Rattle.jf_payload.specs.Counted.{nodes_in}
use Rattle.jf_standing.specs.Named.{NamedNode}
use Rattle.jf_standing.specs.Standing.{Standing}
use Rattle.jf_standing.specs.Building.{checkpoint_of, nodes_by_name}
use Rattle.jf_check.specs.Stores.{checkpoint_file}

-- ---- nodes
child_long : (c : Child) → length (child_bytes format.Two c) ≡ 16 + length c.hash
child_long c = omega (arith, length-append {A = ℕ}, length-eight)

children_same : (cs : List Child) → length (flat_map (child_bytes format.Two) (map uncounted_child cs)) ≡ length (flat_map (child_bytes format.Two) cs)
children_same [] = refl
children_same (c ∷ cs) =
    omega (arith, length-append (child_bytes format.Two (uncounted_child c)) (flat_map (child_bytes format.Two) (map uncounted_child cs)), length-append (child_bytes format.Two c) (flat_map (child_bytes format.Two) cs), child_long c, child_long (uncounted_child c), children_same cs)

inner_long : (cs : List Child) → length (node_bytes format.Two (node.Inner cs)) ≡ 5 + length (flat_map (child_bytes format.Two) cs)
unfolding node_bytes two_bytes
inner_long cs = omega arith

-- a node in format 2 is as long with the counts as without them
node_same : (fmt : Format) (n : PlainNode) → length (node_bytes format.Two (in_format fmt n)) ≡ length (node_bytes format.Two n)
node_same format.One node.Null = refl
node_same format.One (node.Leaf key value) = refl
node_same format.One (node.Inner cs) = omega (arith, inner_long cs, inner_long (map uncounted_child cs), children_same cs)
node_same format.Two n = refl

live_same : (fmt : Format) (n : NamedNode) → length (live_bytes format.Two (n.0, in_format fmt n.1, n.2)) ≡ length (live_bytes format.Two n)
live_same fmt n = omega (arith, length-append {A = ℕ}, node_same fmt n.1)

pub nodes_same : (fmt : Format) (ns : List NamedNode) → length (flat_map (live_bytes format.Two) (nodes_in fmt ns)) ≡ length (flat_map (live_bytes format.Two) ns)
nodes_same fmt [] = refl
nodes_same fmt (n ∷ ns) =
    omega (arith, length-append (live_bytes format.Two (n.0, in_format fmt n.1, n.2)) (flat_map (live_bytes format.Two) (nodes_in fmt ns)), length-append (live_bytes format.Two n) (flat_map (live_bytes format.Two) ns), live_same fmt n, nodes_same fmt ns)

-- ---- files
payload_long : (g b f h : ℕ) (roots : List (List ℕ)) (nodes : List NamedNode) → length (record_bytes format.Two («record».Checkpoint g b f h roots nodes)) ≡ 40 + length (flat_map (λ h. h) roots) + length (flat_map (live_bytes format.Two) nodes)
unfolding record_bytes
payload_long g b f h roots nodes = omega (arith, length-append {A = ℕ}, length-eight)

-- the bytes of a checkpoint's file: 51, its roots, and its nodes
pub file_long : (g : ℕ) (s : Standing) → length (checkpoint_file g s) ≡ 51 + length (flat_map (λ h. h) (reverse s.roots)) + length (flat_map (live_bytes format.Two) (nodes_by_name s.nodes))
file_long g s =
    let payload = record_bytes format.Two (checkpoint_of g s) in
    omega (arith, length-append (body (checkpoint_kind format.Two) payload) (0 ∷ []), length-body (checkpoint_kind format.Two) payload, payload_long g s.base s.floor s.head (reverse s.roots) (nodes_by_name s.nodes))

-- the file is as long in one generation as in another
pub long_in_each : (g h : ℕ) (s : Standing) → length (checkpoint_file g s) ≡ length (checkpoint_file h s)
long_in_each g h s = file_long g s ∙ sym (file_long h s)
