use Rattle.std.proofs.Common.{◌++◌, List, ℕ, sym, ap, ap₂, ◌∙◌}
use Rattle.jf_path.specs.declared.name.NodeName.{NodeName}
use Rattle.jf_path.specs.declared.node.PlainNode.{PlainNode}
use Rattle.jf_codec.specs.declared.format.Format.TheVariants as format
use Rattle.jf_codec.specs.Spelling.{node_bytes}
use Rattle.jf_codec.proofs.FieldLaws.{ok_is}
use Rattle.jf_standing.proofs.NodesRead.{name_read, node_read}
use Rattle.jf_diff.proofs.read_nodes.node_in_front.Goals as goal

pub unreachable-requires : goal.unreachable-requires
unreachable-requires c = let both = sym (name_read format.Two c.requires.0 c.args.bytes.now c.requires.1 c.requires.2 c.requires.4) ∙ c.in_default.ensures in cc

pub returns : goal.returns
returns c = λ x tail name is e.
    let named = ok_is (c.in-Ok.name, c.in-Ok.rest.now) (x.0, node_bytes format.Two x.1 ++ tail) (sym c.in-Ok.ensures ∙ name_read format.Two x c.args.bytes.now tail name e) in
    let read = ok_is (c.in-Ok-node_at.node, c.in-Ok-node_at.rest.now) (x.1, tail) (sym c.in-Ok-node_at.ensures ∙ node_read format.Two x.1 _ tail is (ap (λ (p : NodeName × List ℕ). p.1) named)) in (
      ap₂ (λ (n : NodeName) (m : PlainNode). (n, m)) (ap (λ (p : NodeName × List ℕ). p.0) named) (ap (λ (p : PlainNode × List ℕ). p.0) read),
      ap (λ (p : PlainNode × List ℕ). p.1) read,
    )
