-- A node is all that its own format keeps of it.
use Rattle.std.proofs.Common.{sym, subst}
use Rattle.jf_codec.specs.Spelling.{IsNode}
use Rattle.jf_codec.proofs.Counted.{in_format-same}
use Rattle.jf_codec.proofs.writing.encode_node.Goals as goal

pub put_node-requires : goal.put_node-requires
put_node-requires c =
    let valid = subst (λ f. IsNode f c.args.node.now) (sym c.format_of.ensures) c.requires in
    subst (IsNode c.format_of.result) (sym (in_format-same c.format_of.result c.args.node.now valid)) valid
