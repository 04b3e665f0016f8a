-- What the format keeps of a node has few children, and their hashes are 32 bytes long, so the node's own are too.
use Rattle.std.proofs.Common.{◌∙◌, ◌≤◌, length, ap, sym, subst, arith}
use Rattle.jf_codec.specs.Spelling.{IsNode, node_bytes}
use Rattle.jf_codec.specs.Counted.{in_format}
use Rattle.jf_codec.proofs.Counted.{small_nibbles}
use Rattle.jf_codec.proofs.Lengths.{few_children, whole_hashes}
use Rattle.jf_codec.proofs.length.node_len.Goals as goal

pub overflow_cast-as_slice : goal.overflow_cast-as_slice
overflow_cast-as_slice c =
    let sound = subst (λ n. IsNode c.args.format (in_format c.args.format n)) c.in-Inner.is c.requires in
    let few : length c.as_slice.result.now ≤ 16 = rw c.as_slice.ensures.value (few_children _ c.as_slice.ensures.sorted (small_nibbles c.args.format _ sound)) in
    omega (arith, few)

pub returns-in-Inner : goal.returns-in-Inner
returns-in-Inner c =
    let sound = subst (λ n. IsNode c.args.format (in_format c.args.format n)) c.in-Inner.is c.requires in
    c.inner_len.ensures c.in-Inner.children (sym (ap length c.as_slice.ensures.value)) (whole_hashes c.args.format _ sound) ∙ ap (λ n. length (node_bytes c.args.format n)) (sym c.in-Inner.is)
