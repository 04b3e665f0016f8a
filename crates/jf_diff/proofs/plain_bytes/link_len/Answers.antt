use Rattle.std.proofs.Common.{◌≤◌, ◌∙◌, length, ap, sym, arith}
use Rattle.jf_codec.specs.Spelling.{node_bytes}
use Rattle.jf_codec.specs.declared.format.Format.TheVariants as format
use Rattle.jf_diff.specs.Plains.{children_list}
use Rattle.jf_diff.proofs.PlainNodes.{inner_plain}
use Rattle.jf_diff.proofs.PlainBytes.{leaf_bytes, hashes_long}
use Rattle.jf_diff.proofs.plain_bytes.link_len.Goals as goal

pub returns-in-Leaf : goal.returns-in-Leaf
returns-in-Leaf c = leaf_bytes c.args.link.now c.in-Leaf.key.now c.in-Leaf.value.now c.in-Leaf.value_hash.now c.know.ensures c.in-Leaf.ensures.shows

pub returns-in-Inner : goal.returns-in-Inner
returns-in-Inner c =
    let x = c.args.link.now in
    let many : 2 ≤ length x.entries = omega (arith, ap length c.in-Inner.ensures.shows.entries, c.in-Inner.ensures.shows.children.several) in
    c.inner_len.ensures (children_list x) (sym c.count_of_children.ensures) (hashes_long x) ∙ ap (λ n. length (node_bytes format.Two n)) (inner_plain x many)
