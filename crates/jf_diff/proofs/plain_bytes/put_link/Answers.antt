use Rattle.std.proofs.Common.{◌≡◌, ◌++◌, ◌≤◌, ◌<◌, ◌^◌, List, [], length, arith, subst, sym, ap, ◌∙◌, Result, Ok, Err}
use Rattle.std.specs.Prelude.{OnOk}
use Rattle.std.specs.List.{AllByRecursion}
use Rattle.jf_path.specs.declared.children.Child.{Child}
use Rattle.jf_path.specs.declared.node.PlainNode.TheVariants as node
use Rattle.jf_codec.specs.declared.format.Format.TheVariants as format
use Rattle.jf_codec.specs.Spelling.{IsNode, node_bytes}
use Rattle.jf_codec.proofs.Counted.{small_nibbles}
use Rattle.jf_node.specs.LinkFacts.{IsLink}
use Rattle.jf_node.specs.LinkValue.{LinkValue}
use Rattle.jf_diff.specs.Plains.{children_list, plain_at}
use Rattle.jf_diff.proofs.PlainNodes.{inner_plain}
use Rattle.jf_diff.proofs.PlainBytes.{leaf_short, leaf_spelled, leaf_valid, inner_valid}
use Rattle.jf_diff.proofs.plain_bytes.put_link.Goals as goal

on_ok : {T E : Type 0} {X : Type 0} (r : Result T E) → X → OnOk r X
on_ok (Ok t) x = x
on_ok (Err e) x = tt

pub put_leaf-requires : goal.put_leaf-requires
put_leaf-requires c = leaf_short c.args.link.now c.in-Leaf.key.now c.in-Leaf.value.now c.in-Leaf.value_hash.now c.know.ensures c.in-Leaf.ensures.shows

pub returns-in-Leaf-clause-valid : goal.returns-in-Leaf-clause-valid
returns-in-Leaf-clause-valid c = on_ok c.put_leaf.result (leaf_valid c.args.link.now c.in-Leaf.key.now c.in-Leaf.value.now c.in-Leaf.value_hash.now c.know.ensures c.in-Leaf.ensures.shows)

pub returns-in-Leaf-clause-bytes : goal.returns-in-Leaf-clause-bytes
returns-in-Leaf-clause-bytes c =
    subst (λ t. OnOk c.put_leaf.result (c.put_leaf.new.out ≡ t))
    (leaf_spelled c.args.link.now c.in-Leaf.key.now c.in-Leaf.value.now c.in-Leaf.value_hash.now c.args.out.now c.in-Leaf.ensures.shows)
    c.put_leaf.ensures.ok

-- the list that was put together is what the node says of its children
listed : (x : LinkValue) (cs list : List Child) → 2 ≤ length x.entries → cs ≡ list → list ≡ children_list x → node.Inner cs ≡ plain_at x []
listed x cs list many same is = ap (λ ds. node.Inner ds) (same ∙ is) ∙ inner_plain x many

-- and so the node has a spelling
valid : (x : LinkValue) (cs list : List Child) → IsLink x → cs ≡ list → list ≡ children_list x → AllByRecursion (λ c. c.version < 2 ^ 64) cs → IsNode format.Two (plain_at x [])
valid x cs list link same is low = inner_valid x link (subst (AllByRecursion (λ c. c.version < 2 ^ 64)) (same ∙ is) low)

pub put_inner-requires-clause-nibbles : goal.put_inner-requires-clause-nibbles
put_inner-requires-clause-nibbles c =
    let x = c.args.link.now in
    let is = listed x _ _ (omega (arith, ap length c.in-Inner.ensures.shows.entries, c.in-Inner.ensures.shows.children.several)) c.as_slice-children.ensures.value c.in_ok-children_into-in-Inner.ensures in
    small_nibbles format.Two _ (subst (IsNode format.Two) (sym is) (valid x _ _ c.know.ensures c.as_slice-children.ensures.value c.in_ok-children_into-in-Inner.ensures c.know_versions.ensures))

pub returns-in_ok-children_into-in-Inner-clause-valid : goal.returns-in_ok-children_into-in-Inner-clause-valid
returns-in_ok-children_into-in-Inner-clause-valid c =
    on_ok c.put_inner.result (valid c.args.link.now _ _ c.know.ensures c.as_slice-children.ensures.value c.in_ok-children_into-in-Inner.ensures c.know_versions.ensures)

pub returns-in_ok-children_into-in-Inner-clause-bytes : goal.returns-in_ok-children_into-in-Inner-clause-bytes
returns-in_ok-children_into-in-Inner-clause-bytes c =
    let is = listed c.args.link.now _ _ (omega (arith, ap length c.in-Inner.ensures.shows.entries, c.in-Inner.ensures.shows.children.several)) c.as_slice-children.ensures.value c.in_ok-children_into-in-Inner.ensures in
    subst (λ n. OnOk c.put_inner.result (c.put_inner.new.out ≡ c.args.out.now ++ node_bytes format.Two n)) is c.put_inner.ensures.ok
