use Rattle.std.proofs.Common.{◌++◌, ap, sym, ◌∙◌, append-nil, true}
use Rattle.std.specs.Option.{option_copied}
use Rattle.jf_model.specs.Nodes.{child_in_node}
use Rattle.jf_diff.proofs.PlainNodes.{versions_below, child_is, child_none, each_more, children_rise}
use Rattle.jf_diff.proofs.Walks.{inner_below, child_entries_none, child_entries_some}
use Rattle.jf_diff.proofs.plain_node.children_into.Goals as goal
use Rattle.jf_diff.proofs.plain_node.children_into.Goals.{in-Some+in_ok-push, in_default}

pub push-requires : goal.push-requires
push-requires c = children_rise c.args.link.now c.loop-n.n c.loop-n.list _ c.loop-n.invariant c.of-nibble.ensures

pub loop-n-preserved : goal.loop-n-preserved
loop-n-preserved c =
    let x = c.args.link.now in
    let below = inner_below x c.of-nibble.result c.branches_of-children.result.now (option_copied c.get.result) c.branches_of-children.ensures c.know.ensures.links c.get.ensures in
    each_more c.loop-n.n (child_in_node true (versions_below x) x.depth x.entries) c.loop-n.list c.match-get.list c.loop-n.invariant
    (elim c.match-get.branch [
      | in-Some+in_ok-push w ↦ w.list-is ∙ w.in_ok-push.ensures.ok
          ∙ ap (λ t. c.loop-n.list ++ t) (child_is x c.loop-n.n c.of-nibble.result w.in-Some.child.now w.version.result w.count-count.result w.hash.result c.requires (child_entries_some x c.of-nibble.result c.loop-n.n c.get.result w.in-Some.child below w.in-Some.is c.of-nibble.ensures) w.know-in-Some.ensures (sym c.of-nibble.ensures) w.version.ensures w.count-count.ensures w.hash.ensures)
      | in_default w ↦ w.list-is ∙ sym (append-nil c.loop-n.list)
          ∙ ap (λ t. c.loop-n.list ++ t) (sym (child_none x c.loop-n.n c.requires (child_entries_none x c.of-nibble.result c.loop-n.n c.get.result below w.in_default.is c.of-nibble.ensures)))
    ])
