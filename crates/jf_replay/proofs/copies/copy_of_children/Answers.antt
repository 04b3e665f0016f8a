use Rattle.std.proofs.Common.{sym, ap, ◌∙◌, take, subst, ◌++◌, ◌∷◌, []}
use Rattle.jf_path.specs.Nodes.{ChildrenRiseFrom}
use Rattle.jf_replay.proofs.Fronts.{children-next}
use Rattle.jf_replay.proofs.copies.copy_of_children.Goals as goal

pub push-requires : goal.push-requires
push-requires c =
    let all = c.as_slice-child-items.result.now in
    subst (λ cs. ChildrenRiseFrom 0 (cs ++ c.child-item.result ∷ [])) (sym (c.loop-child.invariant ∙ ap (take c.loop-child.child-index) (sym c.as_slice-child-items.ensures.value)))
    (children-next all c.loop-child.child-index _ c.child-item.result c.loop-child-test.true c.child-item.is (subst (ChildrenRiseFrom 0) (sym c.as_slice-child-items.ensures.value) c.as_slice-child-items.ensures.sorted))
