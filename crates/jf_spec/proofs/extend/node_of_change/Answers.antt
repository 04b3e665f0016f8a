use Rattle.std.proofs.Common.{◌∙◌, ap, [], ◌∷◌}
use Rattle.jf_spec.proofs.Extends.{removed, put_one, ok_is}
use Rattle.jf_spec.proofs.extend.node_of_change.Goals as goal

pub returns-in-None-clause-node : goal.returns-in-None-clause-node
returns-in-None-clause-node g c = c.empty.ensures ∙ ap (λ es. record { depth = c.args.depth; entries = es }) (removed c.args.change.now c.in-None.is)

pub returns-in-Some-clause-node : goal.returns-in-Some-clause-node
returns-in-Some-clause-node g c =
    ok_is c.leaf.result _ _
    (ap (λ es. record { depth = c.args.depth; entries = es }) (ap (λ v. (c.args.change.now.0, v) ∷ []) c.as_slice.ensures ∙ put_one c.args.change.now _ c.in-Some.is))
    c.leaf.ensures.node
