use Rattle.std.proofs.Common.{ap, ap₂, ◌∙◌, ◌∷◌, [], subst}
use Rattle.std.specs.Option.{option_copied}
use Rattle.jf_path.specs.declared.node.PlainNode.TheVariants as node
use Rattle.jf_diff.specs.OptionalNodes.{IsOfVersion}
use Rattle.jf_diff.proofs.TopLaws.{ok_weaker, fresh_none, fresh_some}
use Rattle.jf_diff.proofs.PathNames.{name_of_path}
use Rattle.jf_diff.proofs.top.fresh_of.Goals as goal

pub list_fresh-requires-clause-own : goal.list_fresh-requires-clause-own
list_fresh-requires-clause-own g c = subst (IsOfVersion c.args.version) (ap option_copied c.in-Some.is) c.requires.own

pub returns-in-None-clause-lists : goal.returns-in-None-clause-lists
returns-in-None-clause-lists g c =
    ok_weaker _ _
    (λ l is es before under. fresh_none c.args.version (option_copied c.args.top) l (ap option_copied c.in-None.is) (is ∙ ap₂ (λ v p. (name_of_path v p, node.Null) ∷ []) c.top_name.ensures.version c.top_name.ensures.path) es)
    c.one_node.result c.one_node.ensures

pub returns-in_ok-list_fresh-in-Some-clause-lists : goal.returns-in_ok-list_fresh-in-Some-clause-lists
returns-in_ok-list_fresh-in-Some-clause-lists g c =
    fresh_some c.args.version (option_copied c.args.top) c.in-Some.link.now c.empty.result c.new-nodes.result _ (ap option_copied c.in-Some.is) c.requires.top c.empty.ensures c.new-nodes.ensures c.in_ok-list_fresh-in-Some.ensures.lists
