use Rattle.std.proofs.Common.{◌<◌, length, get_or, ap, ◌∙◌, subst}
use Rattle.jf_plain.proofs.Histories.{map-at_place, within-head}
use Rattle.jf_plain.proofs.versions.PlainVersions.map_of.Goals as goal

pub returns : goal.returns
returns c =
    let vs = c.self.inside.versions.items in
    let lookup = c.in_ok-kept.ensures.lookup in
    let lt : c.args.version < length vs = subst (λ ws. c.args.version < length ws) c.deref.ensures.value lookup.3.0 in
    (within-head vs c.args.self.now c.args.version c.self.view_is lt, map-at_place vs c.args.self.now c.args.version c.in_ok-kept.kept.now c.self.view_is lt (lookup.1 ∙ ap (λ ws. get_or ws c.args.version c.in_ok-kept.kept.now) c.deref.ensures.value))
