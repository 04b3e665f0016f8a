-- What the last version tells, and else the search.
use Rattle.std.proofs.Common.{◌-◌, ◌<◌, get_or, refl, ◌∙◌, sym, subst, ap, rules, nat_cmp}
use Rattle.std.proofs.lemmas.List.Sorted.{answers_always}
use Rattle.std.specs.List.Sorted.{IsPartitionPoint}
use Rattle.jf_stale.specs.Groups.{NameGroup}
use Rattle.jf_stale.proofs.GroupLaws.{version-above, version-last, version-found, version-missing}
use Rattle.jf_stale.proofs.groups.place_of.Goals as goal

pub returns-in-Less-clause-gap : goal.returns-in-Less-clause-gap
returns-in-Less-clause-gap c =
    let groups = c.args.groups.now in
    subst (λ n. IsPartitionPoint (λ (g : NameGroup). g.0 < c.args.since) (λ g. c.args.since < g.0) groups.items n) (sym c.len.ensures)
    (version-above c.args.since groups.items groups.len c.in-Some.last.now c.requires groups.ok.0 (c.in-Some.ensures.variant.0 refl) c.in-Some.ensures.lookup (ap (λ v. nat_cmp v c.args.since) (sym c.since.ensures) ∙ sym c.in-Less.ensures))

pub returns-in-Equal-clause-there : goal.returns-in-Equal-clause-there
returns-in-Equal-clause-there c =
    let groups = c.args.groups.now in
    λ d. ap (λ n. (get_or groups.items (n - 1) d).0) c.len-in-Equal.ensures
    ∙ version-last c.args.since groups.items groups.len c.in-Some.last.now groups.ok.0 (c.in-Some.ensures.variant.0 refl) c.in-Some.ensures.lookup (ap (λ v. nat_cmp v c.args.since) (sym c.since.ensures) ∙ sym c.in-Equal.ensures) d

pub returns-in-Greater-clause-there : goal.returns-in-Greater-clause-there
returns-in-Greater-clause-there c =
    version-found c.args.since c.args.groups.now.items c.binary_search_by_key.result (c.binary_search_by_key.ensures.position (λ (g : NameGroup). g.0) (answers_always _ _ _ (λ f a r g called. search rules)))

pub returns-in-Greater-clause-gap : goal.returns-in-Greater-clause-gap
returns-in-Greater-clause-gap c =
    version-missing c.args.since c.args.groups.now.items c.binary_search_by_key.result c.requires (c.binary_search_by_key.ensures.position (λ (g : NameGroup). g.0) (answers_always _ _ _ (λ f a r g called. search rules)))
