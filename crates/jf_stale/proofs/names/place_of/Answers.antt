-- What the last name tells, and else the search.
use Rattle.std.proofs.Common.{◌≡◌, ◌-◌, get_or, refl, ◌∙◌, sym, subst, ap, Less, Greater}
use Rattle.std.proofs.lemmas.Result.{IfOk-weaker}
use Rattle.std.specs.List.Sorted.{IsPartitionPoint}
use Rattle.jf_path.specs.Names.{name_cmp}
use Rattle.jf_path.specs.NameLaws.{name_cmp_total}
use Rattle.jf_stale.proofs.MarkLaws.{name_cmp-exact}
use Rattle.jf_stale.proofs.Places.{gap-end, last-there, searched}
use Rattle.jf_stale.proofs.names.place_of.Goals as goal

pub returns-in-Less-clause-gap : goal.returns-in-Less-clause-gap
returns-in-Less-clause-gap c =
    let names = c.args.names.now in
    subst (λ n. IsPartitionPoint (λ y. name_cmp y c.args.name.now ≡ Less) (λ y. name_cmp y c.args.name.now ≡ Greater) names.items n) (sym c.len.ensures)
    (gap-end name_cmp_total c.args.name.now names.items names.len c.in-Some.last.now c.requires names.ok.0 (c.in-Some.ensures.variant.0 refl) c.in-Some.ensures.lookup (sym c.in-Less.ensures))

pub returns-in-Equal-clause-there : goal.returns-in-Equal-clause-there
returns-in-Equal-clause-there c =
    let names = c.args.names.now in
    let same = name_cmp-exact c.in-Some.last.now c.args.name.now (sym c.in-Equal.ensures) in
    λ d. ap (λ n. get_or names.items (n - 1) d) c.len-in-Equal.ensures ∙ last-there names.items names.len c.in-Some.last.now names.ok.0 (c.in-Some.ensures.variant.0 refl) c.in-Some.ensures.lookup d ∙ same

pub returns-in-Greater-clause-there : goal.returns-in-Greater-clause-there
returns-in-Greater-clause-there c = IfOk-weaker c.binary_search.result _ _ (λ i at d. name_cmp-exact _ c.args.name.now (at d)) c.binary_search.ensures.ok

pub returns-in-Greater-clause-gap : goal.returns-in-Greater-clause-gap
returns-in-Greater-clause-gap c = searched name_cmp_total c.args.name.now c.args.names.now.items c.binary_search.result c.requires c.binary_search.ensures.position
