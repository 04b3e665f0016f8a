-- A name is put into its gap.
use Rattle.std.proofs.Common.{◌≡◌, ap, ap₂, sym, ◌∙◌, List}
use Rattle.jf_path.specs.NameLaws.{name_cmp_total}
use Rattle.jf_path.specs.declared.name.NodeName.{NodeName}
use Rattle.jf_stale.specs.Groups.{NameGroup, with_name}
use Rattle.jf_stale.proofs.NameLaws.{name-added, added-ascends}
use Rattle.jf_stale.proofs.Places.{insert-there}
use Rattle.jf_stale.proofs.names.NamesSince.add.Goals as goal

pub invariant_of-self-in-Err : goal.invariant_of-self-in-Err
invariant_of-self-in-Err c =
    added-ascends c.args.name c.self.inside.names.items c.insert.new.self.items c.in-Err.at c.self.invariant c.in-Err.ensures.within c.in-Err.ensures.gap c.in_ok-insert-in-Err.ensures.items

pub returns-in-Ok-clause-ok : goal.returns-in-Ok-clause-ok
returns-in-Ok-clause-ok c =
    let names = c.self.inside.names.items in
    let seen : names ≡ c.args.self.now.1 = ap (λ (g : NameGroup). g.1) c.self.view_is in
    ap (λ (ns : List NodeName). (c.args.self.now.0, ns)) (sym seen ∙ sym (insert-there name_cmp_total c.args.name names c.in-Ok.field-0 c.self.invariant c.in-Ok.ensures.within (c.in-Ok.ensures.there c.args.name)) ∙ ap (with_name c.args.name) seen)

pub returns-in_ok-insert-in-Err-clause-ok : goal.returns-in_ok-insert-in-Err-clause-ok
returns-in_ok-insert-in-Err-clause-ok c =
    ap₂ (λ v ns. (v, ns)) (ap (λ (g : NameGroup). g.0) c.self.view_is)
    (name-added c.args.name c.self.inside.names.items c.insert.new.self.items c.in-Err.at c.in-Err.ensures.within c.in-Err.ensures.gap c.in_ok-insert-in-Err.ensures.items
    ∙ ap (λ (g : NameGroup). with_name c.args.name g.1) c.self.view_is)
