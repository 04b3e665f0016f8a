-- The name at its place is the only one to remove.
use Rattle.std.specs.Prelude.{OnSome}
use Rattle.std.proofs.Common.{◌≡◌, ap, ap₂, sym, ◌∙◌, subst, arith, List}
use Rattle.std.specs.List.{list_any, remove}
use Rattle.std.specs.Ordering.{eq_by_cmp}
use Rattle.jf_path.specs.NameLaws.{name_cmp_total}
use Rattle.jf_path.specs.declared.name.NodeName.{NodeName}
use Rattle.jf_path.specs.Names.{name_cmp}
use Rattle.jf_stale.specs.Groups.{NameGroup, AreAscendingNames, without_name}
use Rattle.jf_stale.proofs.Places.{without-there, without-apart, without-ascends, apart-gap, any-there, any-gap}
use Rattle.jf_stale.proofs.names.NamesSince.remove.Goals as goal

removed : (c : goal.After-remove) → c.remove.new.self.items ≡ without_name c.args.name.now c.self.inside.names.items
removed c =
    let name = c.args.name.now in
    let lt = c.in-Ok.ensures.within in
    subst (λ r. OnSome r (c.remove.new.self.items ≡ remove c.self.inside.names.items c.in-Ok.at)) (c.remove.ensures.succeeds name (omega (arith, lt))) c.remove.ensures.items
    ∙ sym (without-there name_cmp_total name c.self.inside.names.items c.in-Ok.at c.self.invariant lt (c.in-Ok.ensures.there name))

pub invariant_of-self : goal.invariant_of-self
invariant_of-self c = subst AreAscendingNames (sym (removed c)) (without-ascends name_cmp_total c.args.name.now c.self.inside.names.items c.self.invariant)

pub returns-in-Ok-clause-found : goal.returns-in-Ok-clause-found
returns-in-Ok-clause-found c =
    sym (ap (λ (g : NameGroup). list_any (eq_by_cmp name_cmp c.args.name.now) g.1) (sym c.self.view_is) ∙ any-there name_cmp_total c.args.name.now c.self.inside.names.items c.in-Ok.at c.in-Ok.ensures.within c.in-Ok.ensures.there)

pub returns-in-Ok-clause-others : goal.returns-in-Ok-clause-others
returns-in-Ok-clause-others c =
    ap₂ (λ v ns. (v, ns)) (ap (λ (g : NameGroup). g.0) c.self.view_is) (removed c ∙ ap (λ (g : NameGroup). without_name c.args.name.now g.1) c.self.view_is)

pub returns-in-Err-clause-found : goal.returns-in-Err-clause-found
returns-in-Err-clause-found c =
    sym (ap (λ (g : NameGroup). list_any (eq_by_cmp name_cmp c.args.name.now) g.1) (sym c.self.view_is) ∙ any-gap name_cmp_total c.args.name.now c.self.inside.names.items c.in-Err.field-0 c.in-Err.ensures.gap)

pub returns-in-Err-clause-others : goal.returns-in-Err-clause-others
returns-in-Err-clause-others c =
    let names = c.self.inside.names.items in
    let seen : names ≡ c.args.self.now.1 = ap (λ (g : NameGroup). g.1) c.self.view_is in
    ap (λ (ns : List NodeName). (c.args.self.now.0, ns)) (sym seen ∙ sym (without-apart name_cmp_total c.args.name.now names (apart-gap name_cmp_total c.args.name.now names c.in-Err.field-0 c.in-Err.ensures.gap)) ∙ ap (without_name c.args.name.now) seen)
