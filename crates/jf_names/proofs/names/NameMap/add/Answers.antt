use Rattle.std.proofs.Common.{◌≡◌, ◌∙◌, ap, sym, subst, T}
use Rattle.std.specs.Cmp.Lexicographic.{nat_list_cmp_total}
use Rattle.std.specs.FinMap.{is_sorted}
use Rattle.jf_path.specs.Keys.{key_cmp}
use Rattle.jf_hash.specs.Hashes.{K}
use Rattle.jf_names.specs.Names.{with_new_name}
use Rattle.jf_names.proofs.NamesLaws.{with_new_name-there, with_new_name-absent}
use Rattle.jf_names.proofs.OrderedEntries.{is_sorted-insert_entry}
use Rattle.jf_names.proofs.names.NameMap.add.Goals as goal

pub returns-then-contains_key-clause-ok : goal.returns-then-contains_key-clause-ok
returns-then-contains_key-clause-ok c =
    subst (λ es. es ≡ with_new_name es c.args.name) c.self.view_is
    (with_new_name-there c.key_of-key.result c.args.name c.self.inside.names.entries c.contains_key.result (c.key_of-key.ensures ∙ ap K c.as_slice.ensures) c.contains_key.ensures c.if-contains_key.true)

pub invariant_of-self-2 : goal.invariant_of-self-2
invariant_of-self-2 c =
    subst (λ es. T (is_sorted key_cmp es)) (sym c.in_ok-insert.ensures.entries) (is_sorted-insert_entry key_cmp nat_list_cmp_total c.key_of-key.result c.args.name c.self.inside.names.entries c.self.invariant)

pub returns-clause-ok : goal.returns-clause-ok
returns-clause-ok c =
    c.in_ok-insert.ensures.entries
    ∙ with_new_name-absent c.key_of-key.result c.args.name c.self.inside.names.entries c.contains_key.result (c.key_of-key.ensures ∙ ap K c.as_slice.ensures) c.contains_key.ensures c.if-contains_key.false
    ∙ ap (λ es. with_new_name es c.args.name) c.self.view_is
