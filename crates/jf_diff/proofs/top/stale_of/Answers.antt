use Rattle.std.proofs.Common.{ap, ap₂, ◌∙◌, ◌∷◌, [], subst, arith, length}
use Rattle.std.proofs.lemmas.List.Sorted.{length_permutation}
use Rattle.std.specs.List.Sorted.{IsPermutation}
use Rattle.std.specs.Option.{option_copied}
use Rattle.jf_node.specs.Children.{content}
use Rattle.jf_diff.proofs.TopLaws.{ok_weaker, stale_none, stale_some, stale_distinct, sorted_link}
use Rattle.jf_diff.proofs.PathNames.{name_of_path}
use Rattle.jf_diff.proofs.top.stale_of.Goals as goal

pub sorted_names-requires : goal.sorted_names-requires
sorted_names-requires g c =
    stale_distinct c.args.head (option_copied c.args.old) (content (option_copied c.args.top)) c.list_stale.new.out.items
    (stale_some c.args.head c.args.version (option_copied c.args.old) (option_copied c.args.top) c.in-Some.link.now c.empty.result c.new-names.result.items _ (ap option_copied c.in-Some.is) c.requires.old c.empty.ensures c.new-names.ensures.items c.in_ok-list_stale-in-Some.ensures.lists c.requires.landed)
    c.requires.sorted (sorted_link (option_copied c.args.old) c.in-Some.link.now (ap option_copied c.in-Some.is) c.know.ensures)

pub returns-in-None-clause-lists : goal.returns-in-None-clause-lists
returns-in-None-clause-lists g c =
    ok_weaker _ _
    (λ l is. stale_none c.args.head (option_copied c.args.old) (option_copied c.args.top) l (ap option_copied c.in-None.is) (is ∙ ap₂ (λ v p. name_of_path v p ∷ []) c.top_name.ensures.version c.top_name.ensures.path))
    c.one_name.result c.one_name.ensures

pub returns-in_ok-list_stale-in-Some-clause-lists : goal.returns-in_ok-list_stale-in-Some-clause-lists
returns-in_ok-list_stale-in-Some-clause-lists g c =
    subst (λ ns. IsPermutation ns c.sorted_names.result)
    (stale_some c.args.head c.args.version (option_copied c.args.old) (option_copied c.args.top) c.in-Some.link.now c.empty.result c.new-names.result.items _ (ap option_copied c.in-Some.is) c.requires.old c.empty.ensures c.new-names.ensures.items c.in_ok-list_stale-in-Some.ensures.lists c.requires.landed)
    c.sorted_names.ensures

pub returns-in_ok-list_stale-in-Some-clause-cost : goal.returns-in_ok-list_stale-in-Some-clause-cost
returns-in_ok-list_stale-in-Some-clause-cost g c = omega (arith, c.in_ok-list_stale-in-Some.ensures.cost, ap length c.new-names.ensures.items, length_permutation _ _ c.sorted_names.ensures)
