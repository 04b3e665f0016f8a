use Rattle.std.proofs.Common.{◌∙◌, ap, sym, subst, ◌≤◌, take, arith}
use Rattle.std.specs.List.{count_by}
use Rattle.jf_diff.proofs.PlainBytes.{count-children, count-few}
use Rattle.jf_diff.proofs.plain_bytes.count_of_children.Goals as goal

pub overflow_cast-result : goal.overflow_cast-result
overflow_cast-result c = let few : c.rank.result ≤ 16 = subst (λ n. n ≤ 16) (sym c.rank.ensures) (count-few c.children.result) in omega (arith, few)

pub returns : goal.returns
returns c =
    c.rank.ensures ∙ ap (λ bits. count_by (λ bit. bit) (take 16 bits)) c.children.ensures
    ∙ count-children c.args.link.now c.branches_of-children.result.now c.requires c.branches_of-children.ensures c.know.ensures.links
