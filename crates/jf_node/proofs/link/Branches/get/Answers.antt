use Rattle.std.proofs.Common.{◌∙◌, ap, sym, get_or, None, Some}
use Rattle.jf_path.proofs.BitmapLaws.{spread-here}
use Rattle.jf_node.proofs.BranchLaws.{spread-none}
use Rattle.jf_node.proofs.link.Branches.get.Goals as goal

pub returns-then-has : goal.returns-then-has
returns-then-has c =
    let there = c.self.inside.there in
    let items = c.self.inside.links.items in
    let place = c.get-place.result in
    let own = c.index.result.now in
    ap (λ x. Some x) (c.index.ensures ∙ ap (λ r. get_or items r own) c.rank.ensures)
    ∙ sym (spread-here there items place own c.self.invariant.many (sym c.has.ensures ∙ c.if-has.true))
    ∙ ap (λ xs. get_or xs place None) c.self.view_is ∙ ap (λ k. get_or c.args.self.now k None) c.get-place.ensures.value

pub returns-else-has : goal.returns-else-has
returns-else-has c =
    let there = c.self.inside.there in
    let items = c.self.inside.links.items in
    let place = c.get-place.result in
    sym (spread-none there items place (sym c.has.ensures ∙ c.if-has.false))
    ∙ ap (λ xs. get_or xs place None) c.self.view_is ∙ ap (λ k. get_or c.args.self.now k None) c.get-place.ensures.value
