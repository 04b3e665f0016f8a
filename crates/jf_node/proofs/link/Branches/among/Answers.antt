use Rattle.std.proofs.Common.{◌∙◌, ◌≡◌, ◌+◌, ◌-◌, ap, ap₂, sym, arith, take, drop, map, Some}
use Rattle.jf_node.specs.Children.{entries_of_children}
use Rattle.jf_node.proofs.BranchLaws.{count, joined-among, ends}
use Rattle.jf_node.proofs.link.Branches.among.Goals as goal

pub slice_bounds-result-end : goal.slice_bounds-result-end
slice_bounds-result-end c = omega (arith, ends c.self.inside.there c.args.start c.args.width, c.rank-first.ensures, c.count-many.ensures, c.self.invariant.many, c.deref.ensures.value)

pub returns : goal.returns
returns c =
    let there = c.self.inside.there in
    let items = c.self.inside.links.items in
    let first = c.rank-first.result in
    let many : count (take c.args.width (drop c.args.start there)) ≡ first + c.count-many.result - first = omega (arith, c.count-many.ensures) in
    ap (λ xs. entries_of_children (take c.args.width (drop c.args.start xs))) (sym c.self.view_is)
    ∙ joined-among there items c.args.start c.args.width c.self.invariant.many
    ∙ ap₂ (λ k r. entries_of_children (map (λ x. Some x) (take k (drop r items)))) many (sym c.rank-first.ensures)
    ∙ ap (λ xs. entries_of_children (map (λ x. Some x) (take (first + c.count-many.result - first) (drop first xs)))) (sym c.deref.ensures.value)
